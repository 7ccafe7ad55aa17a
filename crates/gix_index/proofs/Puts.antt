-- A file of known bytes that took the place of another, as the image of an index.
use Rattle.std.proofs.Common.{◌≡◌, ℕ, List, [], ◌++◌, Bool, true, Option, Some, None, inl, inr, sym, ap}
use Rattle.std.proofs.Common.{subst, ◌∙◌}
use Rattle.std.specs.Prelude.{◌⊎◌, IfSome, codes}
use Rattle.std.specs.Io.KnownBytes.{Appends}
use Rattle.file_place.specs.Locks.{IsCommitted}
use Rattle.file_place.specs.Times.{is_known_time}
use Rattle.file_place.specs.World.{Absent, Holds, Makes, Moves, World}
use Rattle.file_place.specs.declared.lock.Place.{Place}
use Rattle.index_model.specs.Contents.{Contents}
use Rattle.index_model.specs.Image.{image}
use Rattle.index_model.specs.declared.write.Options.{Options}
use Rattle.entry_fields.specs.declared.entry.stat.FileTime.{FileTime}
use Rattle.file_place.proofs.Moved.{not_itself, stays_then}
use Rattle.gix_index.specs.InPlace.{IsPut, IsPutSince}

-- what was written to no bytes is all of them
all_of : (old new : Option (List ℕ)) (bytes whole : List ℕ) → old ≡ Some [] → Appends old new whole
    → IfSome new (λ bs. bytes ≡ bs) → bytes ≡ whole
all_of None new bytes whole e a h = absurd cc
all_of (Some xs) None bytes whole e a h = absurd a
all_of (Some xs) (Some ys) bytes whole e a h =
    let nothing : xs ≡ [] = cc in
    h ∙ a ∙ ap (λ (l : List ℕ). l ++ whole) nothing

pub put_since : (old new : World) (place : Place) (v : Contents) (options : Options) (empty filled : Option (List ℕ))
    (time : FileTime) → time ≡ v.time → empty ≡ Some [] → Appends empty filled (image v options)
    → IsCommitted old new place filled time → IsPutSince old new place v options
put_since old new place v options empty filled time since e a h = record {
  put = record {
    file = h.file;
    here = h.here;
    is_image = all_of empty filled h.file.bytes (image v options) e a h.are_bytes;
    unlocked = h.unlocked;
    others = h.others;
  };
  is_time = λ told. h.is_time (subst (λ t. is_known_time t ≡ true) (sym since) told) ∙ since;
}

pub put_over : (guards : Bool) (old mid new : World) (path lock made from to : List ℕ) (v : Contents)
    (options : Options) (empty filled : Option (List ℕ)) (Given : FileTime → Type 0) → lock ≡ path ++ codes ".lock"
    → made ≡ lock → from ≡ lock → to ≡ path → empty ≡ Some [] → Appends empty filled (image v options)
    → Makes guards old mid made → Moves mid new from to filled Given
    → IsPut old new (path ++ codes ".lock") path v options
put_over guards old mid new path lock made from to v options empty filled Given is b f u e a k m = record {
  file = m.file;
  here = subst (λ (x : List ℕ). new x ≡ Holds m.file) u m.here;
  is_image = all_of empty filled m.file.bytes (image v options) e a m.are_bytes;
  unlocked = subst (λ (x : List ℕ). new x ≡ Absent) (f ∙ is)
      (m.moved (λ same. not_itself path lock is (sym f ∙ same ∙ u)));
  others = λ p out. stays_then (old p) (mid p) (new p) (k.others p (λ h. out (inl (h ∙ b ∙ is))))
      (m.others p (λ (h : (p ≡ from) ⊎ (p ≡ to)). out (by p h)));
}
  where
    by : (p : List ℕ) → (p ≡ from) ⊎ (p ≡ to) → (p ≡ path ++ codes ".lock") ⊎ (p ≡ path)
    by p (inl h) = inl (h ∙ f ∙ is)
    by p (inr h) = inr (h ∙ u)
