-- A lock that took the place of its file.
use Rattle.std.proofs.Common.{◌≡◌, ℕ, List, ◌++◌, length, true, Option, inl, inr, sym, ap, subst, ◌∙◌, arith}
use Rattle.std.specs.Prelude.{◌⊎◌, IfSome, codes}
use Rattle.std.proofs.lemmas.List.{length-append}
use Rattle.file_place.specs.World.{Absent, Holds, Known, Moves, Stays, World}
use Rattle.file_place.specs.Locks.{IsCommitted, lock_of, target_of}
use Rattle.file_place.specs.Times.{is_known_time}
use Rattle.file_place.specs.declared.locked.Place.{Place}
use Rattle.entry_fields.specs.declared.entry.stat.FileTime.{FileTime}

-- a lock has another path than its file
pub not_itself : (target lock : List ℕ) → lock ≡ target ++ codes ".lock" → lock ≡ target → ⊥
not_itself target lock is e =
    omega (arith, length-append target (codes ".lock"), ap length (sym is ∙ e))

-- what stays twice stays
pub stays_then : (a b c : Known) → Stays a b → Stays b c → Stays a c
stays_then a b c s t n = t (λ e. n (sym (s n) ∙ e)) ∙ s n

pub committed_so : (old new : World) (place : Place) (from to : List ℕ) (b c : Option (List ℕ))
    (Given : FileTime → Type 0) (time : FileTime) → lock_of place ≡ target_of place ++ codes ".lock"
    → Moves old new from to b Given → from ≡ lock_of place → to ≡ target_of place → b ≡ c
    → (is_known_time time ≡ true → Given time) → IsCommitted old new place c time
committed_so old new place from to b c Given time beside m f u e g = record {
  file = m.file;
  here = subst (λ (x : List ℕ). new x ≡ Holds m.file) u m.here;
  are_bytes = subst (λ (o : Option (List ℕ)). IfSome o (λ bs. m.file.bytes ≡ bs)) e m.are_bytes;
  is_time = λ h. m.is_time time (g h);
  unlocked = subst (λ (x : List ℕ). new x ≡ Absent) f
      (m.moved (λ same. not_itself (target_of place) (lock_of place) beside (sym f ∙ same ∙ u)));
  others = λ p out. m.others p (λ (h : (p ≡ from) ⊎ (p ≡ to)). out (by p h));
}
  where
    by : (p : List ℕ) → (p ≡ from) ⊎ (p ≡ to) → (p ≡ lock_of place) ⊎ (p ≡ target_of place)
    by p (inl h) = inl (h ∙ f)
    by p (inr h) = inr (h ∙ u)
