-- What is read of a split index and of its shared index.
use Rattle.std.proofs.Common.{◌≡◌, ℕ, Bool, true, false, List, inl, inr, Option, Some, None, Ok, Err, refl, sym, ap}
use Rattle.std.proofs.Common.{◌∙◌}
use Rattle.std.specs.Prelude.{◌⊎◌, MatchBool}
use Rattle.index_parts.specs.declared.hash.Kind.{Kind}
use Rattle.index_parts.specs.declared.hash.ObjectId.{ObjectId}
use Rattle.entry_fields.specs.declared.entry.stat.FileTime.{FileTime}
use Rattle.index_model.specs.declared.decode.Options.{Options}
use Rattle.index_model.specs.Answer.{Answer, Verify, IsAnswer}
use Rattle.index_state.specs.Edits.{without_link}
use Rattle.ext_split.specs.Link.{BitmapPair, LinkValue}
use Rattle.index_state.specs.Dissolve.{IsDissolved, MergesBy}
use Rattle.index_model.specs.Contents.{Contents}
use Rattle.index_model.specs.Storable.{IsStorable}
use Rattle.index_model.proofs.ReadValues.{value_is}
use Rattle.gix_index.specs.Checked.{IsFileAnswer}
use Rattle.file_windows.specs.Intact.{needs_check, digest_id, trailer_id}

answer_by : (t : Bool) (E N : Type 0) (P : Type 0) (a f : Answer) (v : Contents) (c : Option ObjectId) (x y : ObjectId)
    → a ≡ Ok (v, c) → f ≡ Err (Verify x y) → MatchBool t ((E × P) ⊎ (N × (a ≡ f))) P → P
answer_by true E N P a f v c x y e g (inl h) = h.1
answer_by true E N P a f v c x y e g (inr h) =
    let bad : ◌≡◌ {A = Answer} (Ok (v, c)) (Err (Verify x y)) = sym e ∙ h.1 ∙ g in
    absurd cc
answer_by false E N P a f v c x y e g h = h

-- what a file is read as, its bytes are read as
pub answer_read : (skip : Bool) (kind : Kind) (time : FileTime) (options : Options) (bytes : List ℕ) (v : Contents)
    (c : Option ObjectId) → IsFileAnswer skip kind time options bytes (Ok (v, c))
    → IsAnswer kind time options bytes (Ok (v, c))
answer_read skip kind time options bytes v c h =
    answer_by (needs_check skip kind bytes) _ _ (IsAnswer kind time options bytes (Ok (v, c))) (Ok (v, c))
    (Err (Verify (digest_id kind bytes) (trailer_id kind bytes))) v c (digest_id kind bytes)
    (trailer_id kind bytes) refl refl h

-- a value that was read is of the kind that it was read for
pub read_kind : (skip : Bool) (kind : Kind) (time : FileTime) (options : Options) (bytes : List ℕ) (v : Contents)
    (c : Option ObjectId) → IsFileAnswer skip kind time options bytes (Ok (v, c)) → v.kind ≡ kind
read_kind skip kind time options bytes v c h =
    ap (λ (w : Contents). w.kind)
    (value_is kind time options bytes v c (answer_read skip kind time options bytes v c h)).is

pub unlinked_storable : (v : Contents) → IsStorable v → IsStorable (without_link v)
unlinked_storable v h = record { ids = h.ids; paths = h.paths; fits = h.fits; tree = h.tree }

still_unlinked : (b : Option BitmapPair) (shared old new : Contents) → old.extensions.link ≡ None
    → MergesBy b shared old new → new.extensions.link ≡ None
still_unlinked None shared old new e h = ap (λ (v : Contents). v.extensions.link) h ∙ e
still_unlinked (Some b) shared old new e h = ap (λ (v : Contents). v.extensions.link) h.others ∙ e

pub dissolved_unlinked : (l : LinkValue) (shared old new : Contents) → old.extensions.link ≡ None
    → IsDissolved l shared old new → new.extensions.link ≡ None
dissolved_unlinked l shared old new e h = still_unlinked l.bitmaps shared old new e h.merged
