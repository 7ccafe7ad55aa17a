-- The state of a writer (`std::io::Write`) after an index was written to it, and why an index is not written (the
-- library's own). The limits are those of gitformat-index, "A 12-byte header" and "End of Index Entry": 32 bits.
use Rattle.std.specs.Prelude.{◌≡◌, ℕ, ◌≤◌, ◌<◌, ◌^◌, Bool, true, List, length, Option, Result, MatchResult}
use Rattle.std.specs.Io.KnownBytes.{Appends}
use Rattle.index_parts.specs.Taking.{AppendsPrefix}
use Rattle.index_model.specs.Contents.{Contents}
use Rattle.index_model.specs.Image.{unmarked}
use Rattle.index_model.specs.Storable.{CanEncode}
use Rattle.index_model.specs.declared.write.Options.{Options}
use Rattle.index_model.specs.declared.write.Error.{Error}
use Rattle.index_model.specs.declared.write.Error.TheVariants as errors

-- the writer took a prefix of the bytes, and has failed; if the value is rejected, the writer is unchanged
abbrev pub Fails : {S : Type 0} → (S → Option (List ℕ)) → (S → Bool) → S → S → Error → List ℕ → Type 0
Fails taken failed old new (errors.Io e) bytes =
    AppendsPrefix (taken old) (taken new) bytes × (failed new ≡ true)
Fails taken failed old new errors.TooManyEntries bytes = new ≡ old
Fails taken failed old new errors.NulInPath bytes = new ≡ old
Fails taken failed old new errors.TooLarge bytes = new ≡ old

-- an Ok means that the writer took all bytes; it has failed only if it had before
abbrev pub Writes : {S T : Type 0} → (S → Option (List ℕ)) → (S → Bool) → S → S → Result T Error → List ℕ → Type 0
Writes taken failed old new r bytes =
    MatchResult r (λ _. Appends (taken old) (taken new) bytes × (failed new ≡ failed old))
    (λ e. Fails taken failed old new e bytes)

-- When a value is rejected with each error. Each occurs only if those before it don't. A writer's error isn't a
-- rejection.
abbrev pub RefusedWith : Contents → Options → Error → Type 0
RefusedWith v options errors.TooManyEntries = 2 ^ 32 ≤ length v.records
RefusedWith v options errors.NulInPath = (length v.records < 2 ^ 32) × (CanEncode options.version v → ⊥)
RefusedWith v options errors.TooLarge =
    (length v.records < 2 ^ 32) × CanEncode options.version v × (2 ^ 32 ≤ length (unmarked v options))
RefusedWith v options (errors.Io e) = ⊥
