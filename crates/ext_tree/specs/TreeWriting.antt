-- The state of a writer (`std::io::Write`) after a cache tree was written to it, and the room that is left.
use Rattle.std.specs.Prelude.{◌≡◌, ℕ, ◌-◌, nat_lt, Bool, true, false, List, Option, Some, None, Result, Ok, Err}
use Rattle.std.specs.Prelude.{MatchResult, if◌then◌else◌}
use Rattle.index_parts.specs.declared.hash.Kind.{Kind}
use Rattle.index_parts.specs.Taking.{AppendsPrefix, Took}
use Rattle.ext_tree.specs.declared.write.Error.{Error}
use Rattle.ext_tree.specs.declared.write.Error.TheVariants as errors

-- a failed writer took a prefix of the bytes; a writer of a tree that is too large is unchanged
abbrev pub TreeFails : {S : Type 0} → (S → Option (List ℕ)) → (S → Bool) → S → S → Error → List ℕ → Type 0
TreeFails taken failed old new (errors.Io e) bytes =
    AppendsPrefix (taken old) (taken new) bytes × (failed new ≡ true)
TreeFails taken failed old new errors.TooLarge bytes = new ≡ old

-- success means that the writer took all bytes, and is marked failed only if it was before
abbrev pub WritesTree : {S T : Type 0} → (S → Option (List ℕ)) → (S → ℕ → Kind → List ℕ → Type 0) → (S → Bool) → S → S
    → Result T Error → List ℕ → Type 0
WritesTree taken hashed failed old new r bytes =
    MatchResult r (λ _. Took taken hashed old new bytes × (failed new ≡ failed old))
    (λ e. TreeFails taken failed old new e bytes)

-- whether the result is that the writer failed
abbrev pub is_io : {T : Type 0} → Result T Error → Bool
is_io (Ok x) = false
is_io (Err (errors.Io e)) = true
is_io (Err errors.TooLarge) = false

-- the room that is left after `len` bytes, if there is enough
abbrev pub room_left : ℕ → ℕ → Option ℕ
room_left room len = if nat_lt room len then None else Some (room - len)
