-- The result of reading a file whose digest is compared first (gitformat-index, "Hash checksum over the content of the
-- index file before this checksum").
use Rattle.std.specs.Prelude.{◌≡◌, ◌≢◌, ℕ, ◌⊎◌, Bool, List, Result, Ok, Err, MatchBool}
use Rattle.index_parts.specs.declared.hash.Kind.{Kind}
use Rattle.entry_fields.specs.declared.entry.stat.FileTime.{FileTime}
use Rattle.index_model.specs.declared.decode.Options.{Options}
use Rattle.index_model.specs.declared.error.Error.TheVariants as decoding
use Rattle.index_model.specs.Answer.{Answer, Fault, Verify, IsAnswer}
use Rattle.index_model.specs.DecodeErrors.{IsEarly, DecodeCause}
use Rattle.index_state.specs.State.{contents}
use Rattle.file_windows.specs.Intact.{needs_check, digest_id, trailer_id}
use Rattle.gix_index.specs.declared.file.File.{File}
use Rattle.file_errors.specs.declared.init.Error.{Error}
use Rattle.file_errors.specs.declared.init.Error.TheVariants as errors
use Rattle.gix_index.specs.File.{state_of, checksum_of}

-- the answer of the bytes if they are intact, or else the digest and the trailer
abbrev pub IsFileAnswer : Bool → Kind → FileTime → Options → List ℕ → Answer → Type 0
IsFileAnswer skip kind time options bytes a =
    MatchBool (needs_check skip kind bytes)
    (((digest_id kind bytes ≡ trailer_id kind bytes) × IsAnswer kind time options bytes a)
    ⊎ ((digest_id kind bytes ≢ trailer_id kind bytes)
    × (a ≡ Err (Verify (digest_id kind bytes) (trailer_id kind bytes)))))
    (IsAnswer kind time options bytes a)

-- P holds of the answer that a result represents. An allocation failure is a variant of its own. It implies only that
-- no early error is the answer.
abbrev pub FileCause : Result File Error → (Answer → Type 0) → Type 0
FileCause (Ok f) P = P (Ok (contents (state_of f), checksum_of f))
FileCause (Err (errors.Io e)) P = ⊥
FileCause (Err (errors.Decode decoding.Memory)) P = ⊥
FileCause (Err (errors.Decode e)) P = DecodeCause e P
FileCause (Err (errors.LinkExtension e)) P = ⊥
FileCause (Err errors.Memory) P = (fault : Fault) → IsEarly fault → P (Err fault) → ⊥
