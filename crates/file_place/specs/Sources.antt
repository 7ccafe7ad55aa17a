-- The result and the effect of a call on an open file, over all that is known of it (the library's own).
use Rattle.std.specs.Prelude.{◌≡◌, ◌<◌, ◌≤◌, ◌+◌, ℕ, List, length, true, Result, IfErr, IfOk, IfSome, OnOk}
use Rattle.std.specs.Io.{StartsWith, appended_bytes}
use Rattle.std.specs.Io.KnownBytes.{Consumes, IsAtEnd}
use Rattle.std.specs.IoError.{error_kind}
use Rattle.std.specs.declared.io.Error.{Error}
use Rattle.std.specs.declared.io.ErrorKind.TheVariants.{OutOfMemory}
use Rattle.file_place.specs.Sizes.{IsOwnFault, max_len}
use Rattle.file_place.specs.World.{whole_of}
use Rattle.file_place.specs.declared.folder.Source.{Ghosts}

-- It is the same file, and whether its calls may fail stays.
pub record KeepsFile {S : Type 0} (source : Ghosts S) (old new : S) : Type 0 where
  pub stored : source.stored new ≡ source.stored old
  pub works : source.works new ≡ source.works old

-- The bytes that the file returned follow the bytes that were there. If `Ends` holds of their number, the file is at
-- its end.
pub record AppendsFrom {S : Type 0} (source : Ghosts S) (old new : S) (before after : List ℕ) (Ends : ℕ → Type 0)
    (result : Result ℕ Error) : Type 0 where
  pub appends : OnOk result (StartsWith after before)
  pub len : IfOk result (λ count. length after ≡ length before + count)
  pub consumes : OnOk result (Consumes (source.remaining old) (source.remaining new) (appended_bytes before after))
  pub end : IfOk result (λ count. Ends count → IsAtEnd (source.remaining new))
  pub stored : source.stored new ≡ source.stored old
  pub works : source.works new ≡ source.works old
  pub fault : source.works old ≡ true → IfErr result (λ e. error_kind e ≡ OutOfMemory)

-- The number of bytes is 0 only at the end of the file.
abbrev pub AppendsPiece : {S : Type 0} → Ghosts S → S → S → List ℕ → List ℕ → Result ℕ Error → Type 0
AppendsPiece source old new before after result = AppendsFrom source old new before after (λ count. count ≡ 0) result

-- There are fewer than `len` bytes only at the end of the file.
abbrev pub FillsBuffer : {S : Type 0} → Ghosts S → S → S → List ℕ → List ℕ → ℕ → Result ℕ Error → Type 0
FillsBuffer source old new before after len result = AppendsFrom source old new before after (λ _. length after < len)
    result

-- The bytes are all remaining bytes of the file, and at most those of the longest index.
pub record ReadsToEnd {S T : Type 0} (source : Ghosts S) (old new : S) (bytes : List ℕ) (result : Result T Error)
    : Type 0 where
  pub whole : OnOk result (IfSome (source.remaining old) (λ left. bytes ≡ left))
  pub bound : OnOk result (length bytes ≤ max_len)
  pub stored : source.stored new ≡ source.stored old
  pub works : source.works new ≡ source.works old
  pub fault : source.works old ≡ true → IfErr result (IsOwnFault (source.remaining old))

-- The file is at its start.
pub record ReturnsToStart {S T : Type 0} (source : Ghosts S) (old new : S) (result : Result T Error) : Type 0 where
  pub start : OnOk result (source.remaining new ≡ whole_of (source.stored new))
  pub stored : source.stored new ≡ source.stored old
  pub works : source.works new ≡ source.works old
  pub fault : source.works old ≡ true → IfErr result (λ e. error_kind e ≡ OutOfMemory)
