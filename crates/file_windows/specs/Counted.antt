-- A file that is read or counted. If its first bytes aren't a header, its bytes are only counted (gitformat-index, "A
-- 12-byte header"; the library's own).
use Rattle.std.specs.Prelude.{◌≡◌, ◌++◌, ℕ, List, length, Err, true, Result, IfErr, IfOk, IfSome}
use Rattle.std.specs.declared.io.Error.{Error as IoError}
use Rattle.entry_list.specs.Header.{header_of}
use Rattle.file_place.specs.declared.folder.Source.{Ghosts}
use Rattle.index_model.specs.HeaderErrors.{header_fault}
use Rattle.index_model.specs.declared.error.Header.{Header}
use Rattle.index_parts.specs.declared.hash.Kind.{Kind}
use Rattle.file_windows.specs.ReadWhole.{IsFaultBehind}
use Rattle.file_windows.specs.declared.disk.CountedFile.{CountedFile}
use Rattle.file_windows.specs.declared.disk.CountedFile.TheVariants as counted

-- This number of bytes, for which `Are` holds, has a header with this error.
pub record AreHeadless (kind : Kind) (Are : List ℕ → Type 0) (len : ℕ) (fault : Header) : Type 0 where
  pub bytes : List ℕ
  pub are : Are bytes
  pub count : len ≡ length bytes
  pub header : header_of kind bytes ≡ Err (header_fault fault)

-- Bytes for which `Are` holds; or their number and the error of their header.
abbrev pub IsCountedFile : Kind → (List ℕ → Type 0) → CountedFile → Type 0
IsCountedFile kind Are (counted.Held bytes) = Are bytes.items
IsCountedFile kind Are (counted.Headless len fault) = AreHeadless kind Are len fault

-- The number of bytes that were read before and all that were left of a file after them.
pub record CountsRest {S : Type 0} (source : Ghosts S) (old : S) (before : List ℕ) (result : Result ℕ IoError)
    : Type 0 where
  pub count : IfOk result
      (λ len. (more : List ℕ) × IfSome (source.remaining old) (λ l. more ≡ l) × (len ≡ length (before ++ more)))
  pub fault : source.works old ≡ true → IfErr result (IsFaultBehind (length before) (source.remaining old))
