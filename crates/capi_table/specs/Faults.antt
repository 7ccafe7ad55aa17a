-- What errors of reading and of comparing a cache tree mean (the library's own).
use Rattle.std.specs.Prelude.{Bool, true, false, Option, Some, None, Err, MatchOption}
use Rattle.std.specs.Option.{option_map}
use Rattle.gix_index.specs.Answer.{Answer, Fault, Header, OutOfMemory, NoEntry, Extension, TrailerLength, Verify}
use Rattle.gix_index.specs.DecodeError.{Error as DecodeError}
use Rattle.gix_index.specs.DecodeError.TheVariants as errors
use Rattle.gix_index.specs.DecodeErrors.{extension_fault}
use Rattle.gix_index.specs.HeaderErrors.{header_fault}
use Rattle.gix_index.specs.TreeIdsError.{Error as TreeIdsError}
use Rattle.gix_index.specs.TreeIdsError.TheVariants as tree_ids
use Rattle.gix_index.specs.WriteTreesError.TheVariants as writes
use Rattle.gix_index.specs.FileFaults.ReadError.{Error as ReadError}
use Rattle.gix_index.specs.FileFaults.ReadError.TheVariants as reads

-- ---- of reading

-- the error of the answer that an error of reading bytes represents, if any
abbrev pub decode_fault : DecodeError → Option Fault
decode_fault (errors.Header e) = Some (Header (header_fault e))
decode_fault errors.Hasher = None
decode_fault errors.OutOfMemory = Some OutOfMemory
decode_fault (errors.Entry i) = Some (NoEntry i)
decode_fault (errors.Extension e) = option_map Extension (extension_fault e)
decode_fault (errors.UnexpectedTrailerLength expected actual) = Some (TrailerLength expected actual)
decode_fault (errors.Verify actual expected) = Some (Verify actual expected)
decode_fault errors.Memory = None

-- what an error of reading a file's bytes states about the answer that P holds of; running out of memory states nothing
abbrev pub TableReadCause : ReadError → (Answer → Type 0) → Type 0
TableReadCause (reads.Io e) P = ⊥
TableReadCause (reads.Decode e) P = MatchOption (decode_fault e) ⊥ (λ fault. P (Err fault))
TableReadCause (reads.LinkExtension e) P = ⊥
TableReadCause reads.Memory P = Unit {0}

-- ---- of a comparison

-- memory ran out, also while the trees of the entries were made
abbrev pub wants_memory : TreeIdsError → Bool
wants_memory (tree_ids.Other path id count given number) = false
wants_memory (tree_ids.Ungiven path id count) = false
wants_memory (tree_ids.Entries writes.Memory) = true
wants_memory (tree_ids.Entries fault) = false
wants_memory tree_ids.Memory = true
