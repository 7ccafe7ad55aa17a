-- The error of the format that an error of the code represents (the library's own).
use Rattle.std.specs.Prelude.{Option, Some, Result, Ok, Err, MatchOption}
use Rattle.std.specs.Option.{option_map}
use Rattle.index_parts.specs.declared.hash.ObjectId.{ObjectId}
use Rattle.index_model.specs.declared.error.Error.{Error}
use Rattle.index_model.specs.declared.error.Error.TheVariants as errors
use Rattle.entry_decode.specs.declared.entries.Error.{Error as EntriesError}
use Rattle.entry_decode.specs.declared.entries.Error.TheVariants as entries
use Rattle.index_model.specs.HeaderErrors.{header_fault}
use Rattle.ext_split.specs.declared.link.decode.Error.{Error as LinkError}
use Rattle.ext_split.specs.declared.link.decode.Error.TheVariants as links
use Rattle.index_model.specs.declared.error.Extension.{Extension as ExtensionError}
use Rattle.index_model.specs.declared.error.Extension.TheVariants as extensions
use Rattle.index_model.specs.Answer.{Fault, Header, OutOfMemory, NoEntry, Extension, TrailerLength, Verify, Answer}
use Rattle.ext_split.specs.Link.{link_fault}
use Rattle.index_model.specs.Outcome.{ExtensionFault, Unimplemented, Link}
use Rattle.index_model.specs.Contents.{Contents}

-- the error of an extension that an error represents, if any; an allocation failure represents none
abbrev pub extension_fault : ExtensionError → Option ExtensionFault
extension_fault (extensions.MandatoryUnimplemented signature) = Some (Unimplemented signature)
extension_fault (extensions.Link e) = option_map Link (link_fault e)

-- the error that a link's error becomes
abbrev pub link_error : LinkError → Error
link_error links.Memory = errors.Memory
link_error e = errors.Extension (extensions.Link e)

-- the error that one of reading entries becomes
abbrev pub entries_error : EntriesError → Error
entries_error (entries.NoEntry i) = errors.Entry i
entries_error entries.Memory = errors.Memory

-- an error that is found before any allocation
abbrev pub IsEarly : Fault → Type 0
IsEarly (Header fault) = Unit {0}
IsEarly OutOfMemory = Unit {0}
IsEarly fault = ⊥

-- P holds of the answer that an error represents. An allocation failure implies only that no early error is the answer.
-- An error of hashing doesn't occur.
abbrev pub DecodeCause : Error → (Answer → Type 0) → Type 0
DecodeCause (errors.Header e) P = P (Err (Header (header_fault e)))
DecodeCause errors.Hasher P = ⊥
DecodeCause errors.OutOfMemory P = P (Err OutOfMemory)
DecodeCause (errors.Entry i) P = P (Err (NoEntry i))
DecodeCause (errors.Extension e) P = MatchOption (extension_fault e) ⊥ (λ fault. P (Err (Extension fault)))
DecodeCause (errors.UnexpectedTrailerLength expected actual) P = P (Err (TrailerLength expected actual))
DecodeCause (errors.Verify actual expected) P = P (Err (Verify actual expected))
DecodeCause errors.Memory P = (fault : Fault) → IsEarly fault → P (Err fault) → ⊥

-- the result, with this view of the state, is the answer of which P holds, if memory suffices
abbrev pub ResultIs : {S : Type 0} → (S → Contents) → Result (S × Option ObjectId) Error → (Answer → Type 0) → Type 0
ResultIs view (Ok x) P = P (Ok (view x.0, x.1))
ResultIs view (Err e) P = DecodeCause e P
