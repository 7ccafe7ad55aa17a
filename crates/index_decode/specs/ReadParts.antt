-- The results of the steps of reading a file, by its properties and the parts that were read (the library's own).
use Rattle.std.specs.Prelude.{◌≡◌, ℕ, List, drop, length, MatchResult, Ok, Err, None, Option, Result}
use denote.Ref.{Bor}
use Rattle.index_parts.specs.declared.hash.Kind.{Kind}
use Rattle.index_parts.specs.declared.hash.ObjectId.{ObjectId}
use Rattle.entry_fields.specs.declared.entry.stat.FileTime.{FileTime}
use Rattle.entry_list.specs.Entries.{AreEntries}
use Rattle.entry_list.specs.Header.{count_of, header_of}
use Rattle.entry_list.specs.Record.{IdsAreOf, Record}
use Rattle.entry_list.specs.declared.Version.{Version}
use Rattle.entry_decode.specs.declared.entries.Read.{Read}
use Rattle.index_extensions.specs.EndMarker.{IsMarker}
use Rattle.index_model.specs.Answer.{Answer, IsAnswer, IsBehindHeader, IsEnding, IsVerified}
use Rattle.index_model.specs.Contents.{ExtensionIdsAreOf, PartsInStorage, parts_contents, parts_entries}
use Rattle.index_model.specs.DecodeErrors.{DecodeCause}
use Rattle.index_model.specs.ExtensionSteps.{AddsExtension, IsGathered, IsTaken, ExtensionItemCause}
use Rattle.index_model.specs.HeaderErrors.{header_fault}
use Rattle.index_model.specs.Outcome.{outcome_of}
use Rattle.index_model.specs.declared.Parts.{Parts}
use Rattle.index_model.specs.declared.decode.Options.{Options}
use Rattle.index_model.specs.declared.error.Error.{Error}
use Rattle.index_model.specs.declared.error.Header.{Header}
use Rattle.index_model.specs.declared.extension.Outcome.{Outcome}
use Rattle.index_decode.specs.declared.decode.ReadAs.{ReadAs}
use Rattle.index_decode.specs.declared.decode.ReadIndex.{ReadIndex}

-- all paths are in the storage, and all ids are of this hash algorithm
pub record AreOfKind (kind : Kind) (parts : Parts) : Type 0 where
  pub placed : PartsInStorage parts
  pub ids : IdsAreOf kind (parts_entries parts)
  pub extension_ids : ExtensionIdsAreOf kind (parts_contents parts).extensions

-- ---- the header

-- the version, the count of entries and the bytes after the header; or its error
abbrev pub DecodesHeader : Kind → List ℕ → Result (Version × ℕ × Bor (List ℕ)) Header → Type 0
DecodesHeader kind bytes result =
    MatchResult result
    (λ x. (header_of kind bytes ≡ Ok x.0) × (x.1 ≡ count_of bytes) × (x.2.now ≡ drop 12 bytes))
    (λ e. header_of kind bytes ≡ Err (header_fault e))

-- for all bytes of a file, whatever its time, an error of their header is the answer
abbrev pub HeaderCause : Kind → Options → List ℕ → Error → Type 0
HeaderCause kind options bytes e = (time : FileTime) → DecodeCause e (IsAnswer kind time options bytes)

-- for a head that is all `len` bytes of the file, whose end marker has the offset, an error of the header is the answer
abbrev pub WholeHeaderCause : Kind → Options → List ℕ → ℕ → Option ℕ → Error → Type 0
WholeHeaderCause kind options head len offset e =
    len ≡ length head → IsMarker kind head offset → HeaderCause kind options head e

-- ---- extensions

-- an extension of this signature and content changes the outcome so
abbrev pub AddsTo : Kind → Option ℕ → List ℕ → List ℕ → Outcome → Outcome → Type 0
AddsTo kind limit signature content old new = AddsExtension kind limit signature content (outcome_of old) (outcome_of
    new)

-- whatever bytes give its size, an error is that of an extension of this signature and content
abbrev pub ContentCause : Kind → List ℕ → List ℕ → Error → Type 0
ContentCause kind signature content e =
    (size : List ℕ) → ExtensionItemCause kind (record { signature = signature; size = size; content = content }) e

-- the outcome of all extensions in these bytes, and how many bytes remain
abbrev pub HasGathered : Kind → Option ℕ → List ℕ → Outcome × ℕ → Type 0
HasGathered kind limit bytes x = IsGathered kind limit bytes (outcome_of x.0) x.1

-- ---- the trailer

-- whatever the answer is without it, an error means that these ids differ
abbrev pub DigestCause : Option ObjectId → Option ObjectId → Error → Type 0
DigestCause expected actual e = (whole : Answer) → DecodeCause e (IsVerified expected actual whole)

-- ---- the bytes after the header

-- the answer by `count` entries at the start of bytes, and by the bytes after them
abbrev pub IsAnswerBehind : ReadAs → ℕ → List ℕ → Answer → Type 0
IsAnswerBehind r count bytes answer =
    IsBehindHeader r.object_hash r.timestamp r.options r.version count bytes answer

-- the answer by the bytes after entries, with those entries
abbrev pub IsEndingAs : ReadAs → Read → Answer → Type 0
IsEndingAs r read answer =
    IsEnding r.object_hash r.timestamp r.options r.version read.list.records read.rest.now answer

-- the answer by the bytes after entries, if the extensions have this outcome, and `left` bytes remain before a trailer
abbrev pub IsTakenAs : ReadAs → Read → Outcome → ℕ → List ℕ → Answer → Type 0
IsTakenAs r read outcome left trailer answer =
    IsTaken r.object_hash r.timestamp r.options r.version read.list.records (outcome_of outcome) left trailer answer

-- ---- the complete index

-- the result is the answer of which P holds: the value with the trailer's id, or the error
abbrev pub SaysRead : Result ReadIndex Error → (Answer → Type 0) → Type 0
SaysRead (Ok read) P = P (Ok (parts_contents read.parts, read.checksum))
SaysRead (Err e) P = DecodeCause e P

-- the bytes after `count` entries, which are at the start of the bytes after a header
pub record FollowCounted (r : ReadAs) (count : ℕ) (bytes after : List ℕ) : Type 0 where
  pub records : List Record
  pub entries : AreEntries r.version r.object_hash None bytes records after
  pub counted : length records ≡ count
