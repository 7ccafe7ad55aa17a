-- The result of reading a file: the value and the trailer's id, or the first error (gitformat-index).
use Rattle.std.specs.Prelude.{◌≡◌, ◌≢◌, ℕ, ◌+◌, ◌<◌, ◌||◌, ◌⊎◌, nat_lt, List, ◌++◌, length, drop, codes, Option, Some, true}
use Rattle.std.specs.Prelude.{None, Bool, Result, Ok, Err, MatchBool, MatchResult, if◌then◌else◌}
use Rattle.index_parts.specs.Id.{id_bytes, id_len, is_null, make_id}
use Rattle.index_parts.specs.declared.hash.Kind.{Kind}
use Rattle.index_parts.specs.declared.hash.ObjectId.{ObjectId}
use Rattle.entry_fields.specs.declared.entry.stat.FileTime.{FileTime}
use Rattle.index_extensions.specs.EndMarker.{IsMarker}
use Rattle.index_extensions.specs.Walk.{Item, IsWalk, left_of}
use Rattle.entry_list.specs.declared.Version.{Version}
use Rattle.index_model.specs.declared.decode.Options.{Options}
use Rattle.entry_list.specs.Entries.{AreEntries, LacksEntry}
use Rattle.entry_list.specs.Header.{HeaderFault, Corrupt, header_len, header_of, count_of}
use Rattle.entry_list.specs.Limits.{most_entries, is_too_large}
use Rattle.index_model.specs.Outcome.{Outcome, ExtensionFault, IsFirstFault, AreSound, IsOutcome}
use Rattle.entry_list.specs.Record.{Record, has_directory}
use Rattle.ext_split.specs.Link.{LinkValue}
use Rattle.index_model.specs.Contents.{Contents}

-- Why bytes are no index. The errors have these values: the entry's index; the expected and the actual length of the
-- trailer; the trailer and the expected id.
pub data Fault : Type 0 where
  Header : HeaderFault → Fault
  OutOfMemory : Fault
  NoEntry : ℕ → Fault
  Extension : ExtensionFault → Fault
  TrailerLength : ℕ → ℕ → Fault
  Verify : ObjectId → ObjectId → Fault

abbrev pub Answer : Type 0
Answer = Result (Contents × Option ObjectId) Fault

-- the trailer's id, or None if all its bytes are zero
abbrev pub trailer_checksum : Kind → List ℕ → Option ObjectId
trailer_checksum kind trailer = if is_null trailer then None else Some (make_id kind trailer)

-- the given answer, unless there are an expected id and a trailer's, and they differ
abbrev pub IsVerified : Option ObjectId → Option ObjectId → Answer → Answer → Type 0
IsVerified (Some expected) (Some actual) whole a =
    ((actual ≡ expected) × (a ≡ whole)) ⊎ ((actual ≢ expected) × (a ≡ Err (Verify actual expected)))
IsVerified expected actual whole a = a ≡ whole

-- Whether the extensions describe only the entries of the same file, and not those of a shared index too. This is so if
-- there is no link, or its id is null.
abbrev pub speak_of_own : Option LinkValue → Bool
speak_of_own None = true
speak_of_own (Some l) = is_null (id_bytes l.shared)

-- the value of these records and extensions
abbrev pub answer_contents : Kind → FileTime → Version → List Record → Outcome → Contents
answer_contents kind time version rs o = record {
  kind = kind;
  time = time;
  version = version;
  records = rs;
  extensions = record o { sparse = o.sparse || has_directory rs };
  fit = speak_of_own o.link;
}

-- The answer by the extensions, the bytes that remain after them, and the trailer. It is the first error of an
-- extension, a trailer of the wrong length, or the value.
pub data IsClosed (kind : Kind) (time : FileTime) (options : Options) (version : Version) (rs : List Record)
    (items : List Item) (tail trailer : List ℕ) (a : Answer) : Type 0 where
  faulty : (fault : ExtensionFault) → IsFirstFault kind items fault → a ≡ Err (Extension fault)
      → IsClosed kind time options version rs items tail trailer a
  left : AreSound kind items → left_of tail ≢ 0 → a ≡ Err (TrailerLength (id_len kind) (left_of tail + id_len kind))
      → IsClosed kind time options version rs items tail trailer a
  whole : (o : Outcome) → AreSound kind items → left_of tail ≡ 0 → IsOutcome kind options.alloc_limit_bytes items o
      → IsVerified options.expected_checksum (trailer_checksum kind trailer)
      (Ok (answer_contents kind time version rs o, trailer_checksum kind trailer)) a
      → IsClosed kind time options version rs items tail trailer a

-- The answer by the bytes after the last entry. They are fewer than a trailer has, or they are extensions, the bytes
-- that remain after these, and the trailer.
pub data IsEnding (kind : Kind) (time : FileTime) (options : Options) (version : Version) (rs : List Record)
    (rest : List ℕ) (a : Answer) : Type 0 where
  short : length rest < id_len kind → a ≡ Err (TrailerLength (id_len kind) (length rest))
      → IsEnding kind time options version rs rest a
  walked : (extensions trailer : List ℕ) (items : List Item) (tail : List ℕ) → rest ≡ extensions ++ trailer
      → length trailer ≡ id_len kind → IsWalk extensions items tail
      → IsClosed kind time options version rs items tail trailer a → IsEnding kind time options version rs rest a

-- the answer by the bytes after the header: all entries are there, or some i-th is the first that isn't
pub data IsBehindHeader (kind : Kind) (time : FileTime) (options : Options) (version : Version) (count : ℕ)
    (bytes : List ℕ) (a : Answer) : Type 0 where
  lacks : (i : ℕ) → i < count → LacksEntry version kind bytes i → a ≡ Err (NoEntry i)
      → IsBehindHeader kind time options version count bytes a
  has : (rs : List Record) (rest : List ℕ) → AreEntries version kind None bytes rs rest → length rs ≡ count
      → IsEnding kind time options version rs rest a → IsBehindHeader kind time options version count bytes a

-- The answer by all bytes after a valid header, with the offset in an end marker or none. It is a count that no such
-- file can have, entries that exceed the limit, or the answer by the bytes after the header.
abbrev pub IsCounted : Option ℕ → Kind → FileTime → Options → List ℕ → Answer → Version → Type 0
IsCounted offset kind time options bytes a version =
    MatchBool (nat_lt (most_entries (length bytes) offset kind version) (count_of bytes))
    (a ≡ Err (Header (Corrupt (codes "Declared entry count exceeds possible entries for file size"))))
    (MatchBool (is_too_large options.alloc_limit_bytes (count_of bytes) (length bytes) offset kind version)
    (a ≡ Err OutOfMemory)
    (IsBehindHeader kind time options version (count_of bytes) (drop header_len bytes) a))

-- the answer to all bytes: the header's error, or the answer by the bytes after it
abbrev pub IsAnswer : Kind → FileTime → Options → List ℕ → Answer → Type 0
IsAnswer kind time options bytes a =
    MatchResult (header_of kind bytes)
    (λ version. (offset : Option ℕ) × IsMarker kind bytes offset × IsCounted offset kind time options bytes a version)
    (λ fault. a ≡ Err (Header fault))
