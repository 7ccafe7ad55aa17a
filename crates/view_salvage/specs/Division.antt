-- The parts of a complete file, or those up to its first error by offset, and the rest (all of gitformat-index).
use Rattle.std.specs.Prelude.{◌≡◌, ◌≢◌, ℕ, ◌+◌, ◌<◌, nat_lt, Bool, true, false, List, [], ◌++◌, length, take, drop}
use Rattle.std.specs.Prelude.{codes, Option, Some, None, Ok, Err}
use Rattle.std.specs.Option.{option_map}
use Rattle.gix_index.specs.Answer.{Fault, Header, NoEntry, Extension, TrailerLength, Verify, OutOfMemory}
use Rattle.gix_index.specs.Intact.{IsBroken, IsIntact, digest_id, trailer_id}
use Rattle.gix_index.specs.DecodeError.{Error}
use Rattle.gix_index.specs.DecodeError.TheVariants as errors
use Rattle.gix_index.specs.DecodeErrors.{extension_fault}
use Rattle.gix_index.specs.EndMarker.{IsMarker}
use Rattle.gix_index.specs.Entries.{last_path}
use Rattle.gix_index.specs.Entry.{IsEntry}
use Rattle.gix_index.specs.Header.{HeaderFault, Corrupt, count_of, header_len, header_of}
use Rattle.gix_index.specs.HeaderErrors.{header_fault}
use Rattle.gix_index.specs.Id.{id_len}
use Rattle.gix_index.specs.Kind.{Kind}
use Rattle.gix_index.specs.Limits.{most_entries}
use Rattle.gix_index.specs.Outcome.{AreSound, ExtensionFault, IsFault}
use Rattle.gix_index.specs.Record.{Record}
use Rattle.gix_index.specs.Version.{Version}
use Rattle.gix_index.specs.Walk.{Item, AreItems, IsItem, NoItem, left_of}
use Rattle.view_layout.specs.Piece.{Piece, item_pieces, laid, one_piece, some_piece}
use Rattle.view_salvage.specs.declared.division.Division.{Division}
use Rattle.view_salvage.specs.Spelling.{Spelling, AreSpelled, entries_spelled, entry_pieces}
use Rattle.view_layout.specs.declared.part.Part.{Part}
use Rattle.view_layout.specs.declared.part.What.TheVariants as whats

-- All bytes from an error on as one piece.
abbrev pub unread_piece : List ℕ → List Piece
unread_piece bytes = one_piece whats.Unread bytes

-- After these entries, no entry of the version is at the front of the bytes.
abbrev pub NoEntryBehind : Version → Kind → List Spelling → List ℕ → Type 0
NoEntryBehind version kind spellings bytes = (r : Record) (rest : List ℕ)
    → IsEntry version kind (last_path None (entries_spelled spellings)) bytes r rest → ⊥

-- Whether the header declares more entries than a file of this length can hold. The offset that an end marker names
-- counts.
abbrev pub IsCrowded : Kind → Version → List ℕ → Bool → Type 0
IsCrowded kind version bytes crowded = (place : Option ℕ) × IsMarker kind bytes place
    × (nat_lt (most_entries (length bytes) place kind version) (count_of bytes) ≡ crowded)

-- What follows valid extensions, and the first error in it:
--
-- - an invalid extension;
-- - bytes that are left over, so the trailer is too long;
-- - a trailer that isn't the digest;
-- - a trailer that is the digest, or is null.
--
-- The head of an extension whose size passes the end is left over, if nothing follows it.
pub data IsFileEnd (kind : Kind) (bytes tail trailer : List ℕ) (pieces : List Piece)
    (fault : Option Fault) : Type 0 where
  faulty : (i : Item) (rest : List ℕ) (f : ExtensionFault) → IsItem tail i rest → IsFault kind i f
      → pieces ≡ unread_piece (tail ++ trailer) → fault ≡ Some (Extension f)
      → IsFileEnd kind bytes tail trailer pieces fault
  left : NoItem tail → left_of tail ≢ 0 → pieces ≡ unread_piece (tail ++ trailer)
      → fault ≡ Some (TrailerLength (id_len kind) (left_of tail + id_len kind))
      → IsFileEnd kind bytes tail trailer pieces fault
  broken : NoItem tail → left_of tail ≡ 0 → IsBroken false kind bytes
      → pieces ≡ some_piece whats.LeftOver tail ++ unread_piece trailer
      → fault ≡ Some (Verify (digest_id kind bytes) (trailer_id kind bytes))
      → IsFileEnd kind bytes tail trailer pieces fault
  whole : NoItem tail → left_of tail ≡ 0 → IsIntact false kind bytes
      → pieces ≡ some_piece whats.LeftOver tail ++ one_piece whats.Trailer trailer → fault ≡ None
      → IsFileEnd kind bytes tail trailer pieces fault

-- What follows the entries, and the first error in it:
--
-- - no entry, although one more is declared;
-- - all declared entries, although the file is too short for them before the offset that its end marker names;
-- - fewer bytes than a trailer has;
-- - valid extensions and the end of the file.
pub data IsBehindEntries (kind : Kind) (version : Version) (bytes : List ℕ) (spellings : List Spelling) (after : List ℕ)
    (pieces : List Piece) (fault : Option Fault) : Type 0 where
  lacks : length spellings < count_of bytes → NoEntryBehind version kind spellings after → pieces ≡ unread_piece after
      → fault ≡ Some (NoEntry (length spellings)) → IsBehindEntries kind version bytes spellings after pieces fault
  crowded : length spellings ≡ count_of bytes → IsCrowded kind version bytes true → pieces ≡ unread_piece after
      → fault ≡ Some (Header (Corrupt (codes "Declared entry count exceeds possible entries for file size")))
      → IsBehindEntries kind version bytes spellings after pieces fault
  short : length spellings ≡ count_of bytes → IsCrowded kind version bytes false → length after < id_len kind
      → pieces ≡ unread_piece after → fault ≡ Some (TrailerLength (id_len kind) (length after))
      → IsBehindEntries kind version bytes spellings after pieces fault
  walked : length spellings ≡ count_of bytes → IsCrowded kind version bytes false
      → (items : List Item) (tail trailer extensions : List ℕ) (last : List Piece) → after ≡ extensions ++ trailer
      → length trailer ≡ id_len kind → AreItems extensions items tail → AreSound kind items
      → pieces ≡ item_pieces items ++ last → IsFileEnd kind bytes tail trailer last fault
      → IsBehindEntries kind version bytes spellings after pieces fault

-- The pieces of a file, the records of its readable entries, and the first error by offset, or none. An error of the
-- header is at the front of the file.
pub data IsDivided (kind : Kind) (bytes : List ℕ) (rs : List Record) (pieces : List Piece)
    (fault : Option Fault) : Type 0 where
  headless : (f : HeaderFault) → header_of kind bytes ≡ Err f → rs ≡ [] → pieces ≡ unread_piece bytes
      → fault ≡ Some (Header f) → IsDivided kind bytes rs pieces fault
  headed : (version : Version) (spellings : List Spelling) (after : List ℕ) (behind : List Piece)
      → header_of kind bytes ≡ Ok version → AreSpelled version kind None (drop header_len bytes) spellings after
      → rs ≡ entries_spelled spellings
      → pieces ≡ one_piece whats.Header (take header_len bytes) ++ (entry_pieces 0 spellings ++ behind)
      → IsBehindEntries kind version bytes spellings after behind fault → IsDivided kind bytes rs pieces fault

-- The `Fault` for an error, if any. There is none for an allocation failure.
abbrev pub fault_of : Error → Option Fault
fault_of (errors.Header e) = Some (Header (header_fault e))
fault_of errors.Hasher = None
fault_of errors.OutOfMemory = Some OutOfMemory
fault_of (errors.Entry i) = Some (NoEntry i)
fault_of (errors.Extension e) = option_map Extension (extension_fault e)
fault_of (errors.UnexpectedTrailerLength expected actual) = Some (TrailerLength expected actual)
fault_of (errors.Verify actual expected) = Some (Verify actual expected)
fault_of errors.Memory = None

-- The error is for this `Fault`, or there is neither.
abbrev pub FaultCause : Option Error → Option Fault → Type 0
FaultCause None fault = fault ≡ None
FaultCause (Some e) fault = (f : Fault) × (fault_of e ≡ Some f) × (fault ≡ Some f)

-- The parts, the records of entries, and the error or none are those of the bytes of a file.
pub record Divides (kind : Kind) (bytes : List ℕ) (rs : List Record) (parts : List Part)
    (error : Option Error) : Type 0 where
  pub pieces : List Piece
  pub fault : Option Fault
  pub is_divided : IsDivided kind bytes rs pieces fault
  pub are : parts ≡ laid 0 pieces
  pub told : FaultCause error fault

-- A division is that of the bytes of a file.
abbrev pub IsDivisionOf : Kind → List ℕ → Division → Type 0
IsDivisionOf kind bytes d = Divides kind bytes d.entries.records d.parts.items d.fault
