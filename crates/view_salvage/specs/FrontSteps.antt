-- The result of reading entries with their positions (gitformat-index, "Index entry"). Public clauses cite none of
-- these.
use Rattle.std.specs.Prelude.{◌≡◌, ℕ, ◌+◌, ◌<◌, ◌⊎◌, min, List, ◌++◌, length, take, drop, None, if◌then◌else◌}
use Rattle.gix_index.specs.Flags.{is_extended}
use Rattle.gix_index.specs.Header.{header_len}
use Rattle.gix_index.specs.Id.{id_len}
use Rattle.gix_index.specs.Kind.{Kind}
use Rattle.gix_index.specs.Record.{Record}
use Rattle.gix_index.specs.Version.{Version}
use Rattle.gix_index.specs.Version.TheVariants.{V2, V3, V4}
use Rattle.view_salvage.specs.Division.{NoEntryBehind}
use Rattle.view_layout.specs.Piece.{laid, one_piece, some_piece}
use Rattle.view_salvage.specs.declared.front.Front.{Front}
use Rattle.view_salvage.specs.Spelling.{Spelling, AreSpelled, entries_spelled, entry_pieces}
use Rattle.view_layout.specs.declared.part.Part.{Part}
use Rattle.view_layout.specs.declared.part.What.TheVariants as whats

-- The number of bytes before an entry's path: numbers and the first word, the id, and a second word if the flags
-- require it.
abbrev pub head_len : Kind → ℕ → ℕ
head_len kind flags = 42 + id_len kind + (if is_extended flags then 2 else 0)

-- The number of bytes without padding, of an entry with `total` bytes and a path of this length.
abbrev pub own_len : Version → Kind → ℕ → ℕ → ℕ → ℕ
own_len V2 kind flags path total = min (head_len kind flags + path) total
own_len V3 kind flags path total = min (head_len kind flags + path) total
own_len V4 kind flags path total = total

-- At most this number of entries was read after the header, with the parts up to their end.
pub record IsFront (version : Version) (kind : Kind) (count : ℕ) (bytes : List ℕ) (rs : List Record) (parts : List Part)
    (rest : List ℕ) : Type 0 where
  pub spellings : List Spelling
  pub are_spelled : AreSpelled version kind None (drop header_len bytes) spellings rest
  pub records : rs ≡ entries_spelled spellings
  pub are : parts ≡ laid 0 (one_piece whats.Header (take header_len bytes) ++ entry_pieces 0 spellings)
  pub ended : (length spellings ≡ count) ⊎ ((length spellings < count) × NoEntryBehind version kind spellings rest)

-- A front is that of a file of which at most `count` entries were read.
abbrev pub IsFrontOf : Version → Kind → ℕ → List ℕ → Front → Type 0
IsFrontOf version kind count bytes f = IsFront version kind count bytes f.entries.records f.parts.items f.rest.now

-- The parts of an entry were appended: `own` bytes of the entry, and `padding` bytes.
abbrev pub LaysEntry : ℕ → ℕ → ℕ → ℕ → List Part → List Part → Type 0
LaysEntry offset number own padding old new =
    (bytes filling : List ℕ) → length bytes ≡ own → length filling ≡ padding
    → new ≡ old ++ laid offset (one_piece (whats.Entry number) bytes ++ some_piece whats.Padding filling)
