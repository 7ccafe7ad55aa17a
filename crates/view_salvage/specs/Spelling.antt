-- Entries with their bytes (gitformat-index, "Index entry").
use Rattle.std.specs.Prelude.{◌≡◌, ℕ, ◌+◌, List, [], ◌∷◌, ◌++◌, map, Option, Some}
use Rattle.gix_index.specs.Entry.{head_bytes, IsEntry23, IsEntry4}
use Rattle.gix_index.specs.Kind.{Kind}
use Rattle.gix_index.specs.Record.{Record}
use Rattle.gix_index.specs.Version.{Version}
use Rattle.gix_index.specs.Version.TheVariants.{V2, V3, V4}
use Rattle.view_layout.specs.Piece.{Piece, some_piece}
use Rattle.view_layout.specs.declared.part.What.TheVariants as whats

-- An entry, its bytes up to the end of its path, and its padding.
pub record Spelling : Type 0 where
  pub entry : Record
  pub own : List ℕ
  pub padding : List ℕ

-- An entry of a version at the front of bytes has this spelling. In version 4 it has no padding, and includes the NUL.
abbrev pub IsSpelled : Version → Kind → Option (List ℕ) → List ℕ → Spelling → List ℕ → Type 0
IsSpelled V2 kind previous bytes s rest = (e : IsEntry23 kind bytes s.entry rest)
    × (s.own ≡ head_bytes e.head ++ s.entry.path) × (s.padding ≡ e.padding)
IsSpelled V3 kind previous bytes s rest = (e : IsEntry23 kind bytes s.entry rest)
    × (s.own ≡ head_bytes e.head ++ s.entry.path) × (s.padding ≡ e.padding)
IsSpelled V4 kind previous bytes s rest = IsEntry4 kind previous bytes s.entry rest × (bytes ≡ s.own ++ rest)
    × (s.padding ≡ [])

-- Entries with these spellings, one after another, and the rest. `previous` is the path before them, if there is one.
abbrev pub AreSpelled : Version → Kind → Option (List ℕ) → List ℕ → List Spelling → List ℕ → Type 0
AreSpelled version kind previous bytes [] rest = bytes ≡ rest
AreSpelled version kind previous bytes (s ∷ spellings) rest = (after : List ℕ)
    × IsSpelled version kind previous bytes s after × AreSpelled version kind (Some s.entry.path) after spellings rest

abbrev pub entries_spelled : List Spelling → List Record
entries_spelled spellings = map (λ s. s.entry) spellings

-- The pieces of entries, numbered from a number on.
abbrev pub entry_pieces : ℕ → List Spelling → List Piece
entry_pieces number [] = []
entry_pieces number (s ∷ spellings) = record { what = whats.Entry number; bytes = s.own }
    ∷ (some_piece whats.Padding s.padding ++ entry_pieces (number + 1) spellings)
