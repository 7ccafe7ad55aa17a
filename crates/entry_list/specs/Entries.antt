-- Consecutive entries (gitformat-index, "A number of sorted index entries").
use Rattle.std.specs.Prelude.{◌≡◌, ℕ, List, [], ◌∷◌, length, Option, Some, None}
use Rattle.index_parts.specs.declared.hash.Kind.{Kind}
use Rattle.entry_list.specs.declared.Version.{Version}
use Rattle.entry_list.specs.Entry.{IsEntry}
use Rattle.entry_list.specs.Record.{Record}

-- the bytes are consecutive entries with these records, and the rest; `previous` is the path before them, if there is
-- one
abbrev pub AreEntries : Version → Kind → Option (List ℕ) → List ℕ → List Record → List ℕ → Type 0
AreEntries version kind previous bytes [] rest = bytes ≡ rest
AreEntries version kind previous bytes (r ∷ rs) rest =
    (after : List ℕ) × IsEntry version kind previous bytes r after × AreEntries version kind (Some r.path) after rs rest

-- the path of the last record, or without records the path before them
abbrev pub last_path : Option (List ℕ) → List Record → Option (List ℕ)
last_path previous [] = previous
last_path previous (r ∷ rs) = last_path (Some r.path) rs

-- the bytes begin with exactly i entries: no entry follows them
pub record LacksEntry (version : Version) (kind : Kind) (bytes : List ℕ) (i : ℕ) : Type 0 where
  pub records : List Record
  pub rest : List ℕ
  pub read : AreEntries version kind None bytes records rest
  pub count : length records ≡ i
  pub none : (r : Record) (after : List ℕ) → IsEntry version kind (last_path None records) rest r after → ⊥
