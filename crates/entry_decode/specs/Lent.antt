-- The value of an entry that borrows the bytes of its path (gitformat-index, "Index entry", version 4: a path as a
-- difference to the one before).
use Rattle.std.specs.Prelude.{◌≡◌, ℕ, List, [], ◌++◌, length, take, Option, unwrap_or}
use Rattle.std.specs.Option.{option_map}
use Rattle.index_parts.specs.declared.hash.Kind.{Kind}
use Rattle.entry_list.specs.declared.Version.{Version}
use Rattle.entry_list.specs.Entry.{IsEntry}
use Rattle.entry_decode.specs.declared.entry.Lent.{Lent}
use Rattle.entry_list.specs.Record.{Record, with_path}

-- the record after a path: its path is the first bytes of that one, and the borrowed ones
abbrev pub borrowed_record : Option (List ℕ) → Lent → Record
borrowed_record previous e = with_path (take e.shared (unwrap_or previous []) ++ e.path.now) e.entry

-- it is the entry at the start of the bytes, before the rest, after each path of `room` bytes (None: after no path)
abbrev pub IsBorrowedEntry : Version → Kind → Option ℕ → List ℕ → Lent → List ℕ → Type 0
IsBorrowedEntry version kind room bytes e rest =
    (previous : Option (List ℕ)) → option_map length previous ≡ room
    → IsEntry version kind previous bytes (borrowed_record previous e) rest

-- the bytes begin with no entry after any path of `room` bytes (None: after no path)
abbrev pub HasNoEntry : Version → Kind → Option ℕ → List ℕ → Type 0
HasNoEntry version kind room bytes =
    (previous : Option (List ℕ)) (r : Record) (rest : List ℕ) → option_map length previous ≡ room
    → IsEntry version kind previous bytes r rest → ⊥
