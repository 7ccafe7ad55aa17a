-- The value of the struct that borrows an entry up to its path (gitformat-index, "Index entry"). Public clauses don't
-- use these definitions.
use Rattle.std.specs.Prelude.{◌≡◌, ℕ, List, [], ◌++◌, length, take, Option, unwrap_or}
use Rattle.std.specs.Option.{option_map}
use denote.Ref.{Bor}
use Rattle.index_parts.specs.declared.hash.Kind.{Kind}
use Rattle.entry_list.specs.Entry.{IsEntry23, IsEntry4}
use Rattle.entry_list.specs.EntrySteps.{HeadValues, record_from}
use Rattle.entry_list.specs.Record.{Record}
use Rattle.entry_decode.specs.declared.entry.EntryHead.{EntryHead as LentHead}
use Rattle.entry_decode.specs.declared.entry.Lent.{Lent}
use Rattle.entry_decode.specs.Lent.{borrowed_record}

abbrev pub lent_head : LentHead → HeadValues
lent_head f = record { numbers = f.numbers.now; id = f.id.now; flags = f.flags; extended = f.extended }

-- the pieces of an entry of version 2 or 3, and the bytes after it
abbrev pub lent_pieces23 : (LentHead × Bor (List ℕ)) × Bor (List ℕ) → (HeadValues × List ℕ) × List ℕ
lent_pieces23 x = ((lent_head x.0.0, x.0.1.now), x.1.now)

-- the pieces of an entry of version 4, with the number of bytes of the path before that begin its path; and the bytes
-- after it
abbrev pub lent_pieces4 : (LentHead × ℕ × Bor (List ℕ)) × Bor (List ℕ) → (HeadValues × ℕ × List ℕ) × List ℕ
lent_pieces4 x = ((lent_head x.0.0, x.0.1, x.0.2.now), x.1.now)

-- after each path, or none, the record has this head, and its path begins with `shared` bytes of that path
abbrev pub HasRecordOf : Kind → HeadValues → ℕ → List ℕ → Lent → Type 0
HasRecordOf kind head shared path e =
    (previous : Option (List ℕ))
    → borrowed_record previous e ≡ record_from kind head (take shared (unwrap_or previous []) ++ path)

-- ---- version 2 or 3: it is the entry at the start, or there is none, whatever path comes before

abbrev pub IsLentEntry23 : Kind → List ℕ → Lent → List ℕ → Type 0
IsLentEntry23 kind bytes e rest =
    (previous : Option (List ℕ)) → IsEntry23 kind bytes (borrowed_record previous e) rest

abbrev pub HasNoEntry23 : Kind → List ℕ → Type 0
HasNoEntry23 kind bytes = (r : Record) (rest : List ℕ) → IsEntry23 kind bytes r rest → ⊥

-- ---- version 4: it is the entry at the start, or there is none, after each path of `room` bytes (None: after no path)

abbrev pub IsLentEntry4 : Kind → Option ℕ → List ℕ → Lent → List ℕ → Type 0
IsLentEntry4 kind room bytes e rest =
    (previous : Option (List ℕ)) → option_map length previous ≡ room
    → IsEntry4 kind previous bytes (borrowed_record previous e) rest

abbrev pub HasNoEntry4 : Kind → Option ℕ → List ℕ → Type 0
HasNoEntry4 kind room bytes =
    (previous : Option (List ℕ)) (r : Record) (rest : List ℕ) → option_map length previous ≡ room
    → IsEntry4 kind previous bytes r rest → ⊥
