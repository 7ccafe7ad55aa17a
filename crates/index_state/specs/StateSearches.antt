-- The result of each search of a state's entries (the library's own). For entries in any order, what is found matches
-- the request. For entries in order, the result is exactly determined, including that there is none.
use Rattle.std.specs.Prelude.{◌≡◌, ℕ, List, Contains, Option, option_and_then, slice_get}
use Rattle.std.specs.Option.{option_map}
use Rattle.std.specs.declared.ops.Range.{Range}
use Rattle.entry_list.specs.Order.{IsOrderedByPath, IsStrictlyOrdered}
use Rattle.entry_list.specs.Record.{Record, record_in}
use Rattle.entry_list.specs.declared.Entry.{Entry}
use Rattle.entry_lookup.specs.Closest.{closest}
use Rattle.entry_lookup.specs.Lookup.{record_index}
use Rattle.entry_lookup.specs.Range.{IsPrefixRange, part_at}
use Rattle.index_state.specs.State.{entries_of, records, storage_of}
use Rattle.index_state.specs.declared.State.{State}

-- for records that strictly increase, the only index with the path and the stage, or None
abbrev pub FindsPlace : List ℕ → ℕ → List Record → Option ℕ → Type 0
FindsPlace path stage rs found = IsStrictlyOrdered rs → found ≡ record_index path stage rs

-- the entry is one of the state's, and its record has this property
pub record IsEntryWith (P : Record → Type 0) (s : State) (e : Entry) : Type 0 where
  pub found : Contains (entries_of s) e
  pub key : P (record_in (storage_of s) e)

-- the entry at the index that a search of the records returns
abbrev pub entry_by : (List Record → Option ℕ) → State → Option Entry
entry_by place s = option_and_then (slice_get (entries_of s)) (place (records s))

-- for entries that strictly increase, exactly this one
abbrev pub FindsEntry : (List Record → Option ℕ) → State → Option Entry → Type 0
FindsEntry place s found = IsStrictlyOrdered (records s) → found ≡ entry_by place s

-- for entries whose paths never decrease, the one closest to the directory
abbrev pub FindsClosest : List ℕ → State → Option Entry → Type 0
FindsClosest directory s found = IsOrderedByPath (records s) → found ≡ entry_by (closest directory) s

-- the entries at a range with this property, or None
abbrev pub FindsPart : (Option (Range ℕ) → Type 0) → State → Option (List Entry) → Type 0
FindsPart P s found = (range : Option (Range ℕ)) × P range × (found ≡ option_map (part_at (entries_of s)) range)

-- the entries whose path begins with the prefix
abbrev pub FindsPrefixed : List ℕ → State → Option (List Entry) → Type 0
FindsPrefixed prefix s found = FindsPart (IsPrefixRange prefix (records s)) s found
