-- The entries that no change has reached yet (the library's own). Public clauses don't use these definitions.
use Rattle.std.specs.Prelude.{◌≡◌, ℕ, ◌≤◌, true, List, if◌then◌else◌, drop, length}
use Rattle.entry_list.specs.declared.Entry.{Entry}
use Rattle.entry_edit.specs.declared.ahead.Ahead.{Ahead}

-- the entries of the list, a given one or a copy, from the index on
abbrev pub entries_ahead : Ahead → List Entry
entries_ahead a = drop a.at (if a.is_copied then a.copied.items else a.given.now)

-- a copy has room for `count` entries before those ahead
pub record HasRoom (count : ℕ) (a : Ahead) : Type 0 where
  pub copied : a.is_copied ≡ true
  pub room : count ≤ a.at
  pub inside : a.at ≤ length a.copied.items
