-- The entries that were read, and the cause of an error (the library's own).
use Rattle.std.specs.Prelude.{ℕ, ◌<◌, List, None, length}
use Rattle.index_parts.specs.declared.hash.Kind.{Kind}
use Rattle.entry_list.specs.declared.Version.{Version}
use Rattle.entry_decode.specs.declared.entries.Error.{Error}
use Rattle.entry_decode.specs.declared.entries.Error.TheVariants as errors
use Rattle.entry_decode.specs.declared.entries.FirstEntries.{FirstEntries}
use Rattle.entry_list.specs.Entries.{AreEntries, LacksEntry, last_path}
use Rattle.entry_list.specs.Entry.{IsEntry}
use Rattle.entry_list.specs.Record.{Record}

-- of `count` entries the error has the first index without one, or memory was out
abbrev pub LacksSome : Version → Kind → ℕ → List ℕ → Error → Type 0
LacksSome version kind count bytes (errors.NoEntry i) = (i < count) × LacksEntry version kind bytes i
LacksSome version kind count bytes errors.Memory = Unit {0}

-- for all bytes from which the entries before were read: `bytes` are after them, and the rest is after the new ones
abbrev pub Continues : Version → Kind → FirstEntries → List ℕ → FirstEntries → List ℕ → Type 0
Continues version kind old bytes new rest =
    (all : List ℕ) → AreEntries version kind None all old.list.records bytes
    → AreEntries version kind None all new.list.records rest

-- if there are fewer than `count` entries, the rest begins with no entry
abbrev pub EndsEarly : Version → Kind → ℕ → FirstEntries → List ℕ → Type 0
EndsEarly version kind count first rest =
    length first.list.records < count → (r : Record) (after : List ℕ)
    → IsEntry version kind (last_path None first.list.records) rest r after → ⊥
