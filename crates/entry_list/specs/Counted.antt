-- The number of bytes that entries have in a file, counted before they are written: exact, or an upper bound.
use Rattle.std.specs.Prelude.{ℕ, ◌+◌, List, [], ◌∷◌, length}
use Rattle.entry_list.specs.EntryImage.{entry_bytes, entry_in, unpadded}
use Rattle.entry_list.specs.Record.{Record}
use Rattle.entry_list.specs.declared.Version.{Version}
use Rattle.entry_list.specs.declared.Version.TheVariants.{V2, V3, V4}
use Rattle.entry_list.specs.declared.write.Precision.{Precision}
use Rattle.entry_list.specs.declared.write.Precision.TheVariants.{Bound, Exact}

-- an upper bound for an entry: in version 4 it has its complete path, the ten bytes of the longest offset number, and a
-- NUL
abbrev pub most_len : Version → Record → ℕ
most_len V2 r = length (entry_bytes r)
most_len V3 r = length (entry_bytes r)
most_len V4 r = length (unpadded r) + 11

-- an entry after the path `previous`
abbrev pub counted_len : Precision → Version → List ℕ → Record → ℕ
counted_len Bound version previous r = most_len version r
counted_len Exact version previous r = length (entry_in version previous r)

-- consecutive entries, the first after the path `previous`
abbrev pub counted_in : Precision → Version → List ℕ → List Record → ℕ
counted_in precision version previous [] = 0
counted_in precision version previous (r ∷ rs) =
    counted_len precision version previous r + counted_in precision version r.path rs
