-- Whether the file system monitor's bitmap matches the number of entries (gitformat-index, "File System Monitor
-- cache"). The n-th bit describes the n-th entry. Git ends with a BUG if a bit after the last entry is set.
use Rattle.std.specs.Prelude.{ℕ, nat_le, nat_lt, ◌&&◌, Bool, true, false, List, [], ◌∷◌, Result, Ok, Err}
use Rattle.ext_bitmap.specs.Ranges.{set_places}
use Rattle.ext_small.specs.FsMonitor.{Monitor}

-- all positions are below a limit, and no error follows them; the positions ascend
unfoldable pub are_below : {E : Type 0} → ℕ → List (Result ℕ E) → Bool
are_below limit [] = true
are_below limit (Ok place ∷ items) = nat_lt place limit && are_below limit items
are_below limit (Err fault ∷ items) = false

-- for `count` entries: the bitmap declares no more bits, sets none after them, and its words don't break off
abbrev pub monitor_is_within : ℕ → Monitor → Bool
monitor_is_within count m = nat_le m.dirty.num_bits count && are_below count (set_places m.dirty)
