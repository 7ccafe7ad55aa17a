use Rattle.std.proofs.Common.{◌≡◌, ℕ, List, length, map, take}
use Rattle.ext_untracked.specs.Blocks.{directory_value}
use Rattle.ext_untracked.specs.BitmapSteps.{with_stat, last_at, by_some, each}
use Rattle.ext_untracked.specs.CacheBitmaps.{ArePieces}
use Rattle.ext_untracked.proofs.bitmaps.read_stats.Given as goal

abbrev pub invariant-loop-place : goal.invariant-loop-place
invariant-loop-place l =
    (length l.directories.items ≡ length l.fn.directories.items)
    × ((stats : List (List ℕ)) × ArePieces 36 l.place-index l.bytes stats l.rest
    × (map directory_value l.directories.items ≡ each (λ i. by_some with_stat
    (last_at (take l.place-index l.places) stats i)) (map directory_value l.fn.directories.items)))
