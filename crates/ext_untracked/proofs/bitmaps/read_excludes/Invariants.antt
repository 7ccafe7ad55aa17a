use Rattle.std.proofs.Common.{◌≡◌, ℕ, List, length, map, take}
use Rattle.index_parts.specs.Id.{id_len}
use Rattle.ext_untracked.specs.Blocks.{directory_value}
use Rattle.ext_untracked.specs.BitmapSteps.{with_exclude, last_at, by_some, each}
use Rattle.ext_untracked.specs.CacheBitmaps.{ArePieces}
use Rattle.ext_untracked.proofs.bitmaps.read_excludes.Given as goal

abbrev pub invariant-loop-place : goal.invariant-loop-place
invariant-loop-place l =
    (length l.directories.items ≡ length l.fn.directories.items)
    × ((ids : List (List ℕ)) × ArePieces (id_len l.kind) l.place-index l.bytes ids l.rest
    × (map directory_value l.directories.items ≡ each (λ i. by_some (with_exclude l.kind)
    (last_at (take l.place-index l.places) ids i)) (map directory_value l.fn.directories.items)))
