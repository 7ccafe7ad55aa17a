use Rattle.std.proofs.Common.{◌≡◌, ◌++◌, ◌+◌, ◌≤◌, length, map, List}
use Rattle.ext_untracked.specs.Blocks.{Block, AreBlocks, blocks_depth, directory_value, places_from, all_listed}
use Rattle.ext_untracked.proofs.Nests.{blocks_from}
use Rattle.ext_untracked.proofs.blocks.+read_block.Given as goal

abbrev pub decreases-read_block : goal.decreases-read_block
decreases-read_block l = l.levels

-- the blocks so far, their directories, and their places
abbrev pub invariant-loop-i : goal.invariant-loop-i
invariant-loop-i l =
    (us : List Block) × AreBlocks l.limit l.initial.rest (blocks_from us) l.rest × (length us ≡ l._i)
    × (blocks_depth (blocks_from us) ≤ l.levels)
    × (map directory_value l.directories.items
    ≡ map directory_value l.initial.directories.items ++ all_listed (l.place + 1) (blocks_from us))
    × (l.subs.items ≡ places_from (l.place + 1) (blocks_from us))
