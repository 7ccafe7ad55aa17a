use Rattle.std.proofs.Common.{◌≡◌, length, map}
use Rattle.ext_untracked.specs.Blocks.{directory_value}
use Rattle.ext_untracked.specs.UntrackedEdits.{invalidated_from}
use Rattle.ext_untracked.proofs.invalidation.invalidate_down.Given as goal

-- what is left of the way makes what the whole one does
abbrev pub invariant-loop-slash : goal.invariant-loop-slash
invariant-loop-slash l =
    invalidated_from l.wholes l.path 0 (map directory_value l.initial.directories.items)
    ≡ invalidated_from l.wholes l.rest l.place (map directory_value l.directories.items)

abbrev pub decreases-loop-slash : goal.decreases-loop-slash
decreases-loop-slash l = length l.rest
