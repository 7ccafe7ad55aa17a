use Rattle.std.proofs.Common.{map, length}
use Rattle.ext_small.specs.ResolveUndo.{path_stages, AreResolvePaths}
use Rattle.ext_small.proofs.resolve_undo.decode.Given as goal

-- the paths so far are spelled up to the rest
abbrev pub invariant-loop-rest : goal.invariant-loop-rest
invariant-loop-rest l = AreResolvePaths l.object_hash l.initial.rest (map path_stages l.paths.items) l.rest

abbrev pub decreases-loop-rest : goal.decreases-loop-rest
decreases-loop-rest l = length l.rest
