use Rattle.std.proofs.Common.{◌≡◌, take}
use Rattle.std.specs.List.{flat_map}
use Rattle.index_parts.specs.Taking.{Took}
use Rattle.ext_encode.specs.ResolveUndoImage.{stage_id}
use Rattle.ext_encode.proofs.resolve_undo.put_ids.Given as goal

-- the ones before this one were taken
abbrev pub invariant-loop-stage : goal.invariant-loop-stage
invariant-loop-stage g l = record {
  going : g.W.Out.failed l.out ≡ g.W.Out.failed l.fn.out;
  loan : g.W.Out.loan l.out ≡ g.W.Out.loan l.fn.out;
  so_far : Took g.W.Out.taken g.W.Out.hashed l.fn.out l.out (flat_map stage_id (take l.stage-index l.stages));
}
