use Rattle.std.proofs.Common.{All, map, take}
use Rattle.tree_encode.specs.Refusals.{IsTreeRecord}
use Rattle.tree_encode.specs.Staged.{staged_in, staged_of}
use Rattle.tree_encode.proofs.Aparts.{MayBegin}
use Rattle.tree_encode.proofs.check.check_entries.Given as goal

-- those so far have a place in trees
abbrev pub invariant-loop-place : goal.invariant-loop-place
invariant-loop-place g l = record {
  each : All (IsTreeRecord (g.C.ComponentCheck.refusal l.check) l.kind) (take l.place l.entries);
  kept : MayBegin (staged_in (take l.place l.entries)) (map staged_of l.files.items);
}
