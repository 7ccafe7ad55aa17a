use Rattle.std.proofs.Common.{◌≡◌, length, map, take, drop}
use Rattle.index_state.specs.Racy.{smudged_entry}
use Rattle.index_state.proofs.access.smudge.smudge.Given as goal

abbrev pub invariant-loop-i : goal.invariant-loop-i
invariant-loop-i l = record {
  front : take l.i l.entries ≡ map (smudged_entry l.time) (take l.i l.fn.entries);
  len : length l.entries ≡ length l.fn.entries;
  rest : drop l.i l.entries ≡ drop l.i l.fn.entries;
}
