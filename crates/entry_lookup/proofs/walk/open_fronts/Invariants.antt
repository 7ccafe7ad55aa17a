use Rattle.std.proofs.Common.{◌≡◌, ◌+◌, ◌<◌, ◌++◌, length, map}
use Rattle.entry_lookup.specs.WalkSteps.{opened, span_value}
use Rattle.entry_lookup.proofs.walk.open_fronts.Given as goal

abbrev pub invariant-loop-len : goal.invariant-loop-len
invariant-loop-len l = record {
  past : length l.path + 1 < l.from → l.len ≡ l.from;
  opens : map span_value l.live.items ≡ map span_value l.fn.live.items ++ opened l.own l.path l.place l.from l.len;
}
