use Rattle.std.proofs.Common.{◌≡◌, ◌+◌, ◌-◌, ◌≤◌, drop, length, true}
use Rattle.entry_list.specs.Shared.{shared_len}
use Rattle.entry_lookup.specs.Folded.{folded}
use Rattle.entry_lookup.proofs.walk.shared_names.Given as goal

abbrev pub invariant-loop-len : goal.invariant-loop-len
invariant-loop-len l = record {
  first : l.len ≤ length l.a;
  second : l.len ≤ length l.b;
  value : shared_len (folded true l.a) (folded true l.b)
      ≡ l.len + shared_len (drop l.len (folded true l.a)) (drop l.len (folded true l.b));
}

abbrev pub decreases-loop-len : goal.decreases-loop-len
decreases-loop-len l = length l.a - l.len
