use Rattle.std.proofs.Common.{◌≡◌, ◌+◌, ◌-◌, ◌≤◌, length, drop}
use Rattle.entry_list.specs.Shared.{shared_len}
use Rattle.entry_list.proofs.paths.shared_len.Given as goal

-- the first bytes are the same, and the rest is still to be compared
abbrev pub invariant-loop-len : goal.invariant-loop-len
invariant-loop-len l = record {
  first : l.len ≤ length l.a;
  second : l.len ≤ length l.b;
  value : shared_len l.a l.b ≡ l.len + shared_len (drop l.len l.a) (drop l.len l.b);
}

abbrev pub decreases-loop-len : goal.decreases-loop-len
decreases-loop-len l = length l.a - l.len
