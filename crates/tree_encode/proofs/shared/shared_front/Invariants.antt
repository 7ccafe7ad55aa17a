use Rattle.std.proofs.Common.{◌≡◌, ◌≤◌, ◌-◌, length, take}
use Rattle.tree_encode.proofs.shared.shared_front.Given as goal

-- As many bytes are equal, and one more follows them.
abbrev pub invariant-loop-len : goal.invariant-loop-len
invariant-loop-len l = record {
  same : take l.len l.path ≡ take l.len l.before;
  within : l.len ≤ length l.path - 1;
}

abbrev pub decreases-loop-len : goal.decreases-loop-len
decreases-loop-len l = l.len
