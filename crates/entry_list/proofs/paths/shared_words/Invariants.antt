use Rattle.std.proofs.Common.{◌≡◌, ◌≤◌, ◌-◌, length, take}
use Rattle.entry_list.proofs.paths.shared_words.Given as goal

-- so many bytes are the same
abbrev pub invariant-loop-len : goal.invariant-loop-len
invariant-loop-len l = record {
  within : l.len ≤ l.end;
  first : l.end ≤ length l.a;
  second : l.end ≤ length l.b;
  same : take l.len l.a ≡ take l.len l.b;
}

abbrev pub decreases-loop-len : goal.decreases-loop-len
decreases-loop-len l = l.end - l.len
