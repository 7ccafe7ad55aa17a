use Rattle.std.proofs.Common.{◌≡◌, ◌+◌, ◌^◌, ◌<◌, ◌≤◌, ◌++◌, length, drop}
use Rattle.index_parts.specs.Offset.{continued_bytes, offset_bytes}
use Rattle.index_parts.proofs.encode.offset.Given as goal

-- the bytes from the start on are the last ones of the spelling, and those of the higher part come before them
abbrev pub invariant-loop-higher : goal.invariant-loop-higher
invariant-loop-higher l = record {
  len : length l.bytes ≡ 10;
  inside : l.start ≤ 9;
  room : l.higher < 128 ^ (l.start + 1);
  so_far : continued_bytes l.start l.higher ++ drop l.start l.bytes ≡ offset_bytes l.n;
}

abbrev pub decreases-loop-higher : goal.decreases-loop-higher
decreases-loop-higher l = l.higher
