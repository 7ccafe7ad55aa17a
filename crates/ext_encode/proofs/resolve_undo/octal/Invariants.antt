use Rattle.std.proofs.Common.{◌≡◌, ◌+◌, ◌^◌, ◌<◌, ◌≤◌, ◌++◌, length, drop}
use Rattle.ext_encode.specs.ResolveUndoImage.{octal_before_last, octal_digits}
use Rattle.ext_encode.proofs.resolve_undo.octal.Given as goal

-- the digits from the start on are the last ones of the number, and those of the higher part come before them
abbrev pub invariant-loop-higher : goal.invariant-loop-higher
invariant-loop-higher l = record {
  len : length l.digits ≡ 11;
  inside : l.start ≤ 10;
  room : l.higher < 8 ^ (l.start + 1);
  so_far : octal_before_last l.start l.higher ++ drop l.start l.digits ≡ octal_digits l.n;
}

abbrev pub decreases-loop-higher : goal.decreases-loop-higher
decreases-loop-higher l = l.higher
