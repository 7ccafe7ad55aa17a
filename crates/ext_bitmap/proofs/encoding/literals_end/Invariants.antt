use Rattle.std.proofs.Common.{◌≤◌, ◌-◌, All, length}
use Rattle.ext_bitmap.specs.EncodingSteps.{IsLiteral, words_between}
use Rattle.ext_bitmap.proofs.encoding.literals_end.Given as goal

-- all words so far are literal
abbrev pub invariant-loop-end : goal.invariant-loop-end
invariant-loop-end g l = record {
  behind : l.place ≤ l.end;
  inside : l.place ≤ length (g.B.Words.words l.bits) → l.end ≤ length (g.B.Words.words l.bits);
  so_far : All IsLiteral (words_between l.place l.end (g.B.Words.words l.bits));
}

abbrev pub decreases-loop-end : goal.decreases-loop-end
decreases-loop-end g l = l.count - l.end
