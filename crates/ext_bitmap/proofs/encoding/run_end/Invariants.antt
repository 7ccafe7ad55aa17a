use Rattle.std.proofs.Common.{◌≡◌, ◌++◌, ◌-◌, ◌≤◌, length, drop}
use Rattle.std.specs.Prelude.{replicate}
use Rattle.ext_bitmap.proofs.encoding.run_end.Given as goal

-- all words so far are the one
abbrev pub invariant-loop-end : goal.invariant-loop-end
invariant-loop-end g l = record {
  behind : l.place ≤ l.end;
  inside : l.place ≤ length (g.B.Words.words l.bits) → l.end ≤ length (g.B.Words.words l.bits);
  so_far : drop l.place (g.B.Words.words l.bits)
      ≡ replicate (l.end - l.place) l.word ++ drop l.end (g.B.Words.words l.bits);
}

abbrev pub decreases-loop-end : goal.decreases-loop-end
decreases-loop-end g l = l.count - l.end
