use Rattle.std.proofs.Common.{arith, drop, length-drop, inr}
use Rattle.entry_list.proofs.SharedFronts.{shared_behind, shared_end}
use Rattle.entry_list.proofs.paths.shared_len.Goals as goal

pub returns-else-len-b-clause-value : goal.returns-else-len-b-clause-value
returns-else-len-b-clause-value c =
    let n = c.loop-len.len in
    let none =
    shared_end (drop n c.args.a.now) (drop n c.args.b.now) (inr (omega (arith, length-drop n c.args.b.now))) in
    omega (arith, none, c.loop-len.invariant.value)

pub loop-len-init : goal.loop-len-init
loop-len-init c = record {
  first = c.shared_words-len.ensures.first;
  second = c.shared_words-len.ensures.second;
  value = shared_behind _ _ _ c.shared_words-len.ensures.first c.shared_words-len.ensures.second
      c.shared_words-len.ensures.same;
}
