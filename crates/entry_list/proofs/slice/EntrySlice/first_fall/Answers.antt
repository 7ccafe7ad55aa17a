use Rattle.std.proofs.Common.{arith, sym, ◌∙◌}
use Rattle.std.proofs.lemmas.List.Sorted.{all_adjacent_more}
use Rattle.entry_list.proofs.Falls.{Rises, falls_first, less_from, rises_throughout}
use Rattle.entry_list.proofs.slice.EntrySlice.first_fall.Goals as goal

pub returns : goal.returns
returns c = rises_throughout c.args.self.now c.loop-i.i (omega arith) c.loop-i.invariant

pub returns-then-is_ge : goal.returns-then-is_ge
returns-then-is_ge c = falls_first c.args.self.now c.loop-i.i c.compare.result (omega arith)
    (omega arith) c.loop-i.invariant c.compare.ensures (sym c.is_ge.ensures ∙ c.if-is_ge.true)

pub loop-i-preserved : goal.loop-i-preserved
loop-i-preserved c = all_adjacent_more c.args.self.now Rises c.loop-i.i (omega arith) c.loop-i.invariant
    (λ d. c.compare.ensures d ∙ less_from c.compare.result (sym c.is_ge.ensures ∙ c.if-is_ge.false))
