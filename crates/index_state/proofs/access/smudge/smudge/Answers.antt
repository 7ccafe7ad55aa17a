use Rattle.std.proofs.Common.{◌<◌, ap, get_or, length, arith, ◌∙◌}
use Rattle.std.proofs.lemmas.List.{length-set}
use Rattle.entry_fields.specs.declared.entry.stat.Stat.{Stat}
use Rattle.index_state.specs.Racy.{smudged_entry}
use Rattle.index_state.proofs.Smudges.{one_more, others_stay}
use Rattle.index_state.proofs.access.smudge.smudge.Goals as goal

pub loop-i-preserved : goal.loop-i-preserved
loop-i-preserved c =
    let f = smudged_entry c.args.time in
    let old = c.args.entries.now in
    let xs = c.loop-i.entries in
    let here = c.loop-i.invariant in
    let inside : c.loop-i.i < length xs = omega (arith, here.len, c.loop-i-test.true) in
    record {
      front = one_more f old xs c.loop-i.i inside here.rest _ _
          (ap (λ (s : Stat). record (get_or xs c.loop-i.i _) { stat = s }) c.smudged_stat.ensures) here.front;
      len = length-set xs c.loop-i.i _ ∙ here.len;
      rest = others_stay f old xs c.loop-i.i inside here.rest _;
    }
