use Rattle.std.proofs.Common.{rules, refl}
use Rattle.index_edit.proofs.Markings.{none_staged}
use Rattle.index_edit.proofs.dirty.mark_change.Goals as goal

pub returns-in_default : goal.returns-in_default
returns-in_default c = record {
  len = search rules;
  marked = λ e o.
      none_staged c.args.change.now c.args.entries.now c.args.bits.now e (λ r. rw c.in_default.is refl);
}
