use Rattle.std.proofs.Common.{arith, refl, rules}
use Rattle.entry_fields.specs.Flags.{stage_code}
use Rattle.index_edit.proofs.Markings.{no_key, set_key}
use Rattle.index_edit.proofs.dirty.set_bit.Goals as goal

pub returns-then-place-bits : goal.returns-then-place-bits
returns-then-place-bits c = record {
  len = search rules;
  marked = λ e o.
      set_key c.args.path.now (stage_code c.args.stage) c.args.entries.now c.args.bits.now c.in-Some.place e o
      c.in-Some.ensures.found;
}

pub returns-else-place-bits : goal.returns-else-place-bits
returns-else-place-bits c = record {
  len = refl;
  marked = λ e o. absurd (omega (arith, e, c.if-place-bits.false, c.in-Some.ensures.found.in_range));
}

pub returns-in_default : goal.returns-in_default
returns-in_default c = record {
  len = search rules;
  marked = λ e o.
      no_key c.args.path.now (stage_code c.args.stage) c.args.entries.now c.args.bits.now e
      (c.in_default.ensures.answer o) o;
}
