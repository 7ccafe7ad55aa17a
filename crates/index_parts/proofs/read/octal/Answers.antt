use Rattle.std.proofs.Common.{sym, ◌∙◌}
use Rattle.index_parts.proofs.Octals.{octal_first, octal_none}
use Rattle.index_parts.proofs.read.octal.Goals as goal

pub returns-then-is_empty : goal.returns-then-is_empty
returns-then-is_empty c = sym (octal_none c.args.text.now (sym c.is_empty.ensures ∙ c.if-is_empty.true))

pub loop-b-init : goal.loop-b-init
loop-b-init c = octal_first c.args.text.now (sym c.is_empty.ensures ∙ c.if-is_empty.false)
