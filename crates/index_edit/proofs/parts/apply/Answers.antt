use Rattle.std.proofs.Common.{arith, rules}
use Rattle.std.proofs.lemmas.Grind.{common_steps}
use Rattle.index_edit.proofs.PartsAnswers.{applies}
use Rattle.index_edit.proofs.parts.apply.Goals as goal

pub returns : goal.returns
returns g c =
    applies (g.C.ComponentCheck.refusal c.args.check.now) c.args.parts.now _ c.args.changes.now c.in_ok-result.ensures.reason
    (grind (arith, common_steps)) (search rules) (search rules)

pub returns-in_err-result : goal.returns-in_err-result
returns-in_err-result g c = record {
  reason = search rules;
  updated = search rules;
  applied = search rules;
  storable = search rules;
  placed = search rules;
  err = search rules;
}
