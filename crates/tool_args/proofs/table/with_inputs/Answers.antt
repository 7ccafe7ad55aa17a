use Rattle.std.proofs.Common.{◌∙◌, ap, codes, rules}
use Rattle.std.proofs.lemmas.Result.{IfOk-weaker}
use Rattle.clap.specs.Simple.{App, new_rule, with_rule}
use Rattle.tool_args.specs.Table.{with_auto}
use Rattle.tool_args.proofs.Tables.{app_with, local_with}
use Rattle.tool_args.proofs.table.with_inputs.Goals as goal

pub returns : goal.returns
returns c = record {
  app = IfOk-weaker c.with_auto.result _ _
      (λ r h. h ∙ ap with_auto (app_with _ _ _ (new_rule (codes "FILE")) c.in_ok-arg-2.ensures (search rules) (search rules)
      ∙ ap (λ (a : App). with_rule a (new_rule (codes "FILE")))
      (app_with _ _ _ (new_rule (codes "KIND")) c.in_ok-arg.ensures (search rules) (search rules)))) c.with_auto.ensures.app;
  local = IfOk-weaker c.with_auto.result _ _
      (λ r h before. h (local_with _ _ _ c.in_ok-arg-2.ensures (search rules)
      (local_with _ _ _ c.in_ok-arg.ensures (search rules) before))) c.with_auto.ensures.local;
}
