use Rattle.std.proofs.Common.{◌≡◌, ◌∙◌, ap, codes, false, Some}
use Rattle.std.proofs.lemmas.Result.{IfOk-weaker}
use Rattle.clap.specs.Walk.{Rule, rule_of}
use Rattle.clap.specs.declared.builder.arg.Arg.{Arg}
use Rattle.tool_args.specs.Table.{long_flag}
use Rattle.tool_args.proofs.Tables.{app_with, local_with}
use Rattle.tool_args.proofs.table.with_strict.Goals as goal

pub returns : goal.returns
returns c =
    let rule : rule_of c.long.result ≡ long_flag (codes "strict") =
    ap rule_of c.long.ensures ∙ ap (λ (r : Rule). record r { long = Some (codes "strict") }) c.flag-strict.ensures.rule in
    let local : c.long.result.global ≡ false = ap (λ (a : Arg). a.global) c.long.ensures ∙ c.flag-strict.ensures.global in
    record {
      app = IfOk-weaker c.arg.result _ _
          (λ r h. app_with c.args.command r c.long.result (long_flag (codes "strict")) h local rule) c.arg.ensures;
      local = IfOk-weaker c.arg.result _ _ (λ r h before. local_with c.args.command r c.long.result h local before)
          c.arg.ensures;
    }
