use Rattle.std.proofs.Common.{◌≡◌, ◌∙◌, ap, codes, false, Some}
use Rattle.std.proofs.lemmas.Result.{IfOk-weaker}
use Rattle.clap.specs.Walk.{Rule, rule_of}
use Rattle.clap.specs.declared.builder.arg.Arg.{Arg}
use Rattle.tool_args.specs.Table.{auto_flag, short_flag}
use Rattle.tool_args.proofs.Tables.{app_with, local_with}
use Rattle.tool_args.proofs.table.with_auto.Goals as goal

pub returns : goal.returns
returns c =
    let letter : rule_of c.short-lettered.result ≡ short_flag (codes "auto") 97 =
    ap rule_of c.short-lettered.ensures ∙ ap (λ (r : Rule). record r { short = Some 97 }) c.flag-auto.ensures.rule in
    let rule : rule_of c.long.result ≡ auto_flag =
    ap rule_of c.long.ensures ∙ ap (λ (r : Rule). record r { long = Some (codes "auto") }) letter in
    let local : c.long.result.global ≡ false = ap (λ (a : Arg). a.global) c.long.ensures
    ∙ ap (λ (a : Arg). a.global) c.short-lettered.ensures ∙ c.flag-auto.ensures.global in
    record {
      app = IfOk-weaker c.arg.result _ _
          (λ r h. app_with c.args.command r c.long.result auto_flag h local rule) c.arg.ensures;
      local = IfOk-weaker c.arg.result _ _ (λ r h before. local_with c.args.command r c.long.result h local before)
          c.arg.ensures;
    }
