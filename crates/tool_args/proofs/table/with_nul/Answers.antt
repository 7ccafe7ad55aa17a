use Rattle.std.proofs.Common.{rules}
use Rattle.std.proofs.lemmas.Result.{IfOk-weaker}
use Rattle.tool_args.proofs.Tables.{local_with}
use Rattle.tool_args.proofs.table.with_nul.Goals as goal

pub returns : goal.returns
returns c = record {
  app = search rules;
  local = IfOk-weaker c.arg.result _ _ (λ r h before. local_with _ r _ h (search rules) before) c.arg.ensures;
}
