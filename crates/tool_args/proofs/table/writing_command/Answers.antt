use Rattle.std.proofs.Common.{rules}
use Rattle.std.proofs.lemmas.Result.{IfOk-weaker}
use Rattle.tool_args.proofs.table.writing_command.Goals as goal

pub returns-then-eq : goal.returns-then-eq
returns-then-eq c = record {
  app = search rules;
  local = IfOk-weaker c.with_missing.result _ _ (λ r h before. h (c.in_ok-command.ensures.local before))
      c.with_missing.ensures.local;
}

pub returns-then-is_rewriting : goal.returns-then-is_rewriting
returns-then-is_rewriting c = record {
  app = search rules;
  local = IfOk-weaker c.with_keep.result _ _ (λ r h before. h (c.in_ok-command.ensures.local before))
      c.with_keep.ensures.local;
}

pub returns : goal.returns
returns c = record {
  app = search rules;
  local = IfOk-weaker c.with_all.result _ _ (λ r h before. h (c.in_ok-command.ensures.local before))
      c.with_all.ensures.local;
}
