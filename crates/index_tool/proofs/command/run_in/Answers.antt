use Rattle.std.proofs.Common.{arith, string_bytes, refl}
use Rattle.tool_args.specs.Commands.{command_value}
use Rattle.index_tool.proofs.Found.{done_there, not_found, refused_there}
use Rattle.index_tool.proofs.Said.{said_done, said_refused, said_wrong, wrong_unasked}
use Rattle.index_tool.proofs.command.run_in.Goals as goal

pub returns-in-Err-clause-ends : goal.returns-in-Err-clause-ends
returns-in-Err-clause-ends g c = record {
  status = c.say.ensures.status;
  wrong_words = λ h. said_wrong _ c.in-Err.answer c.in-Err.ensures (c.say.ensures.wrong_words h);
  nothing_opened = λ h. c.say.ensures.nothing (wrong_unasked c.in-Err.answer (c.say.ensures.wrong_words h));
  untouched = λ h. refl;
  done = λ h. said_done c.args.around.now _ _ _ _ _ _ c.in-Err.answer c.in-Err.ensures refl _
      (c.say.ensures.asked h);
  refused = λ h. said_refused c.args.around.now _ _ _ _ _ _ c.in-Err.answer c.in-Err.ensures refl _
      c.say.ensures.nothing (c.say.ensures.refused h);
}

pub returns-in-Ok-find-clause-ends : goal.returns-in-Ok-find-clause-ends
returns-in-Ok-find-clause-ends g c =
    let ends = c.run_on.ensures.ends in
    let leaves = c.find.ensures.leaves in
    record {
      status = omega (arith, ends.status);
      wrong_words = λ h. absurd (omega (arith, ends.status, h));
      nothing_opened = λ h. absurd (omega (arith, ends.status, h));
      untouched = λ h. absurd (omega (arith, ends.status, h));
      done = λ h. done_there c.args.around.now _ _ _ _ _ (command_value c.in-Ok.command) c.in-Ok.ensures _ _
          c.kind_and_place-kind.ensures.kind c.kind_and_place-kind.ensures.input c.in-Ok-find.index.kind
          (string_bytes c.in-Ok-find.index.path) c.in-Ok-find.ensures.found _ _ _ _ _ leaves.alone leaves.guards
          leaves.known (ends.done h);
      refused = λ h. refused_there c.args.around.now _ _ _ _ _ (command_value c.in-Ok.command) c.in-Ok.ensures
          _ _ c.kind_and_place-kind.ensures.kind c.kind_and_place-kind.ensures.input c.in-Ok-find.index.kind
          (string_bytes c.in-Ok-find.index.path) c.in-Ok-find.ensures.found _ _ _ _ _ leaves.alone leaves.works
          leaves.known (ends.refused h) (ends.spared h);
    }

pub returns-in-Err-find-clause-ends : goal.returns-in-Err-find-clause-ends
returns-in-Err-find-clause-ends g c = record {
  status = omega arith;
  wrong_words = λ h. absurd (omega (arith, h));
  nothing_opened = λ h. absurd (omega (arith, h));
  untouched = λ h. absurd (omega (arith, h));
  done = λ h. absurd (omega (arith, h));
  refused = λ h. not_found c.args.around.now _ _ _ (g.O.Out.taken c.args.out.now) _ (command_value c.in-Ok.command)
      c.in-Ok.ensures _ _ c.kind_and_place-kind.ensures.kind c.kind_and_place-kind.ensures.input _ _ c.in-Err-find.fault
      c.in-Err-find.ensures.fault c.find.ensures.leaves.known;
}
