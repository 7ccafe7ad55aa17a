use Rattle.std.proofs.Common.{arith}
use Rattle.index_tool.proofs.command.run_on.Goals as goal

pub returns-in-Err-clause-ends : goal.returns-in-Err-clause-ends
returns-in-Err-clause-ends g c = record {
  status = omega arith;
  done = λ h. absurd (omega (arith, h));
  refused = λ h. c.in-Err.ensures.refused;
  spared = λ h. c.in-Err.ensures.spared;
}
