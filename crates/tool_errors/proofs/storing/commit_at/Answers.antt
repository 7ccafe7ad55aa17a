use Rattle.std.proofs.Common.{refl, rules}
use Rattle.tool_errors.proofs.storing.commit_at.Goals as goal

pub returns-in-Ok : goal.returns-in-Ok
returns-in-Ok g c = record {
  written = (_, c.in-Ok.ensures.ok);
  put = λ alone empty. c.in-Ok.ensures.put alone empty;
  synced = c.in-Ok.ensures.synced refl;
  released = tt;
  fault = tt;
  manner = search rules;
}
