use Rattle.std.proofs.Common.{arith, None, refl}
use Rattle.std.proofs.KnownBytes.{Keeps-refl}
use Rattle.index_tool.specs.Calls.{meaning_of}
use Rattle.index_tool.specs.Ending.{unread}
use Rattle.index_tool.proofs.words.run.Goals as goal

pub returns-in-Ok-clause-ends : goal.returns-in-Ok-clause-ends
returns-in-Ok-clause-ends g c =
    let ends = c.run_in.ensures.ends in
    record {
      status = ends.status;
      wrong_words = ends.wrong_words;
      done = λ h. record { around = c.in-Ok.around; old = _; new = _; holds = ends.done h };
      refused = λ h. record { around = c.in-Ok.around; old = _; new = _; holds = ends.refused h };
    }

pub returns-in-Err-clause-ends : goal.returns-in-Err-clause-ends
returns-in-Err-clause-ends g c = record {
  status = omega arith;
  wrong_words = λ h. absurd (omega (arith, h));
  done = λ h. absurd (omega (arith, h));
  refused = λ h. record {
    around = record { index_file = None; git_dir = None; depth = 0 };
    old = None;
    new = None;
    holds = unread (meaning_of c.args.words.now) (Keeps-refl None) refl;
  };
}
