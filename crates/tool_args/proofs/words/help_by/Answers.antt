use Rattle.tool_args.proofs.Answered.{says_meaning}
use Rattle.tool_args.proofs.words.help_by.Goals as goal

pub returns : goal.returns
returns c = says_meaning _ _ _ c.in-Err.ensures.answer
