use Rattle.std.proofs.lemmas.Result.{err_from_is_err_and}
use Rattle.tool_args.proofs.Answered.{says_meaning}
use Rattle.tool_args.proofs.words.parse.Goals as goal

pub returns-in_err-matches : goal.returns-in_err-matches
returns-in_err-matches g c =
    let p = err_from_is_err_and c.from_residual.result c.from_residual.ensures.1 in
    rw (p.1, p.2) (says_meaning _ _ _ c.in_err-matches.ensures.answer)
