use Rattle.std.proofs.lemmas.Result.{err_from_is_err_and}
use Rattle.view_strict.proofs.Sound.{not_alone, other_within}
use Rattle.view_strict.proofs.verify.check_at.Goals as goal

pub beside-requires-clause-other : goal.beside-requires-clause-other
beside-requires-clause-other c = other_within c.args.entries.now c.args.place c.first_beside.result c.in-Some.other
    c.first_beside.ensures c.in-Some.is c.requires.within

pub returns-in_err-beside-clause-fault : goal.returns-in_err-beside-clause-fault
returns-in_err-beside-clause-fault c =
    let p = err_from_is_err_and c.from_residual-in_err-beside.result c.from_residual-in_err-beside.ensures.1 in
    rw (p.1, p.2) (not_alone c.args.entries.now c.args.place c.first_beside.result c.in-Some.other
    c.first_beside.ensures c.in-Some.is c.args.kind)
