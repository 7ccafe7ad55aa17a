use Rattle.std.proofs.Common.{[], length, ap, sym}
use Rattle.std.proofs.lemmas.Bool.{eqb-false}
use Rattle.ext_tree.proofs.Trees.{one_subtree}
use Rattle.ext_tree.proofs.decode.Goals as goal

pub returns-in_default-clause-read : goal.returns-in_default-clause-read
returns-in_default-clause-read c = λ t p. let none = rw c.in_default.is at c.in_ok-rest.ensures.none in none t [] p

pub returns-then-not-is_empty-clause-read : goal.returns-then-not-is_empty-clause-read
returns-then-not-is_empty-clause-read c = λ t p.
    let found = rw c.in-Some.is at c.in_ok-rest.ensures.some in
    let behind = (one_subtree c.args.object_hash c.args.alloc_limit_bytes 2048 c.args.data.now t found.0 []
    c.in-Some.rest.now p found.2).1 in
    eqb-false (length c.in-Some.rest.now) 0 (sym c.if-not-is_empty.ensures) (ap length (sym behind))
