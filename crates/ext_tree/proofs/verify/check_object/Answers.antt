use Rattle.std.proofs.Common.{sym}
use Rattle.std.proofs.lemmas.Bool.{eqb-false}
use Rattle.std.proofs.lemmas.Result.{IfErr-weaker}
use Rattle.ext_tree.proofs.TreeChecks.{looked_said}
use Rattle.ext_tree.proofs.verify.check_object.Goals as goal

pub returns-clause-err : goal.returns-clause-err
returns-clause-err g c =
    rw c.in-Some.is (IfErr-weaker c.check_tree.result _ _ (λ e s. looked_said (g.F.Find.found c.in-Some.objects.now)
    c.args.id c.args.children.now (eqb-false _ _ (sym c.if-is_empty.ensures)) e s) c.check_tree.ensures.err)
