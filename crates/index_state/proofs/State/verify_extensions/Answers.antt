use Rattle.std.proofs.Common.{rules, ◌≡◌, Ok, Option, Some, None, IfErr, length, refl, subst, sym}
use Rattle.ext_tree.specs.Sound.{IsSoundTree}
use Rattle.ext_tree.specs.Tree.{Node, node_of}
use Rattle.ext_tree.proofs.Agreements.{some_trees}
use Rattle.ext_tree.specs.TreeFaults.{NodeCause}
use Rattle.index_state.specs.SoundState.{extensions_fault}
use Rattle.index_state.specs.State.{contents, entries_of}
use Rattle.index_state.proofs.VerifiedTrees.{later_fault, judged_later}
use Rattle.index_state.proofs.State.verify_extensions.Goals as goal

pub returns-in_default-clause-objects : goal.returns-in_default-clause-objects
returns-in_default-clause-objects g c = λ used.
    let trees = some_trees (g.F.Find.found c.args.objects.now) in
    let absent : (contents c.args.self.now).extensions.tree ≡ None = search rules in
    (trees.0, trees.1, rw absent refl)

pub returns-clause-fault : goal.returns-clause-fault
returns-clause-fault g c = λ unused.
    let t = node_of c.in-Some.tree.now in
    let there : (contents c.args.self.now).extensions.tree ≡ Some t = search rules in
    let sound : IsSoundTree t = (c.in_ok-verify.ensures.sound unused).0 refl in
    let count : c.len.result ≡ length (entries_of c.args.self.now) = search rules in
    subst (λ (o : Option Node). IfErr c.verify_counts.result
    (λ e. NodeCause e (extensions_fault (length (entries_of c.args.self.now)) None o))) (sym there)
    (later_fault c.verify_counts.result (length (entries_of c.args.self.now)) t sound
    (rw count at c.verify_counts.ensures.fault))

pub returns-clause-objects : goal.returns-clause-objects
returns-clause-objects g c = λ used.
    let t = node_of c.in-Some.tree.now in
    let there : (contents c.args.self.now).extensions.tree ≡ Some t = search rules in
    let count : c.len.result ≡ length (entries_of c.args.self.now) = search rules in
    let verified = c.in_ok-verify.ensures.objects used in (
      verified.0,
      verified.1,
      rw there (judged_later (length (entries_of c.args.self.now)) verified.0 t
          (Ok c.in_ok-verify.field-0) c.verify_counts.result refl verified.2
          (rw count at c.verify_counts.ensures.within).0 (rw count at c.verify_counts.ensures.fault)),
    )
