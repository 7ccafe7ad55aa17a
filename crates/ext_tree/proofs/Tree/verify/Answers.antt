use Rattle.std.proofs.Common.{◌≡◌, Some, None, cond, ap, ◌∙◌, sym}
use Rattle.std.specs.Option.{option_map}
use Rattle.std.proofs.lemmas.Result.{err_from_is_err_and, IfOk-weaker, IfErr-weaker}
use Rattle.ext_tree.specs.TreeFaults.{tree_name_fault, node_fault}
use Rattle.ext_tree.specs.Tree.{node_of, node_name}
use Rattle.ext_tree.proofs.Agreements.{some_trees}
use Rattle.ext_tree.proofs.Sounds.{name_out, says_is, says_after, sound_by, judged, judged_name, unlooked}
use Rattle.ext_tree.proofs.Sounds.{looked, chosen, unchosen}
use Rattle.ext_tree.proofs.Tree.verify.Goals as goal
use Rattle.ext_tree.proofs.Tree.verify.Goals.{then-use_objects, else-use_objects}

pub returns-in_err-check_root-clause-objects : goal.returns-in_err-check_root-clause-objects
returns-in_err-check_root-clause-objects g c = λ used.
    let p = err_from_is_err_and c.from_residual.result c.from_residual.ensures.1 in
    let st = some_trees (g.F.Find.found c.args.objects.now) in
    let name = ap tree_name_fault (name_out c.args.self.now ∙ sym c.as_slice.ensures) in (
      st.0,
      st.1,
      rw (p.1, p.2)
          (judged_name st.0 (node_of c.args.self.now) _ (says_is _ _ _ name c.in_err-check_root.ensures.err)),
    )

pub returns-clause-sound : goal.returns-clause-sound
returns-clause-sound g c = λ unused.
    let t = node_of c.args.self.now in
    let found = g.F.Find.found c.args.objects.now in
    let name : tree_name_fault (node_name t) ≡ None =
    ap tree_name_fault (name_out c.args.self.now ∙ sym c.as_slice.ensures) ∙ c.in_ok-check_root.ensures.ok in
    let is : option_map (λ o. g.F.Find.found o.now) c.if-use_objects.objects
    ≡ cond c.args.use_objects (Some found) None = elim c.if-use_objects.branch [
      | then-use_objects w ↦
          rw w.objects-is (chosen _ found w.if-use_objects.true)
      | else-use_objects w ↦
          rw w.objects-is (unchosen _ found w.if-use_objects.false)
    ] in
    let look = unlooked c.args.use_objects found _ is unused in
    sound_by c.verify_node.result t name
    (IfOk-weaker c.verify_node.result _ _ (λ x h. h None look) c.verify_node.ensures.ok)
    (IfErr-weaker c.verify_node.result _ _ (λ e h. h None look) c.verify_node.ensures.err)

pub returns-clause-fault : goal.returns-clause-fault
returns-clause-fault g c = λ unused.
    let t = node_of c.args.self.now in
    let found = g.F.Find.found c.args.objects.now in
    let name : tree_name_fault (node_name t) ≡ None =
    ap tree_name_fault (name_out c.args.self.now ∙ sym c.as_slice.ensures) ∙ c.in_ok-check_root.ensures.ok in
    let is : option_map (λ o. g.F.Find.found o.now) c.if-use_objects.objects
    ≡ cond c.args.use_objects (Some found) None = elim c.if-use_objects.branch [
      | then-use_objects w ↦
          rw w.objects-is (chosen _ found w.if-use_objects.true)
      | else-use_objects w ↦
          rw w.objects-is (unchosen _ found w.if-use_objects.false)
    ] in
    let look = unlooked c.args.use_objects found _ is unused in
    IfErr-weaker c.verify_node.result _ _
    (λ e h. says_after e (tree_name_fault (node_name t)) (node_fault None t) name (h None look))
    c.verify_node.ensures.err

pub returns-clause-objects : goal.returns-clause-objects
returns-clause-objects g c = λ used.
    let t = node_of c.args.self.now in
    let found = g.F.Find.found c.args.objects.now in
    let name : tree_name_fault (node_name t) ≡ None =
    ap tree_name_fault (name_out c.args.self.now ∙ sym c.as_slice.ensures) ∙ c.in_ok-check_root.ensures.ok in
    let is : option_map (λ o. g.F.Find.found o.now) c.if-use_objects.objects
    ≡ cond c.args.use_objects (Some found) None = elim c.if-use_objects.branch [
      | then-use_objects w ↦
          rw w.objects-is (chosen _ found w.if-use_objects.true)
      | else-use_objects w ↦
          rw w.objects-is (unchosen _ found w.if-use_objects.false)
    ] in
    let st = some_trees found in
    let look = looked c.args.use_objects found _ is used st.0 st.1 in (
      st.0,
      st.1,
      judged c.verify_node.result st.0 t name
          (IfOk-weaker c.verify_node.result _ _ (λ x h. h (Some st.0) look) c.verify_node.ensures.ok)
          (IfErr-weaker c.verify_node.result _ _ (λ e h. h (Some st.0) look) c.verify_node.ensures.err),
    )
