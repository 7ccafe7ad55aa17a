use Rattle.std.proofs.Common.{◌≡◌, true, false, sym, ap, ◌∙◌}
use Rattle.std.specs.Ordering.{is_eq}
use Rattle.ext_tree.specs.Tree.{node_of, name_cmp}
use Rattle.ext_tree.proofs.Storables.{apart_here, apart_on, same_of_tie, apart_untied}
use Rattle.ext_tree.proofs.storable.is_apart.Goals as goal

pub returns-then-is_eq : goal.returns-then-is_eq
returns-then-is_eq c =
    let t = node_of c.args.tree.now in
    let u = node_of c.other-item.result in
    let tie : is_eq (name_cmp t u) ≡ true =
    ap is_eq (sym c.compare_names.ensures) ∙ sym c.is_eq.ensures ∙ c.if-is_eq.true in (
      λ no. absurd cc,
      λ h. absurd ((apart_here c.args.others.now c.loop-other.other-index c.other-item.result c.loop-other-test.true
          c.other-item.is t (c.loop-other.invariant.0 h)).0 (same_of_tie t u tie)),
    )

pub loop-other-preserved : goal.loop-other-preserved
loop-other-preserved c =
    let t = node_of c.args.tree.now in
    let u = node_of c.other-item.result in
    let untied : is_eq (name_cmp t u) ≡ false =
    ap is_eq (sym c.compare_names.ensures) ∙ sym c.is_eq.ensures ∙ c.if-is_eq.false in (
      λ h. (apart_here c.args.others.now c.loop-other.other-index c.other-item.result c.loop-other-test.true
          c.other-item.is t (c.loop-other.invariant.0 h)).1,
      λ h. c.loop-other.invariant.1 (apart_on c.args.others.now c.loop-other.other-index c.other-item.result
          c.loop-other-test.true c.other-item.is t (apart_untied t u untied) h),
    )
