use Rattle.std.proofs.Common.{arith, sym, refl, ◌∙◌}
use Rattle.ext_tree.proofs.Storables.{parts_of, of_parts, storable_here, storable_on, storable_at_end}
use Rattle.ext_tree.proofs.storable.+is_storable_within.Goals as goal
use Rattle.ext_tree.proofs.storable.+is_storable_within.Goals.{then-not-has_plain_head-via-then-not-has_plain_head}
use Rattle.ext_tree.proofs.storable.+is_storable_within.Goals.{then-not-has_plain_head-via-else-not-has_plain_head+then-not-are_apart}
use Rattle.ext_tree.proofs.storable.+is_storable_within.Goals.{then-levels-eq0-via-then-levels-eq0}
use Rattle.ext_tree.proofs.storable.+is_storable_within.Goals.{then-levels-eq0-via-else-levels-eq0+then-not-is_storable_within}

pub returns-then-not-has_plain_head : goal.returns-then-not-has_plain_head
returns-then-not-has_plain_head t c = (
  λ no. absurd cc,
  λ h.
      let parts = parts_of c.args.kind c.args.levels c.args.tree.now c.as_slice-children.result.now
      c.as_slice-children.ensures.value h in
      elim c.then-not-has_plain_head.branch [
        | then-not-has_plain_head-via-then-not-has_plain_head w ↦
            sym w.if-not-has_plain_head.true ∙ c.has_plain_head.ensures.1 parts.0
        | then-not-has_plain_head-via-else-not-has_plain_head+then-not-are_apart w ↦
            sym w.if-not-are_apart.true ∙ w.are_apart.ensures.1 parts.1
      ],
)

pub returns-then-levels-eq0 : goal.returns-then-levels-eq0
returns-then-levels-eq0 t c = (
  λ no. absurd cc,
  λ h.
      let parts = parts_of c.args.kind c.args.levels c.args.tree.now c.as_slice-children.result.now
      c.as_slice-children.ensures.value h in
      let here = storable_here c.as_slice-children.result.now c.loop-child.child-index c.child-item.result
      c.loop-child-test.true c.child-item.is c.args.kind c.args.levels (c.loop-child.invariant.0 parts.2) in
      elim c.then-levels-eq0.branch [
        | then-levels-eq0-via-then-levels-eq0 w ↦ absurd (omega (arith, here.0, w.if-levels-eq0.true))
        | then-levels-eq0-via-else-levels-eq0+then-not-is_storable_within w ↦
            sym w.if-not-is_storable_within.true ∙ w.is_storable_within.ensures.1 here.1
      ],
)

pub loop-child-preserved : goal.loop-child-preserved
loop-child-preserved t c = (
  λ h. (storable_here c.as_slice-children.result.now c.loop-child.child-index c.child-item.result c.loop-child-test.true
      c.child-item.is c.args.kind c.args.levels (c.loop-child.invariant.0 h)).2,
  λ h. c.loop-child.invariant.1 (storable_on c.as_slice-children.result.now c.loop-child.child-index c.child-item.result
      c.loop-child-test.true c.child-item.is c.args.kind c.args.levels (omega (arith, c.if-levels-eq0.false))
      (c.is_storable_within.ensures.0 c.if-not-is_storable_within.false) h),
)

pub returns : goal.returns
returns t c =
    let all = c.loop-child.invariant.1 (storable_at_end c.args.kind c.args.levels c.as_slice-children.result.now
    c.loop-child.child-index (λ lt. omega (arith, lt, c.loop-child-test.false))) in
    let plain = c.has_plain_head.ensures.0 c.if-not-has_plain_head.false in
    let apart = c.are_apart.ensures.0 c.if-not-are_apart.false in (
      λ _. of_parts c.args.kind c.args.levels c.args.tree.now c.as_slice-children.result.now
          c.as_slice-children.ensures.value c.as_slice-children.type_inv.0 plain apart all,
      λ _. refl,
    )
