use Rattle.std.proofs.Common.{refl}
use Rattle.ext_tree.proofs.Sounds.{row_of_trees}
use Rattle.ext_tree.proofs.Storables.{apart_of_rise, walk_here, walk_on, apart_at_end}
use Rattle.ext_tree.proofs.storable.are_apart.Goals as goal

pub returns-then-names_rise : goal.returns-then-names_rise
returns-then-names_rise c =
    (λ _. apart_of_rise (row_of_trees c.args.trees.now) (c.names_rise.ensures.0 c.if-names_rise.true), λ _. refl)

pub returns-then-not-is_apart : goal.returns-then-not-is_apart
returns-then-not-is_apart c = (
  λ no. absurd cc,
  λ h.
      let here = walk_here c.loop-rest.rest.now c.tree-item.result c.in-len1-up.len_at_least c.tree-item.is
      (c.loop-rest.invariant.0 h) in
      let yes = c.is_apart.ensures.1 here.0 in
      absurd cc,
)

pub loop-rest-preserved : goal.loop-rest-preserved
loop-rest-preserved c = (
  λ h. (walk_here c.loop-rest.rest.now c.tree-item.result c.in-len1-up.len_at_least c.tree-item.is
      (c.loop-rest.invariant.0 h)).1,
  λ h. c.loop-rest.invariant.1 (walk_on c.loop-rest.rest.now c.tree-item.result c.in-len1-up.len_at_least c.tree-item.is
      (c.is_apart.ensures.0 c.if-not-is_apart.false) h),
)

pub returns : goal.returns
returns c = (λ _. c.loop-rest.invariant.1 (apart_at_end c.loop-rest.rest.now c.in_default.len_below), λ _. refl)
