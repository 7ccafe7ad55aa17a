use Rattle.std.proofs.Common.{◌≡◌, inr, ℕ, suc, ◌-◌, ◌+◌, ◌<◌, List, ◌∷◌, All, length, take, drop, sym, ap, subst, ◌∙◌}
use Rattle.std.proofs.Common.{arith}
use Rattle.std.specs.Prelude.{slice_index_or}
use Rattle.std.proofs.Math.Seq.{drop-cons}
use Rattle.std.proofs.lemmas.List.{take_more}
use Rattle.std.proofs.lemmas.List.Elements.{All-cons}
use Rattle.tree_encode.specs.Refusals.{HasPathPrefix}
use Rattle.tree_encode.specs.declared.leaf.Leaf.{Leaf}
use Rattle.tree_encode.proofs.Aparts.{begins_from, not_begins}
use Rattle.tree_encode.proofs.Leaves.{no_leaf}
use Rattle.tree_encode.proofs.apart.beginnings_of.Goals as goal

pub returns-then-starts_with-clause-last : goal.returns-then-starts_with-clause-last
returns-then-starts_with-clause-last c =
    let all = c.args.files.now in
    let n = c.loop-count.count in
    let f = slice_index_or all (n - 1) no_leaf in
    let lt : n - 1 < length all = omega (arith, c.loop-count-test.true, c.loop-count.invariant.within) in
    let same : n ≡ n - 1 + 1 = omega (arith, c.loop-count-test.true) in
    inr (
      take (n - 1) all,
      f,
      ap (λ (k : ℕ). take k all) same ∙ take_more all (n - 1) no_leaf lt,
      begins_from c.args.path.now f.path.now c.starts_with.result c.starts_with.ensures.value c.if-starts_with.true,
    )

pub loop-count-preserved : goal.loop-count-preserved
loop-count-preserved c =
    let all = c.args.files.now in
    let n = c.loop-count.count in
    let f = slice_index_or all (n - 1) no_leaf in
    let lt : n - 1 < length all = omega (arith, c.loop-count-test.true, c.loop-count.invariant.within) in
    let same : suc (n - 1) ≡ n = omega (arith, c.loop-count-test.true) in
    let list : drop (n - 1) all ≡ f ∷ drop n all =
    drop-cons all (n - 1) no_leaf lt ∙ ap (λ (k : ℕ). f ∷ drop k all) same in
    record {
      within = omega (arith, c.loop-count.invariant.within);
      taken = subst (λ (l : List Leaf). All (λ g. HasPathPrefix c.args.path.now g.path.now → ⊥) l) (sym list)
          (All-cons (λ g. HasPathPrefix c.args.path.now g.path.now → ⊥) f (drop n all)
          (not_begins c.args.path.now f.path.now c.starts_with.result c.starts_with.ensures.value
          c.if-starts_with.false) c.loop-count.invariant.taken);
    }

pub returns-clause-taken : goal.returns-clause-taken
returns-clause-taken c =
    let none : c.loop-count.count ≡ 0 = omega arith in
    subst (λ (n : ℕ). All (λ f. HasPathPrefix c.args.path.now f.path.now → ⊥) (drop n c.args.files.now)) none
    c.loop-count.invariant.taken
