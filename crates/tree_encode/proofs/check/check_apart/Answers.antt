use Rattle.std.proofs.Common.{◌≡◌, ◌⊎◌, [], ◌∷◌, ◌++◌, List, All, take, drop, subst, ap, ◌∙◌}
use Rattle.tree_encode.specs.ApartSteps.{EndsWith}
use Rattle.tree_encode.specs.Refusals.{HasPathPrefix}
use Rattle.tree_encode.specs.declared.leaf.Leaf.{Leaf}
use Rattle.tree_encode.proofs.Checked.{keeps_from}
use Rattle.tree_encode.proofs.check.check_apart.Goals as goal

pub returns-clause-beginnings : goal.returns-clause-beginnings
returns-clause-beginnings c =
    let files = c.args.files.now.items in
    let path = c.args.leaf.path.now in
    let k = c.beginnings_of-count.result in
    let taken = subst (λ (l : List Leaf). All (λ f. HasPathPrefix path f.path.now → ⊥) (drop k l)) c.deref.ensures.value
    c.beginnings_of-count.ensures.taken in
    let last = subst (λ (l : List Leaf). (k ≡ 0) ⊎ EndsWith (take k l) (λ f. HasPathPrefix path f.path.now))
    c.deref.ensures.value c.beginnings_of-count.ensures.last in (
      k,
      keeps_from k path files taken last (λ init end e.
          c.last_above.ensures.none c.in_default.is init end (c.deref-2.ensures.value ∙ c.truncate.ensures.items ∙ e)),
      c.in_ok-push.ensures.items ∙ ap (λ (l : List Leaf). l ++ c.args.leaf ∷ []) c.truncate.ensures.items,
    )
