use Rattle.std.proofs.Common.{◌≡◌, inl, inr, ℕ, List, [], ◌∷◌, ◌++◌, sym, ap, ◌∙◌}
use Rattle.std.proofs.lemmas.List.Prefix.{front_rest}
use Rattle.tree_encode.specs.Staged.{staged_of}
use Rattle.tree_encode.proofs.Aparts.{begins_from, lies_begins, not_begins, not_lies}
use Rattle.tree_encode.proofs.apart.lies_in.Goals as goal

pub returns-then-not-starts_with-clause-no : goal.returns-then-not-starts_with-clause-no
returns-then-not-starts_with-clause-no c = λ same b.
    not_begins c.args.path.now c.args.leaf.now.path.now c.starts_with.result c.starts_with.ensures.value
    c.if-not-starts_with.true (lies_begins c.args.path.now (staged_of c.args.leaf.now) b)

pub returns-then-is_tree-clause-yes : goal.returns-then-is_tree-clause-yes
returns-then-is_tree-clause-yes c = λ yes.
    inr (
      c.is_tree.ensures.yes c.if-is_tree.true,
      begins_from c.args.path.now c.args.leaf.now.path.now
          c.starts_with.result c.starts_with.ensures.value c.if-not-starts_with.false,
    )

pub returns-clause-yes : goal.returns-clause-yes
returns-clause-yes c = λ yes.
    let path = c.args.path.now in
    let file = c.args.leaf.now.path.now in
    let rest = c.split_at.result.1.now in
    let front = begins_from path file c.starts_with.result c.starts_with.ensures.value c.if-not-starts_with.false in
    let slash = begins_from rest (47 ∷ []) c.starts_with-2.result c.starts_with-2.ensures.value yes in
    let is : front.0 ≡ rest = sym (front_rest path file front.0 front.1) ∙ sym c.split_at.ensures.back in
    inl (slash.0, front.1 ∙ ap (λ (l : List ℕ). file ++ l) (is ∙ slash.1))

pub returns-clause-no : goal.returns-clause-no
returns-clause-no c = λ no. not_lies c.args.path.now (staged_of c.args.leaf.now)
    (λ b. not_begins c.split_at.result.1.now (47 ∷ []) c.starts_with-2.result c.starts_with-2.ensures.value no
    (b.0, c.split_at.ensures.back ∙ front_rest c.args.path.now c.args.leaf.now.path.now (47 ∷ b.0) b.1))
    (c.is_tree.ensures.no c.if-is_tree.false)
