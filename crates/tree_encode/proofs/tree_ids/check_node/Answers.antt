use Rattle.std.proofs.Common.{ℕ, Option, sym, subst, ◌∙◌}
use Rattle.std.specs.Option.{option_map}
use Rattle.std.proofs.lemmas.Bool.{false≢true}
use Rattle.ext_tree.specs.Tree.{node_of}
use Rattle.tree_encode.specs.TreeIds.{IsRight}
use Rattle.tree_encode.specs.TreeIdsSteps.{IsExpectedNode, SpotCause}
use Rattle.tree_encode.proofs.Spots.{spot_said}
use Rattle.tree_encode.proofs.tree_ids.check_node.Goals as goal

pub returns-then-is_given-clause-ok : goal.returns-then-is_given-clause-ok
returns-then-is_given-clause-ok c = λ kind rs names is p g.
    subst (λ (n : Option ℕ). IsRight kind rs (record { names = names; id = c.args.id; count = n })) (sym c.in-Some.is)
    (subst (IsExpectedNode kind rs names) (c.is_given.ensures.0 c.if-is_given.true)
    (c.given_beside-given.ensures kind rs names is p g))

pub returns-clause-fault : goal.returns-clause-fault
returns-clause-fault c = λ kind rs names is p g.
    subst (λ (n : Option ℕ). SpotCause kind rs
    (record { names = names; id = c.args.id; count = n }) c.in_ok-wrong.field-0) (sym c.in-Some.is)
    (spot_said kind rs names (option_map (λ t. node_of t.now) c.given_beside-given.result) c.args.parent.now c.args.id
    c.in-Some.count c.in_ok-wrong.field-0 c.in_ok-wrong.ensures
    (λ e. absurd (false≢true (sym c.if-is_given.false ∙ c.is_given.ensures.1 e)))
    (c.given_beside-given.ensures kind rs names is p g) p)
