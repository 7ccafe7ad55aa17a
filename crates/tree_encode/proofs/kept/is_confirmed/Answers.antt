use Rattle.std.proofs.Common.{sym, ◌∙◌}
use Rattle.std.specs.Option.{option_map}
use Rattle.std.proofs.lemmas.Bool.{false≢true}
use Rattle.ext_tree.specs.Tree.{node_of}
use Rattle.ext_tree.specs.declared.Tree.TheViews.{out-Tree}
use Rattle.tree_encode.proofs.Keeps.{told_no, told_yes}
use Rattle.tree_encode.proofs.kept.is_confirmed.Goals as goal

pub returns-clause-yes : goal.returns-clause-yes
returns-clause-yes c = λ yes names.
    told_yes names (option_map (λ t. node_of t.now) c.args.old) (out-Tree c.args.made.now).id
    (out-Tree c.args.made.now).num_entries c.in-Some.count c.in-Some.is (c.is_given.ensures.0 yes)

pub returns-clause-no : goal.returns-clause-no
returns-clause-no c = λ no names.
    told_no names (option_map (λ t. node_of t.now) c.args.old) (out-Tree c.args.made.now).id
    (out-Tree c.args.made.now).num_entries c.in-Some.count c.in-Some.is
    (λ e. absurd (false≢true (sym no ∙ c.is_given.ensures.1 e)))
