-- What calls on a cache tree imply for a state that has one.
use Rattle.std.proofs.Common.{◌≡◌, List, Option, Some, None, Bor, Result, Ok, Err, ap, subst, sym}
use Rattle.std.specs.Prelude.{IfErr, MatchOption}
use Rattle.std.specs.Option.{option_copied, option_map}
use Rattle.index_parts.specs.declared.hash.Kind.{Kind}
use Rattle.ext_tree.specs.Tree.{Node, node_of}
use Rattle.ext_tree.specs.declared.Tree.{Tree}
use Rattle.entry_list.specs.Record.{Record}
use Rattle.tree_encode.specs.TreeIds.{TreeIdsCause}
use Rattle.tree_encode.specs.declared.tree_ids.Error.{Error}

pub nodes_lent : (lent : Option (Bor Tree)) (o : Option Tree) → option_copied lent ≡ o
    → option_map (λ t. node_of t.now) lent ≡ option_map node_of o
nodes_lent None o e = ap (option_map node_of) e
nodes_lent (Some b) o e = ap (option_map node_of) e

pub says_of_tree : (r : Result (Unit {0}) Error) (o : Option Node) (kind : Kind) (qs rs : List Record) (t : Node)
    → o ≡ Some t → qs ≡ rs → IfErr r (TreeIdsCause kind qs t)
    → IfErr r (λ e. MatchOption o ⊥ (λ t. TreeIdsCause kind rs t e))
says_of_tree (Ok x) o kind qs rs t is same h = tt
says_of_tree (Err e) o kind qs rs t is same h =
    subst (λ (p : Option Node). MatchOption p ⊥ (λ t. TreeIdsCause kind rs t e)) (sym is)
    (subst (λ (l : List Record). TreeIdsCause kind l t e) same h)
