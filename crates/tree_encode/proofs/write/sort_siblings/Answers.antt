use Rattle.std.proofs.Common.{rules}
use Rattle.std.proofs.lemmas.List.Sorted.{IsPermutation-map}
use Rattle.ext_tree.specs.Tree.{node_of}
use Rattle.tree_encode.proofs.Sorting.{sorted_map}
use Rattle.tree_encode.proofs.write.sort_siblings.Goals as goal

pub returns-clause-same : goal.returns-clause-same
returns-clause-same c = IsPermutation-map node_of c.args.siblings.now.items c.sort_unstable_by.new.self.items
    c.sort_unstable_by.ensures.permutation

pub returns-clause-sorted : goal.returns-clause-sorted
returns-clause-sorted c =
    sorted_map _ _ c.sort_unstable_by.new.self.items c.sort_unstable_by.ensures.sorted (λ a r f' q. search rules)
