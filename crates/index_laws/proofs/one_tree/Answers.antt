use Rattle.std.proofs.Common.{◌∙◌, sym}
use Rattle.tree_encode.proofs.OneTree.{same_items}
use Rattle.index_laws.proofs.one_tree.Goals as goal

pub returns : goal.returns
returns c = λ kind staged x y h g. same_items kind x y h.directory.made h.directory.ordered g.directory.made
    g.directory.ordered (h.leaves ∙ sym g.leaves)
