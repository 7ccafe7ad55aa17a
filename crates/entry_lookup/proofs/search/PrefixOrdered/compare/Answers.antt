use Rattle.std.proofs.Common.{◌++◌, ap, sym, ◌∙◌}
use Rattle.entry_list.specs.Record.{Record}
use Rattle.base_search.specs.Prefix.{prefix_cmp}
use Rattle.base_search.proofs.Places.{mapped_at}
use Rattle.entry_lookup.proofs.search.PrefixOrdered.compare.Goals as goal

pub returns : goal.returns
returns c =
    let prefix = c.args.self.now.prefix.now ++ c.args.self.now.tail.now in
    mapped_at (λ (r : Record). prefix_cmp prefix r.path) _ c.args.place c.compare_pieces.result c.requires
    (λ d. ap (prefix_cmp prefix) (c.path.ensures d) ∙ sym c.compare_pieces.ensures)
