use Rattle.std.proofs.Common.{◌++◌, arith}
use Rattle.gix_index.specs.Record.{Record}
use Rattle.base_search.specs.Prefix.{prefix_cmp}
use Rattle.base_search.proofs.Places.{mapped_at}
use Rattle.index_c.proofs.Prefixes.{many_answers}
use Rattle.index_c.proofs.RowsAt.{row_gives}
use Rattle.index_c.proofs.prefix.ByPrefixOrdered.compare.Goals as goal

pub returns : goal.returns
returns c =
    let self = c.args.self.now in
    let prefix = self.prefix.now ++ self.tail.now in
    let f = λ (r : Record). prefix_cmp prefix r.path in
    mapped_at f _ c.args.place c.compare.result c.requires
    (row_gives f self.paths.now self.rows.now c.args.place _ c.compare.result
    (omega (arith, c.requires, many_answers prefix self.paths.now self.rows.now)) c.compare.ensures)
