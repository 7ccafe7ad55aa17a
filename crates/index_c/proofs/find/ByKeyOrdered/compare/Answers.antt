use Rattle.std.proofs.Common.{arith}
use Rattle.std.proofs.lemmas.List.{length-map}
use Rattle.gix_index.specs.Order.{key_cmp}
use Rattle.base_search.proofs.Places.{mapped_at}
use Rattle.capi_table.specs.Table.{records_of, spelled}
use Rattle.index_c.proofs.RowsAt.{row_gives}
use Rattle.index_c.proofs.find.ByKeyOrdered.compare.Goals as goal

pub returns : goal.returns
returns c =
    let self = c.args.self.now in
    let f = key_cmp self.path.now self.stage in
    let many = length-map (records_of self.paths.now self.rows.now) f in
    mapped_at f _ c.args.place c.compare.result c.requires
    (row_gives f self.paths.now self.rows.now c.args.place _ c.compare.result
    (omega (arith, c.requires, many, length-map self.rows.now (spelled self.paths.now))) c.compare.ensures)
