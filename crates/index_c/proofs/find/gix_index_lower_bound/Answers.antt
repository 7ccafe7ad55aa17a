use Rattle.std.proofs.Common.{arith}
use Rattle.std.proofs.lemmas.List.{length-map}
use Rattle.gix_index.specs.Order.{key_cmp}
use Rattle.capi_table.specs.Table.{records_of, spelled}
use Rattle.index_c.proofs.Finds.{bound_is}
use Rattle.index_c.proofs.find.gix_index_lower_bound.Goals as goal

pub returns : goal.returns
returns c =
    record {
      in_range = let rs = records_of c.args.paths.now c.args.rows.now in
          omega (
            arith,
            c.part.ensures.in_range,
            length-map rs (key_cmp c.args.path.now c.args.stage),
            length-map c.args.rows.now (spelled c.args.paths.now),
          );
      answer = bound_is c.args.path.now c.args.stage (records_of c.args.paths.now c.args.rows.now) _
          c.part.ensures.parts;
    }
