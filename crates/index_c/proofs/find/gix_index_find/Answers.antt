use Rattle.std.proofs.Common.{arith, ◌≡◌, length, sym, ◌∙◌, rules}
use Rattle.std.proofs.lemmas.List.{length-map}
use Rattle.gix_index.specs.Lookup.{IsKeyAt, insertion_of, record_index}
use Rattle.entry_lookup.proofs.Lookup.{ok_is}
use Rattle.capi_table.specs.Table.{records_of, spelled}
use Rattle.index_c.proofs.Finds.{found_place, key_there, missed_place, search_answer}
use Rattle.index_c.proofs.find.gix_index_find.Goals as goal

pub returns-in-Ok : goal.returns-in-Ok
returns-in-Ok c =
    record {
      in_range = let rs = records_of c.args.paths.now c.args.rows.now in
          let here = ok_is c.search_within.result.0 c.in-Ok.place (IsKeyAt c.args.path.now c.args.stage rs) c.in-Ok.is
          (key_there c.args.path.now c.args.stage rs c.search_within.result.0 c.search_within.ensures.found) in
          omega (arith, here.in_range, length-map c.args.rows.now (spelled c.args.paths.now));
      found = λ within. let rs = records_of c.args.paths.now c.args.rows.now in
          ok_is c.search_within.result.0 c.in-Ok.place (IsKeyAt c.args.path.now c.args.stage rs) c.in-Ok.is
          (key_there c.args.path.now c.args.stage rs c.search_within.result.0 c.search_within.ensures.found);
      answer = λ ordered. let path = c.args.path.now in
          let rs = records_of c.args.paths.now c.args.rows.now in
          let many : length rs ≡ length c.args.rows.now = length-map c.args.rows.now (spelled c.args.paths.now) in
          let here = ok_is c.search_within.result.0 c.in-Ok.place (IsKeyAt path c.args.stage rs) c.in-Ok.is
          (key_there path c.args.stage rs c.search_within.result.0 c.search_within.ensures.found) in
          found_place (length c.args.rows.now) c.in-Ok.place (insertion_of path c.args.stage rs)
          (record_index path c.args.stage rs) (omega (arith, here.in_range, many))
          (sym c.in-Ok.is ∙ search_answer path c.args.stage rs c.search_within.result.0 c.search_within.ensures.found
          (length c.args.rows.now) (sym many) c.search_within.ensures.in_range c.search_within.ensures.absent
          ordered);
    }

pub returns-in-Err : goal.returns-in-Err
returns-in-Err c =
    record {
      in_range = search rules;
      found = search rules;
      answer = λ ordered. let path = c.args.path.now in
          let rs = records_of c.args.paths.now c.args.rows.now in
          let many : length rs ≡ length c.args.rows.now = length-map c.args.rows.now (spelled c.args.paths.now) in
          missed_place (length c.args.rows.now) _ (insertion_of path c.args.stage rs) (record_index path c.args.stage
          rs)
          (sym c.in-Err.is ∙ search_answer path c.args.stage rs c.search_within.result.0 c.search_within.ensures.found
          (length c.args.rows.now) (sym many) c.search_within.ensures.in_range c.search_within.ensures.absent
          ordered);
    }
