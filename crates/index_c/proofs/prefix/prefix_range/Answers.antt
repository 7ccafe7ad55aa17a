use Rattle.std.proofs.Common.{arith, ◌++◌, [], rules}
use Rattle.std.proofs.lemmas.Bool.Decides.{nat_tests}
use Rattle.entry_lookup.specs.SearchSteps.{prefix_answers}
use Rattle.entry_lookup.proofs.RunsFound.{rising_prefixes}
use Rattle.base_search.proofs.Parting.{parted_around}
use Rattle.capi_table.specs.Table.{records_of}
use Rattle.index_c.proofs.Prefixes.{no_range, range_between}
use Rattle.index_c.proofs.prefix.prefix_range.Goals as goal

pub returns-then-low-high-clause-prefixed : goal.returns-then-low-high-clause-prefixed
returns-then-low-high-clause-prefixed c =
    record {
      exactly = λ o. let e = c.is_empty.ensures in let f = c.if-is_empty.false in
          let rs = records_of c.args.paths.now c.args.rows.now in
          let front = c.args.prefix.now ++ [] in
          let rising = rising_prefixes front rs o in
          let p = c.part-low.ensures.parts rising in
          range_between c.args.prefix.now rs (λ z. grind (arith, nat_tests, e, f, z)) c.part-low.result.0
          c.part_within-high.result.0 p (c.part_within-high.ensures.parts rising
          (parted_around (prefix_answers front rs) c.part-low.result.0 c.len.result p c.len.ensures))
          c.if-low-high.true;
      empty = search rules;
    }

pub returns-else-low-high-clause-prefixed : goal.returns-else-low-high-clause-prefixed
returns-else-low-high-clause-prefixed c =
    record {
      exactly = λ o. let e = c.is_empty.ensures in let f = c.if-is_empty.false in
          let rs = records_of c.args.paths.now c.args.rows.now in
          let front = c.args.prefix.now ++ [] in
          let rising = rising_prefixes front rs o in
          let p = c.part-low.ensures.parts rising in
          no_range c.args.prefix.now rs (λ z. grind (arith, nat_tests, e, f, z)) c.part-low.result.0
          c.part_within-high.result.0 p (c.part_within-high.ensures.parts rising
          (parted_around (prefix_answers front rs) c.part-low.result.0 c.len.result p c.len.ensures))
          (omega (arith, c.if-low-high.false));
      empty = search rules;
    }
