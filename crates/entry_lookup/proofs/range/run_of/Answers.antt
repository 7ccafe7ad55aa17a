use Rattle.std.proofs.Common.{arith}
use Rattle.base_search.proofs.Parting.{parted_before}
use Rattle.entry_lookup.proofs.RunsFound.{run_between, none_between}
use Rattle.entry_lookup.proofs.range.run_of.Goals as goal

pub returns-then-low-high : goal.returns-then-low-high
returns-then-low-high g c = record {
  in_range = (c.if-low-high.true, c.end_from-high.ensures.in_range);
  exactly = λ rising.
      let os = g.R.Ordered.answers c.args.places.now in
      let p = c.part-low.ensures.parts rising in
      let q = c.end_from-high.ensures.parts rising (parted_before os c.part-low.result.0 p) in
      (c.if-low-high.true, run_between os c.part-low.result.0 c.end_from-high.result p q c.if-low-high.true);
}

pub returns-else-low-high : goal.returns-else-low-high
returns-else-low-high g c = record {
  in_range = tt;
  exactly = λ rising.
      let os = g.R.Ordered.answers c.args.places.now in
      let p = c.part-low.ensures.parts rising in
      let q = c.end_from-high.ensures.parts rising (parted_before os c.part-low.result.0 p) in
      none_between os c.part-low.result.0 c.end_from-high.result p q (omega (arith, c.if-low-high.false));
}
