use Rattle.std.proofs.Common.{arith}
use Rattle.base_search.proofs.Parting.{parted_before}
use Rattle.entry_lookup.proofs.RunsFound.{run_between, none_between}
use Rattle.entry_edit.proofs.near_end.run_near_end.Goals as goal

pub returns-then-low-high-clause-exactly : goal.returns-then-low-high-clause-exactly
returns-then-low-high-clause-exactly g c = λ rising.
    let os = g.R.Ordered.answers c.args.places.now in
    let p = c.first_near_end-low.ensures.parts rising in
    let q = c.end_from-high.ensures.parts rising (parted_before os c.first_near_end-low.result p) in
    (c.if-low-high.true, run_between os c.first_near_end-low.result c.end_from-high.result p q c.if-low-high.true)

pub returns-else-low-high-clause-exactly : goal.returns-else-low-high-clause-exactly
returns-else-low-high-clause-exactly g c = λ rising.
    let os = g.R.Ordered.answers c.args.places.now in
    let p = c.first_near_end-low.ensures.parts rising in
    let q = c.end_from-high.ensures.parts rising (parted_before os c.first_near_end-low.result p) in
    none_between os c.first_near_end-low.result c.end_from-high.result p q (omega (arith, c.if-low-high.false))
