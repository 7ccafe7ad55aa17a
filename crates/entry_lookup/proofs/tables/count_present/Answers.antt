use Rattle.std.proofs.Common.{true, false, arith, sym, ◌∙◌}
use Rattle.entry_lookup.proofs.PresentCount.{told_present, present_more}
use Rattle.entry_lookup.proofs.tables.count_present.Goals as goal
use Rattle.entry_lookup.proofs.tables.count_present.Goals.{then-is_ok, else-is_ok}

pub loop-path-preserved : goal.loop-path-preserved
loop-path-preserved g c =
    let rs = g.S.PathSearch.list c.args.searcher.now in
    let told =
    λ (o : _). told_present _ rs c.search_path.result.0 c.search_path.ensures.place.found
    c.search_path.ensures.place.absent o
    ∙ sym c.is_ok.ensures.value in
    elim c.if-is_ok.branch [
      | then-is_ok w ↦ record {
        in_range = omega (arith, w.count-is);
        counted = λ o. w.count-is ∙ present_more c.args.paths.now rs c.loop-path.path-index _ true c.loop-path.count
            c.loop-path-test.true (told o ∙ w.if-is_ok.true) (c.loop-path.invariant.counted o);
      }
      | else-is_ok w ↦ record {
        in_range = omega (arith, w.count-is);
        counted = λ o. w.count-is ∙ omega (
          arith,
          present_more c.args.paths.now rs c.loop-path.path-index _ false
              c.loop-path.count c.loop-path-test.true (told o ∙ w.if-is_ok.false) (c.loop-path.invariant.counted o),
        );
      }
    ]
