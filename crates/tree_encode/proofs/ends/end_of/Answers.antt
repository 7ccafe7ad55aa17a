use Rattle.tree_encode.proofs.RunEnds.{one_before, rising, run_goes, run_stops}
use Rattle.tree_encode.proofs.ends.end_of.Goals as goal

pub returns-clause-run : goal.returns-clause-run
returns-clause-run c =
    let r = c.requires in
    let front = c.args.prefix_len in
    let shown = c.args.shown.now in
    let rs = c.args.entries.now in
    let part = c.end_from.ensures.parts
    (rising front shown rs c.args.start c.args.end r.some r.within r.first r.in_order)
    (one_before front shown rs c.args.start c.args.end r.some r.within r.first r.in_order) in
    run_goes front shown rs c.args.start c.args.end r.some r.within r.first r.in_order c.end_from.result part

pub returns-clause-stops : goal.returns-clause-stops
returns-clause-stops c =
    let r = c.requires in
    let front = c.args.prefix_len in
    let shown = c.args.shown.now in
    let rs = c.args.entries.now in
    let part = c.end_from.ensures.parts
    (rising front shown rs c.args.start c.args.end r.some r.within r.first r.in_order)
    (one_before front shown rs c.args.start c.args.end r.some r.within r.first r.in_order) in
    run_stops front shown rs c.args.start c.args.end r.some r.within r.first r.in_order c.end_from.result part
