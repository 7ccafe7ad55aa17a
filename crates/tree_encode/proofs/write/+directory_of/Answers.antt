use Rattle.std.proofs.Common.{◌≡◌, ◌<◌, List, [], sym, ap, subst, arith}
use Rattle.std.specs.Prelude.{slice_range}
use Rattle.tree_encode.specs.Staged.{Staged}
use Rattle.tree_encode.specs.WritingSteps.{IsBegunDirectory, staged_below}
use Rattle.tree_encode.proofs.Begun.{begun_none}
use Rattle.tree_encode.proofs.Complete.{on_err}
use Rattle.tree_encode.proofs.RunEnds.{fall_behind, goes_staged, stops_staged}
use Rattle.tree_encode.proofs.Ranges.{range_none}
use Rattle.tree_encode.proofs.Ready.{ahead_none}
use Rattle.tree_encode.proofs.Steps.{a_level, begun_more, begun_over, begun_skip, count_fits}
use Rattle.tree_encode.proofs.Steps.{counts_fit, ended_behind, ended_here, ended_inside, ready_inner}
use Rattle.tree_encode.proofs.write.+directory_of.Goals as goal

pub loop-at-init : goal.loop-at-init
loop-at-init g t c =
    let rs = c.args.entries.now in
    let left = staged_below c.args.run.prefix_len (slice_range rs c.args.run.start c.args.run.end) in
    let nothing : staged_below c.args.run.prefix_len (slice_range rs c.args.run.start c.args.run.start) ≡ [] =
    ap (staged_below c.args.run.prefix_len) (range_none rs c.args.run.start) in
    record {
      low = omega arith;
      high = c.requires.order;
      begun = subst (λ (l : List Staged). IsBegunDirectory c.args.kind l left c.new-made.result
          (g.S.Sink.stored c.args.sink.now) (g.S.Sink.stored c.args.sink.now)) (sym nothing)
          (begun_none c.args.kind left c.new-made.result (g.S.Sink.stored c.args.sink.now) c.new-made.ensures.bytes
          c.new-made.ensures.children c.new-made.ensures.count c.new-made.ensures.later
          (ahead_none c.args.kind c.args.levels left c.requires.ready));
    }

pub loop-at-preserved-in_default : goal.loop-at-preserved-in_default
loop-at-preserved-in_default g t c =
    let rs = c.args.entries.now in
    let kind = c.args.kind in
    let prefix_len = c.args.run.prefix_len in
    let at = c.loop-at.at in
    let old = g.S.Sink.stored c.args.sink.now in
    let new = g.S.Sink.stored c.loop-at.sink in
    let m = c.loop-at.made in
    let inv = c.loop-at.invariant in
    let lt : at < c.args.run.end = c.loop-at-test.true in
    record {
      low = omega (arith, inv.low);
      high = omega (arith, lt);
      begun = begun_skip rs kind prefix_len c.args.run.start at c.args.run.end c.args.levels old new m inv.low lt
          c.requires.within c.requires.ready inv.begun c.leaf_at.result c.leaf_at.ensures c.in_default.is;
    }

pub overflow_sub-levels : goal.overflow_sub-levels
overflow_sub-levels g t c =
    let rs = c.args.entries.now in
    let kind = c.args.kind in
    let prefix_len = c.args.run.prefix_len in
    let at = c.loop-at.at in
    let old = g.S.Sink.stored c.args.sink.now in
    let new = g.S.Sink.stored c.loop-at.sink in
    let m = c.loop-at.made in
    let inv = c.loop-at.invariant in
    let lt : at < c.args.run.end = c.loop-at-test.true in
    (a_level rs kind prefix_len c.args.run.start at c.args.run.end c.args.levels old new m inv.low lt c.requires.within
    c.requires.ready inv.begun c.leaf_at.result c.leaf_at.ensures c.in-Some.leaf c.in-Some.is
    c.tail_of-tail.result.now c.component_of-component.result.name.now c.component_of-component.result.shown.now
    c.tail_of-tail.ensures c.component_of-component.ensures c.if-shown-tail.true c.end_of-stop.result
    c.end_of-stop.ensures.more c.end_of-stop.ensures.within (goes_staged prefix_len c.component_of-component.result.shown.now rs at c.end_of-stop.result
    (omega (arith, c.end_of-stop.ensures.within, c.requires.within)) c.end_of-stop.ensures.run)).1

pub directory_of-requires : goal.directory_of-requires
directory_of-requires g t c = λ κs sub.
    let rs = c.args.entries.now in
    let kind = c.args.kind in
    let prefix_len = c.args.run.prefix_len in
    let at = c.loop-at.at in
    let old = g.S.Sink.stored c.args.sink.now in
    let new = g.S.Sink.stored c.loop-at.sink in
    let m = c.loop-at.made in
    let inv = c.loop-at.invariant in
    let lt : at < c.args.run.end = c.loop-at-test.true in
    let level = (a_level rs kind prefix_len c.args.run.start at c.args.run.end c.args.levels old new m inv.low lt
    c.requires.within c.requires.ready inv.begun c.leaf_at.result c.leaf_at.ensures c.in-Some.leaf c.in-Some.is
    c.tail_of-tail.result.now c.component_of-component.result.name.now c.component_of-component.result.shown.now
    c.tail_of-tail.ensures c.component_of-component.ensures c.if-shown-tail.true c.end_of-stop.result
    c.end_of-stop.ensures.more c.end_of-stop.ensures.within (goes_staged prefix_len c.component_of-component.result.shown.now rs at c.end_of-stop.result
    (omega (arith, c.end_of-stop.ensures.within, c.requires.within)) c.end_of-stop.ensures.run)).1 in (
      omega (arith, c.decreases, level),
      (
        sub,
        (
          omega (arith, c.end_of-stop.ensures.more),
          (
            omega (arith, c.end_of-stop.ensures.within, c.requires.within),
            (
              c.requires.few,
              (
                fall_behind prefix_len c.component_of-component.result.shown.now rs c.args.run.start c.args.run.end at
                    c.end_of-stop.result c.requires.in_order inv.low c.end_of-stop.ensures.within
                    c.end_of-stop.ensures.run,
                ready_inner rs kind prefix_len c.args.run.start at c.args.run.end c.args.levels old new m inv.low lt
                    c.requires.within c.requires.ready inv.begun c.leaf_at.result c.leaf_at.ensures c.in-Some.leaf
                    c.in-Some.is
                    c.tail_of-tail.result.now c.component_of-component.result.name.now
                    c.component_of-component.result.shown.now
                    c.tail_of-tail.ensures c.component_of-component.ensures c.if-shown-tail.true c.end_of-stop.result
                    c.end_of-stop.ensures.more c.end_of-stop.ensures.within (goes_staged prefix_len c.component_of-component.result.shown.now rs at c.end_of-stop.result
                    (omega (arith, c.end_of-stop.ensures.within, c.requires.within)) c.end_of-stop.ensures.run),
              ),
            ),
          ),
        ),
      ),
    )

pub push_directory-requires : goal.push_directory-requires
push_directory-requires g t c =
    let rs = c.args.entries.now in
    let kind = c.args.kind in
    let prefix_len = c.args.run.prefix_len in
    let at = c.loop-at.at in
    let old = g.S.Sink.stored c.args.sink.now in
    let new = g.S.Sink.stored c.loop-at.sink in
    let m = c.loop-at.made in
    let inv = c.loop-at.invariant in
    let lt : at < c.args.run.end = c.loop-at-test.true in
    counts_fit rs kind prefix_len c.args.run.start at c.args.run.end c.args.levels old new m inv.low lt
    c.requires.within c.requires.ready inv.begun c.leaf_at.result c.leaf_at.ensures c.in-Some.leaf c.in-Some.is
    c.tail_of-tail.result.now c.component_of-component.result.name.now c.component_of-component.result.shown.now
    c.tail_of-tail.ensures c.component_of-component.ensures c.if-shown-tail.true c.end_of-stop.result
    c.end_of-stop.ensures.more c.end_of-stop.ensures.within (goes_staged prefix_len c.component_of-component.result.shown.now rs at c.end_of-stop.result
    (omega (arith, c.end_of-stop.ensures.within, c.requires.within)) c.end_of-stop.ensures.run) c.requires.few
    c.in_ok-inner.inner (g.S.Sink.stored c.directory_of.new.sink) c.in_ok-inner.ensures.made

pub loop-at-preserved-then-shown-tail : goal.loop-at-preserved-then-shown-tail
loop-at-preserved-then-shown-tail g t c =
    let rs = c.args.entries.now in
    let kind = c.args.kind in
    let prefix_len = c.args.run.prefix_len in
    let at = c.loop-at.at in
    let old = g.S.Sink.stored c.args.sink.now in
    let new = g.S.Sink.stored c.loop-at.sink in
    let m = c.loop-at.made in
    let inv = c.loop-at.invariant in
    let lt : at < c.args.run.end = c.loop-at-test.true in
    let done = c.in_ok-push_directory.ensures in
    record {
      low = omega (arith, inv.low, c.end_of-stop.ensures.more);
      high = c.end_of-stop.ensures.within;
      begun = begun_over rs kind prefix_len c.args.run.start at c.args.run.end c.args.levels old new m inv.low lt
          c.requires.within c.requires.ready inv.begun c.leaf_at.result c.leaf_at.ensures c.in-Some.leaf c.in-Some.is
          c.tail_of-tail.result.now c.component_of-component.result.name.now c.component_of-component.result.shown.now
          c.tail_of-tail.ensures c.component_of-component.ensures c.if-shown-tail.true c.end_of-stop.result
          c.end_of-stop.ensures.more c.end_of-stop.ensures.within (goes_staged prefix_len c.component_of-component.result.shown.now rs at c.end_of-stop.result
          (omega (arith, c.end_of-stop.ensures.within, c.requires.within)) c.end_of-stop.ensures.run) (stops_staged prefix_len c.component_of-component.result.shown.now rs c.end_of-stop.result c.args.run.end
          c.requires.within c.end_of-stop.ensures.stops)
          c.in_ok-inner.inner c.push_directory.new.self (g.S.Sink.stored c.directory_of.new.sink)
          (g.S.Sink.stored c.push_directory.new.sink)
          c.in_ok-inner.ensures.made done.bytes done.children done.count done.later done.stored;
    }

pub push_leaf-requires : goal.push_leaf-requires
push_leaf-requires g t c =
    let rs = c.args.entries.now in
    let kind = c.args.kind in
    let prefix_len = c.args.run.prefix_len in
    let at = c.loop-at.at in
    let old = g.S.Sink.stored c.args.sink.now in
    let new = g.S.Sink.stored c.loop-at.sink in
    let m = c.loop-at.made in
    let inv = c.loop-at.invariant in
    let lt : at < c.args.run.end = c.loop-at-test.true in
    count_fits rs kind prefix_len c.args.run.start at c.args.run.end c.args.levels old new m inv.low lt
    c.requires.within c.requires.ready inv.begun c.leaf_at.result c.leaf_at.ensures c.requires.few

pub loop-at-preserved : goal.loop-at-preserved
loop-at-preserved g t c =
    let rs = c.args.entries.now in
    let kind = c.args.kind in
    let prefix_len = c.args.run.prefix_len in
    let at = c.loop-at.at in
    let old = g.S.Sink.stored c.args.sink.now in
    let new = g.S.Sink.stored c.loop-at.sink in
    let m = c.loop-at.made in
    let inv = c.loop-at.invariant in
    let lt : at < c.args.run.end = c.loop-at-test.true in
    let done = c.in_ok-push_leaf.ensures in
    record {
      low = omega (arith, inv.low);
      high = omega (arith, lt);
      begun = begun_more rs kind prefix_len c.args.run.start at c.args.run.end c.args.levels old new m inv.low lt
          c.requires.within c.requires.ready inv.begun c.leaf_at.result c.leaf_at.ensures c.in-Some.leaf c.in-Some.is
          c.tail_of-tail.result.now c.component_of-component.result.name.now c.component_of-component.result.shown.now
          c.tail_of-tail.ensures c.component_of-component.ensures c.if-shown-tail.false c.push_leaf.new.self done.bytes
          done.children done.count done.later;
    }

pub returns-in_err-inner-clause-ended : goal.returns-in_err-inner-clause-ended
returns-in_err-inner-clause-ended g t c =
    let rs = c.args.entries.now in
    let kind = c.args.kind in
    let prefix_len = c.args.run.prefix_len in
    let at = c.loop-at.at in
    let old = g.S.Sink.stored c.args.sink.now in
    let new = g.S.Sink.stored c.loop-at.sink in
    let m = c.loop-at.made in
    let inv = c.loop-at.invariant in
    let lt : at < c.args.run.end = c.loop-at-test.true in
    on_err c.from_residual.result
    (ended_inside rs kind prefix_len c.args.run.start at c.args.run.end c.args.levels old new m inv.low lt c.requires.within
    c.requires.ready inv.begun c.leaf_at.result c.leaf_at.ensures c.in-Some.leaf c.in-Some.is
    c.tail_of-tail.result.now c.component_of-component.result.name.now c.component_of-component.result.shown.now
    c.tail_of-tail.ensures c.component_of-component.ensures c.if-shown-tail.true c.end_of-stop.result
    c.end_of-stop.ensures.more c.end_of-stop.ensures.within
    (goes_staged prefix_len c.component_of-component.result.shown.now rs at c.end_of-stop.result
    (omega (arith, c.end_of-stop.ensures.within, c.requires.within)) c.end_of-stop.ensures.run)
    (stops_staged prefix_len c.component_of-component.result.shown.now rs c.end_of-stop.result c.args.run.end
    c.requires.within c.end_of-stop.ensures.stops)
    (g.S.Sink.stored c.directory_of.new.sink) c.in_err-inner.ensures.ended)

pub returns-in_err-push_directory-clause-ended : goal.returns-in_err-push_directory-clause-ended
returns-in_err-push_directory-clause-ended g t c =
    let rs = c.args.entries.now in
    let kind = c.args.kind in
    let prefix_len = c.args.run.prefix_len in
    let at = c.loop-at.at in
    let old = g.S.Sink.stored c.args.sink.now in
    let new = g.S.Sink.stored c.loop-at.sink in
    let m = c.loop-at.made in
    let inv = c.loop-at.invariant in
    let lt : at < c.args.run.end = c.loop-at-test.true in
    on_err c.from_residual-in_err-push_directory.result
    (ended_behind rs kind prefix_len c.args.run.start at c.args.run.end c.args.levels old new m inv.low lt c.requires.within
    c.requires.ready inv.begun c.leaf_at.result c.leaf_at.ensures c.in-Some.leaf c.in-Some.is
    c.tail_of-tail.result.now c.component_of-component.result.name.now c.component_of-component.result.shown.now
    c.tail_of-tail.ensures c.component_of-component.ensures c.if-shown-tail.true c.end_of-stop.result
    c.end_of-stop.ensures.more c.end_of-stop.ensures.within
    (goes_staged prefix_len c.component_of-component.result.shown.now rs at c.end_of-stop.result
    (omega (arith, c.end_of-stop.ensures.within, c.requires.within)) c.end_of-stop.ensures.run)
    (stops_staged prefix_len c.component_of-component.result.shown.now rs c.end_of-stop.result c.args.run.end
    c.requires.within c.end_of-stop.ensures.stops)
    c.in_ok-inner.inner (g.S.Sink.stored c.directory_of.new.sink) (g.S.Sink.stored c.push_directory.new.sink)
    c.in_ok-inner.ensures.made c.in_err-push_directory.ensures.ended)

pub returns-in_err-push_leaf-clause-ended : goal.returns-in_err-push_leaf-clause-ended
returns-in_err-push_leaf-clause-ended g t c =
    let rs = c.args.entries.now in
    let kind = c.args.kind in
    let prefix_len = c.args.run.prefix_len in
    let at = c.loop-at.at in
    let old = g.S.Sink.stored c.args.sink.now in
    let new = g.S.Sink.stored c.loop-at.sink in
    let m = c.loop-at.made in
    let inv = c.loop-at.invariant in
    let lt : at < c.args.run.end = c.loop-at-test.true in
    on_err c.from_residual-in_err-push_leaf.result
    (ended_here rs kind prefix_len c.args.run.start at c.args.run.end c.args.levels old new m inv.low lt
    c.requires.within c.requires.ready inv.begun c.leaf_at.result c.leaf_at.ensures)
