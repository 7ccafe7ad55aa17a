use Rattle.std.proofs.Common.{◌<◌, arith, length}
use Rattle.entry_list.specs.Record.{with_path}
use Rattle.entry_edit.proofs.Firsts.{gathered, passed_over}
use Rattle.entry_edit.proofs.others.gather.Goals as goal

pub loop-place-preserved : goal.loop-place-preserved
loop-place-preserved c =
    let storage = c.args.storage.now in
    let new = with_path c.args.path.now c.args.entry in
    let within : c.loop-place.place < length c.loop-place.entries =
    omega (arith, c.loop-place-test.true, c.loop-place.auto.entries, c.loop-place.auto.place-end) in
    elim c.if-not-is_other.branch [
      | goal.then-not-is_other w ↦ rw (w.entries-is, w.kept-is) (gathered storage new c.args.entries.now c.loop-place.entries
          c.loop-place.kept c.loop-place.place c.loop-place.invariant within _ c.path_in.result.now c.is_other.result
          c.is_other.ensures c.path_in.ensures _ w.if-not-is_other.true w.swap.ensures.by_index)
      | goal.else-not-is_other w ↦ rw (w.entries-is, w.kept-is) (passed_over storage new c.args.entries.now
          c.loop-place.entries c.loop-place.kept c.loop-place.place c.loop-place.invariant within _ c.path_in.result.now
          c.is_other.result c.is_other.ensures c.path_in.ensures w.if-not-is_other.false)
    ]
