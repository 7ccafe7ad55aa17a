use Rattle.std.proofs.Common.{◌≡◌, ◌<◌, length, arith}
use Rattle.capi_table.proofs.CopiedTables.{copied, more, next_fits}
use Rattle.capi_table.proofs.filling.fill.Goals as goal

pub put_path-requires-clause-room : goal.put_path-requires-clause-room
put_path-requires-clause-room c =
    let fits = next_fits c.args.entries.now c.args.storage.now c.args.rows.now c.args.paths.now c.loop-place.place
    c.loop-place.start c.loop-place.rows c.loop-place.paths c.loop-place.invariant _ c.path_in-path.result.now
    c.loop-place-test.true c.path_in-path.ensures c.requires.paths_fit in
    omega (arith, fits, c.loop-place.auto.paths)

pub loop-place-preserved : goal.loop-place-preserved
loop-place-preserved c =
    let fit : c.loop-place.place < length c.loop-place.rows =
    omega (arith, c.loop-place-test.true, c.requires.rows_fit, c.loop-place.auto.rows) in
    more c.args.entries.now c.args.storage.now c.args.rows.now c.args.paths.now c.loop-place.place c.loop-place.start
    c.loop-place.rows c.loop-place.paths c.loop-place.invariant _ c.path_in-path.result.now c.put_path.new.paths
    c.row_from.result c.loop-place-test.true fit c.path_in-path.ensures c.row_from.ensures c.put_path.ensures

pub returns : goal.returns
returns c =
    let counted : c.loop-place.place ≡ length c.args.entries.now =
    omega (arith, c.loop-place-test.false, c.loop-place.auto.place-end) in
    copied c.args.entries.now c.args.storage.now c.args.rows.now c.args.paths.now c.loop-place.place c.loop-place.start
    c.loop-place.rows c.loop-place.paths c.loop-place.invariant counted c.requires.rows_fit c.requires.paths_fit
    c.requires.sized
