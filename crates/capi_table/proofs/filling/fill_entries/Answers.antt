use Rattle.std.proofs.Common.{◌≡◌, ◌+◌, ◌-◌, ◌≤◌, ◌<◌, length, sym, arith, set, refl, subst}
use Rattle.gix_index.specs.Reader.{LeftToRead}
use Rattle.capi_table.specs.Table.{row_from}
use Rattle.capi_table.specs.declared.row.Row.{Row}
use Rattle.capi_table.proofs.FilledTables.{Progress, begun, filled, more, next_fits, room_within, some_next}
use Rattle.capi_table.proofs.filling.fill_entries.Goals as goal

pub loop-place-init : goal.loop-place-init
loop-place-init c =
    let e = c.requires.entries in
    subst (λ (x : LeftToRead). Progress c.args.version c.args.kind c.args.count c.args.bytes.now c.args.rows.now
    c.args.paths.now x 0 0 0 c.args.rows.now c.args.paths.now) (sym c.new-reader.ensures)
    (begun c.args.version c.args.kind c.args.count c.args.bytes.now c.args.rows.now c.args.paths.now e.0 e.1 e.2 e.3 e.4
    e.5)

pub unreachable-requires : goal.unreachable-requires
unreachable-requires c =
    some_next c.args.version c.args.kind c.args.count c.args.bytes.now c.args.rows.now c.args.paths.now
    c.loop-place.reader c.loop-place.place c.loop-place.earlier c.loop-place.start c.loop-place.rows c.loop-place.paths
    c.next.new.self c.loop-place.invariant c.loop-place-test.true c.in_default.ensures.none

pub put_path-requires-clause-before : goal.put_path-requires-clause-before
put_path-requires-clause-before c =
    let within = room_within c.args.version c.args.kind c.args.count c.args.bytes.now c.args.rows.now c.args.paths.now
    c.loop-place.reader c.loop-place.place c.loop-place.earlier c.loop-place.start c.loop-place.rows c.loop-place.paths
    c.loop-place.invariant in
    omega (arith, within, c.in-Some.ensures.shared)

pub put_path-requires-clause-room : goal.put_path-requires-clause-room
put_path-requires-clause-room c =
    let fits = next_fits c.args.version c.args.kind c.args.count c.args.bytes.now c.args.rows.now c.args.paths.now
    c.loop-place.reader c.loop-place.place c.loop-place.earlier c.loop-place.start c.loop-place.rows c.loop-place.paths
    c.loop-place.invariant c.in-Some.lent c.next.new.self c.loop-place-test.true c.in-Some.ensures.shared
    c.in-Some.ensures.lent in
    omega (arith, fits, c.loop-place.auto.paths)

pub overflow_add-end-in-loop-place : goal.overflow_add-end-in-loop-place
overflow_add-end-in-loop-place c =
    let fits = next_fits c.args.version c.args.kind c.args.count c.args.bytes.now c.args.rows.now c.args.paths.now
    c.loop-place.reader c.loop-place.place c.loop-place.earlier c.loop-place.start c.loop-place.rows c.loop-place.paths
    c.loop-place.invariant c.in-Some.lent c.next.new.self c.loop-place-test.true c.in-Some.ensures.shared
    c.in-Some.ensures.lent in
    omega (arith, fits)

pub loop-place-preserved : goal.loop-place-preserved
loop-place-preserved c =
    let lent = c.in-Some.lent in
    let start = c.loop-place.start in
    let lt : c.loop-place.place < c.args.count = c.loop-place-test.true in
    let fit : c.args.count ≤ length c.args.rows.now = c.requires.rows_fit in
    let long : length c.loop-place.rows ≡ length c.args.rows.now = c.loop-place.auto.rows in
    let end = start + (lent.shared + length lent.path.now) in
    let row : row_from lent.entry start (end - start) ≡ c.row_from.result = sym c.row_from.ensures in
    let put = more c.args.version c.args.kind c.args.count c.args.bytes.now c.args.rows.now c.args.paths.now
    c.loop-place.reader c.loop-place.place c.loop-place.earlier start c.loop-place.rows c.loop-place.paths
    c.loop-place.invariant lent c.next.new.self c.put_path.new.paths end lt (omega arith) c.in-Some.ensures.shared
    c.in-Some.ensures.lent refl c.put_path.ensures in
    subst (λ (x : Row). Progress c.args.version c.args.kind c.args.count c.args.bytes.now c.args.rows.now
    c.args.paths.now c.next.new.self (c.loop-place.place + 1) start end
    (set c.loop-place.rows c.loop-place.place x) c.put_path.new.paths) row put

pub returns : goal.returns
returns c =
    let p = c.loop-place.invariant in
    let fit : c.args.count ≤ length c.args.rows.now = c.requires.rows_fit in
    let counted : c.loop-place.place + length p.left ≡ c.args.count = p.counted in
    filled c.args.version c.args.kind c.args.count c.args.bytes.now c.args.rows.now c.args.paths.now
    c.loop-place.reader c.loop-place.place c.loop-place.earlier c.loop-place.start c.loop-place.rows c.loop-place.paths p
    (omega (arith, c.loop-place-test.false)) (omega arith)
