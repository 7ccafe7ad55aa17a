use Rattle.std.proofs.Common.{◌<◌, arith, length}
use Rattle.gix_index.specs.State.{entries_of, storage_of}
use Rattle.capi_table.proofs.SameRows.{same_more, spells_at, stay_more}
use Rattle.capi_table.proofs.same.are_entries_of.Goals as goal

pub returns-then-not-is_row_of : goal.returns-then-not-is_row_of
returns-then-not-is_row_of c = (
  λ t. absurd cc,
  λ all.
      let inside : c.loop-place.place < length c.entries-entries.result.now =
      omega (arith, c.loop-place-test.true, c.if-rows-entries.false) in
      let within : c.loop-place.place < length (entries_of c.args.state.now) = rw c.entries-entries.ensures at inside in
      let test = rw (c.entries-entries.ensures, c.path_backing-storage.ensures) at c.is_row_of.ensures.1 in
      let found = test (spells_at c.args.paths.now c.args.rows.now (storage_of c.args.state.now)
      (entries_of c.args.state.now) c.loop-place.place _ _ c.loop-place-test.true within all) in
      rw c.if-not-is_row_of.true at found,
)

pub loop-place-preserved : goal.loop-place-preserved
loop-place-preserved c =
    let inside : c.loop-place.place < length c.entries-entries.result.now =
    omega (arith, c.loop-place-test.true, c.if-rows-entries.false) in
    let within : c.loop-place.place < length (entries_of c.args.state.now) = rw c.entries-entries.ensures at inside in
    let test = rw (c.entries-entries.ensures, c.path_backing-storage.ensures) at c.is_row_of.ensures.0 in
    let spells = test c.if-not-is_row_of.false in
    record {
      stay = stay_more c.args.paths.now c.args.rows.now c.loop-place.place _ c.loop-place-test.true spells.stays
          c.loop-place.invariant.stay;
      same = same_more c.args.paths.now c.args.rows.now (storage_of c.args.state.now) (entries_of c.args.state.now)
          c.loop-place.place _ _ c.loop-place-test.true within spells c.loop-place.invariant.same;
    }
