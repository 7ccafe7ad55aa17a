use Rattle.std.proofs.Common.{◌≡◌, ◌++◌, false, take}
use Rattle.gix_index.specs.Edits.{refit}
use Rattle.gix_index.specs.EntryImage.{written}
use Rattle.gix_index.specs.State.{PathsInStorage, contents, records}
use Rattle.capi_table.specs.Table.{records_of}
use Rattle.capi_table.proofs.spell.push_rows.Given as goal

abbrev pub invariant-loop-row : goal.invariant-loop-row
invariant-loop-row l = record {
  records_are : PathsInStorage l.fn.state → records l.state ≡ records l.fn.state
      ++ written (records_of l.paths (take l.row-index l.rows));
  others : PathsInStorage l.fn.state → contents l.state
      ≡ refit (contents l.fn.state) (records l.state) (contents l.state).fit;
  unfit : (contents l.fn.state).fit ≡ false → (contents l.state).fit ≡ false;
  placed : PathsInStorage l.fn.state → PathsInStorage l.state;
}
