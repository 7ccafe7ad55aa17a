use Rattle.std.proofs.Common.{rules, map, sym}
use Rattle.ext_untracked.specs.Blocks.{directory_value}
use Rattle.ext_untracked.proofs.Marking.{each_none, check_step}
use Rattle.ext_untracked.proofs.bitmaps.check_each.Goals as goal

pub loop-place-init : goal.loop-place-init
loop-place-init c =
    record { same = sym (each_none 0 (map directory_value c.args.directories.now.items)); len = search rules }

pub loop-place-preserved : goal.loop-place-preserved
loop-place-preserved c = record {
  same = check_step c.args.places.now c.loop-place.place-index (map directory_value c.args.directories.now.items)
      (map directory_value c.loop-place.directories.items) _ c.loop-place-test.true c.loop-place.invariant.same
      c.set_check_only.ensures.value;
  len = search rules;
}
