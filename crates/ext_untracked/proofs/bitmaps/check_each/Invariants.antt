use Rattle.std.proofs.Common.{◌≡◌, length, map, take, eqb}
use Rattle.std.specs.List.{list_any}
use Rattle.ext_untracked.specs.Blocks.{directory_value}
use Rattle.ext_untracked.specs.BitmapSteps.{checked, by_true, each}
use Rattle.ext_untracked.proofs.bitmaps.check_each.Given as goal

abbrev pub invariant-loop-place : goal.invariant-loop-place
invariant-loop-place l = record {
  same : map directory_value l.directories.items
      ≡ each (λ i. by_true checked (list_any (λ p. eqb p i) (take l.place-index l.places)))
      (map directory_value l.fn.directories.items);
  len : length l.directories.items ≡ length l.fn.directories.items;
}
