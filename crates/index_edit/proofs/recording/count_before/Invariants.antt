use Rattle.std.proofs.Common.{◌≡◌, ◌≤◌, ◌-◌, true, All, length, take}
use Rattle.std.specs.Ordering.{is_lt}
use Rattle.entry_list.specs.Order.{path_cmp}
use Rattle.ext_small.specs.ResolveUndo.{path_stages}
use Rattle.index_edit.proofs.recording.count_before.Given as goal

-- the paths so far are before this one
abbrev pub invariant-loop-place : goal.invariant-loop-place
invariant-loop-place l = record {
  inside : l.place ≤ length l.paths;
  before : All (λ p. is_lt (path_cmp (path_stages p).name l.path) ≡ true) (take l.place l.paths);
}

abbrev pub decreases-loop-place : goal.decreases-loop-place
decreases-loop-place l = length l.paths - l.place
