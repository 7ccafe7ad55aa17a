use Rattle.std.proofs.Common.{◌≤◌, All, drop, length}
use Rattle.tree_encode.specs.Refusals.{HasPathPrefix}
use Rattle.tree_encode.proofs.apart.beginnings_of.Given as goal

-- The path begins with none of the leaves after these.
abbrev pub invariant-loop-count : goal.invariant-loop-count
invariant-loop-count l = record {
  within : l.count ≤ length l.files;
  taken : All (λ f. HasPathPrefix l.path f.path.now → ⊥) (drop l.count l.files);
}

abbrev pub decreases-loop-count : goal.decreases-loop-count
decreases-loop-count l = l.count
