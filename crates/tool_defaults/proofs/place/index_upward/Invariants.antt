use Rattle.std.proofs.Common.{◌≡◌, ◌-◌, ◌<◌, ◌≤◌, ℕ}
use Rattle.std.specs.String.{string_bytes}
use Rattle.tool_defaults.specs.Place.{MayBePassed, folder_above, git_above}
use Rattle.tool_defaults.proofs.place.index_upward.Given as goal

-- the folder that is looked at, and that none before it has a `.git`
abbrev pub invariant-loop-upward : goal.invariant-loop-upward
invariant-loop-upward g l = record {
  folder : string_bytes l.upward ≡ folder_above l.above;
  within : l.above ≤ l.depth;
  passed : (n : ℕ) → n < l.above → MayBePassed (g.D.Folder.known l.folder (git_above n));
}

abbrev pub decreases-loop-upward : goal.decreases-loop-upward
decreases-loop-upward g l = l.depth - l.above
