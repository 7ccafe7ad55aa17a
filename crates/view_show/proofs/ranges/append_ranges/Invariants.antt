use Rattle.std.proofs.Common.{◌≡◌, ◌++◌, take}
use Rattle.std.specs.List.{flat_map}
use Rattle.view_show.specs.Fields.{range_text}
use Rattle.view_show.proofs.ranges.append_ranges.Given as goal

-- the ranges before this one have their text
abbrev pub invariant-loop-range : goal.invariant-loop-range
invariant-loop-range l = l.lines.items ≡ l.initial.lines.items ++ flat_map range_text (take l.range-index l.ranges)
