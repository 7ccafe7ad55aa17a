use Rattle.std.proofs.Common.{◌≡◌, ◌++◌, take}
use Rattle.view_json.specs.Json.{range_value}
use Rattle.view_json.specs.Values.{separated_values}
use Rattle.view_json.proofs.data.append_ranges.Given as goal

-- the ranges before this one have their values
abbrev pub invariant-loop-place : goal.invariant-loop-place
invariant-loop-place l = l.text.items ≡ l.initial.text.items ++ separated_values range_value (take l.place l.ranges)
