use Rattle.std.proofs.Common.{◌≡◌, map, take}
use Rattle.entry_info.specs.Text.{change_value, line_value}
use Rattle.entry_info.proofs.read.changes.Given as goal

-- the changes so far are those of the lines so far
abbrev pub invariant-loop-line : goal.invariant-loop-line
invariant-loop-line l = record { so_far : map change_value l.changes.items ≡ map line_value (take l.line-index l.lines) }
