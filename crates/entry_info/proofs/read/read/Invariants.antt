use Rattle.std.proofs.Common.{◌≡◌, length, map}
use Rattle.entry_info.specs.Text.{end_of, line_value, lines_of, said}
use Rattle.entry_info.proofs.Lines.{left}
use Rattle.entry_info.proofs.read.read.Given as goal

-- the changes that were read and those of the lines from here on are the changes of all lines
abbrev pub invariant-loop-rest : goal.invariant-loop-rest
invariant-loop-rest l = record {
  comes : left l.nul l.kind (map line_value l.lines.items) (lines_of (end_of l.nul) l.rest) ≡ said l.nul l.kind l.text;
}

abbrev pub decreases-loop-rest : goal.decreases-loop-rest
decreases-loop-rest l = length l.rest
