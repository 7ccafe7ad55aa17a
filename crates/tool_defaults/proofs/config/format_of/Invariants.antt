use Rattle.std.proofs.Common.{◌≡◌, ◌==◌, length, drop}
use Rattle.std.specs.List.{slice_split}
use Rattle.std.specs.Str.{byte}
use Rattle.tool_defaults.specs.Config.{format_of}
use Rattle.tool_defaults.proofs.Formats.{left}
use Rattle.tool_defaults.proofs.config.format_of.Given as goal

-- the lines from here on come to the kind that all come to
abbrev pub invariant-loop-line : goal.invariant-loop-line
invariant-loop-line l = record {
  comes : left l.kind l.in_extensions (drop (length l.yielded) (slice_split (λ b. b == byte "\n") l.text))
      ≡ format_of l.text;
}
