use Rattle.std.proofs.Common.{◌≡◌, ◌==◌, ◌+◌, ◌≤◌, ◌||◌, length, take}
use Rattle.std.specs.List.{suffix_len}
use Rattle.std.specs.Str.{byte}
use Rattle.tool_defaults.proofs.place.without_line_ends.Given as goal

-- all that was taken off is line ends
abbrev pub invariant-loop-len : goal.invariant-loop-len
invariant-loop-len l = record {
  within : l.len ≤ length l.text;
  ends : l.len + suffix_len (λ b. b == byte "\n" || b == byte "\r") l.text
      ≡ length l.text + suffix_len (λ b. b == byte "\n" || b == byte "\r") (take l.len l.text);
}

abbrev pub decreases-loop-len : goal.decreases-loop-len
decreases-loop-len l = l.len
