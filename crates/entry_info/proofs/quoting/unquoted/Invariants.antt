use Rattle.std.proofs.Common.{◌≡◌, ◌≤◌, ◌++◌, ℕ, length}
use Rattle.std.specs.Prelude.{option_map}
use Rattle.entry_info.specs.Quoting.{unquoted, unquoted_in}
use Rattle.entry_info.proofs.quoting.unquoted.Given as goal

-- the rest is the remaining part of the complete path, after the bytes that were read
abbrev pub invariant-loop-byte : goal.invariant-loop-byte
invariant-loop-byte l = record {
  room : ℕ;
  fits : length l.rest ≤ room;
  comes : option_map (λ path. l.path.items ++ path) (unquoted_in room l.rest) ≡ unquoted l.text;
}

abbrev pub decreases-loop-byte : goal.decreases-loop-byte
decreases-loop-byte l = length l.rest
