use Rattle.std.proofs.Common.{◌≡◌, drop}
use Rattle.index_parts.specs.Octal.{octal_number}
use Rattle.index_parts.proofs.Octals.{octal_from}
use Rattle.index_parts.proofs.read.octal.Given as goal

abbrev pub invariant-loop-b : goal.invariant-loop-b
invariant-loop-b l = octal_from l.value (drop l.b-index l.text) ≡ octal_number l.text
