use Rattle.std.proofs.Common.{◌≡◌, drop}
use Rattle.ext_tree.specs.NodeSteps.{decimal_from, decimal_of}
use Rattle.ext_tree.proofs.decimal.decimal_of.Given as goal

abbrev pub invariant-loop-b : goal.invariant-loop-b
invariant-loop-b l = decimal_from l.value (drop l.b-index l.text) ≡ decimal_of l.text
