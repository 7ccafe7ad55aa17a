use Rattle.std.proofs.Common.{◌≡◌, drop, true}
use Rattle.entry_lookup.specs.Folded.{folded}
use Rattle.entry_lookup.specs.NameSteps.{common_cmp}
use Rattle.entry_lookup.proofs.fold.compare_bytes.Given as goal

abbrev pub invariant-loop-byte : goal.invariant-loop-byte
invariant-loop-byte l = common_cmp (folded true (drop l.byte-index l.a)) (folded true l.rest)
    ≡ common_cmp (folded true l.fn.a) (folded true l.fn.b)
