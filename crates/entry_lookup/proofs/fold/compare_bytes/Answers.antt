use Rattle.std.proofs.Common.{drop, sym, true, ◌∙◌}
use Rattle.entry_lookup.specs.Folded.{folded}
use Rattle.entry_lookup.proofs.Fronts.{front_folded_none}
use Rattle.entry_lookup.proofs.fold.compare_bytes.Goals as goal

pub returns-in_default : goal.returns-in_default
returns-in_default c = sym (front_folded_none (folded true (drop c.loop-byte.byte-index c.args.a.now))
    c.loop-byte.rest.now c.in_default.ensures.cases) ∙ c.loop-byte.invariant
