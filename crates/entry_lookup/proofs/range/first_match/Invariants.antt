use Rattle.std.proofs.Common.{◌≡◌, false}
use Rattle.std.specs.List.{AllWithin}
use Rattle.entry_lookup.specs.RangeSteps.{is_wanted_at}
use Rattle.entry_lookup.proofs.range.first_match.Given as goal

abbrev pub invariant-loop-place : goal.invariant-loop-place
invariant-loop-place l = AllWithin (λ r. is_wanted_at l.path l.wanted r ≡ false) l.entries l.low l.place
