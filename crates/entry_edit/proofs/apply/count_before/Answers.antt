use Rattle.std.proofs.Common.{ℕ, List, [], ◌++◌, All, arith, drop, subst}
use Rattle.std.proofs.lemmas.List.{append-nil}
use Rattle.entry_lookup.proofs.RunsFound.{rising_prefixes}
use Rattle.entry_edit.specs.EditSteps.{IsBeyond}
use Rattle.entry_edit.proofs.Passes.{beyond_parted}
use Rattle.entry_edit.proofs.apply.count_before.Goals as goal

pub returns-clause-beyond : goal.returns-clause-beyond
returns-clause-beyond c = λ o.
    let path = c.args.path.now in
    let rs = c.args.rest.now in
    let P : List ℕ → Type 0 = λ p. All (IsBeyond p) (drop c.end_from.result rs) in
    subst P (append-nil path)
    (beyond_parted (path ++ []) rs c.end_from.result
    (c.end_from.ensures.parts (rising_prefixes (path ++ []) rs o) (λ k d low high. absurd (omega arith))))
