use Rattle.std.proofs.Common.{Bool, ap, sym, ◌∙◌}
use Rattle.entry_lookup.specs.Folded.{folded}
use Rattle.entry_lookup.specs.NameSteps.{common_cmp}
use Rattle.entry_lookup.proofs.Fronts.{front_of_both}
use Rattle.entry_lookup.proofs.names.compare_starts.Goals as goal

pub returns : goal.returns
returns c =
    let a = c.args.a.now in
    let b = c.args.b.now in
    c.cmp.ensures ∙ front_of_both c.min-len.result a b c.min-len.ensures
    ∙ ap (λ (i : Bool). common_cmp (folded i a) (folded i b)) (sym c.if-ignore_case.false)
