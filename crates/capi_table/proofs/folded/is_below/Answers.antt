use Rattle.capi_table.proofs.FoldedPaths.{goes_from, goes_to, same_truth}
use Rattle.capi_table.proofs.folded.is_below.Goals as goal

pub returns-then-has_slash_at : goal.returns-then-has_slash_at
returns-then-has_slash_at c =
    let h = c.has_slash_at.ensures.0 c.if-has_slash_at.true in
    same_truth c.eq_ignore_ascii_case.result _
    (λ t. goes_to c.args.path.now c.args.directory.now h.0 h.1 (c.eq_ignore_ascii_case.ensures.test.0 t))
    (λ t. c.eq_ignore_ascii_case.ensures.test.1 (goes_from c.args.path.now c.args.directory.now t).2)

pub returns-else-has_slash_at : goal.returns-else-has_slash_at
returns-else-has_slash_at c =
    same_truth c.has_slash_at.result _
    (λ t. absurd cc)
    (λ t. let h = goes_from c.args.path.now c.args.directory.now t in c.has_slash_at.ensures.1 (h.0, h.1))
