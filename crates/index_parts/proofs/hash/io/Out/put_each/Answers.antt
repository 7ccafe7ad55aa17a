use Rattle.index_parts.proofs.Taking.{prefix_at, breaks_at, on_err, Takes-err}
use Rattle.index_parts.proofs.hash.io.Out.put_each.Goals as goal

pub returns-in_err-put-clause-bytes : goal.returns-in_err-put-clause-bytes
returns-in_err-put-clause-bytes g c =
    Takes-err _ _ _ _ _ _ c.from_residual.ensures.0 (prefix_at (λ p. p.now) c.args.pieces.now c.loop-piece.piece-index _
    c.loop-piece-test.true c.loop-piece.invariant.so_far.grew c.in_err-put.ensures.bytes)

pub returns-in_err-put-clause-failure : goal.returns-in_err-put-clause-failure
returns-in_err-put-clause-failure g c = on_err _ (breaks_at (λ p. p.now) c.args.pieces.now c.loop-piece.piece-index _
    c.loop-piece-test.true c.loop-piece.invariant.so_far c.in_err-put.ensures.bytes c.in_err-put.ensures.unhashed)
