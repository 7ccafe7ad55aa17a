use Rattle.std.proofs.Common.{slice_index}
use Rattle.base_sha.proofs.Functions.{ch_by_xor}
use Rattle.base_sha.proofs.rounds.choose.Goals as goal

pub returns : goal.returns
returns c = λ k w made.
    rw (ch_by_xor (slice_index c.args.v.now 1) (slice_index c.args.v.now 2) (slice_index c.args.v.now 3) (c.fits-v 1) (c.fits-v 2) (c.fits-v 3))
    at (c.round.ensures k w made)
