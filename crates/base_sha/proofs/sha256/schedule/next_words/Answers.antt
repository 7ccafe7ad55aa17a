use Rattle.std.proofs.Common.{◌∙◌, refl}
use Rattle.base_sha.proofs.Lanes256.{summed_lanes}
use Rattle.base_sha.proofs.sha256.schedule.next_words.Goals as goal

pub returns : goal.returns
returns c = λ j lt.
    summed_lanes c.small_sigma1.result c.args.b c.small_sigma0.result c.args.d c.small_sigma1.ensures.len c.fits-b.0 c.small_sigma0.ensures.len c.fits-d.0 j lt
    ∙ rw (c.small_sigma1.ensures.lanes j lt, c.small_sigma0.ensures.lanes j lt) refl
