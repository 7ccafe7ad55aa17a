use Rattle.std.proofs.Common.{◌∙◌, refl, slice_index}
use Rattle.base_sha.proofs.Lanes256.{length_zipped, turned_by, turned_lanes}
use Rattle.base_sha.proofs.sha256.schedule.rotate_words_right.Goals as goal

pub returns-clause-lanes : goal.returns-clause-lanes
returns-clause-lanes c = λ j lt.
    turned_lanes c.args.bits c.args.words c.fits-words.0 j lt ∙ turned_by (slice_index c.args.words j) c.args.bits c.requires.low c.requires.high

pub returns-clause-len : goal.returns-clause-len
returns-clause-len c = length_zipped _ _ _ (length_zipped _ _ _ c.fits-words.0 refl) (length_zipped _ _ _ c.fits-words.0 refl)
