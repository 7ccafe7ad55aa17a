use Rattle.std.proofs.Common.{ℕ, refl}
use Rattle.std.specs.Int.{w32, rotate_right}
use Rattle.base_sha.proofs.Lanes256.{length_zipped, mixed_lanes}
use Rattle.base_sha.proofs.sha256.schedule.small_sigma0.Goals as goal

pub returns-clause-lanes : goal.returns-clause-lanes
returns-clause-lanes c =
    mixed_lanes (λ (x : ℕ). rotate_right w32 x 7) (λ (x : ℕ). rotate_right w32 x 18) 3 c.rotate_words_right.result c.rotate_words_right-2.result c.args.words
    c.rotate_words_right.ensures.len c.rotate_words_right-2.ensures.len c.fits-words.0
    c.rotate_words_right.ensures.lanes c.rotate_words_right-2.ensures.lanes

pub returns-clause-len : goal.returns-clause-len
returns-clause-len c =
    length_zipped _ _ _ (length_zipped _ _ _ c.rotate_words_right.ensures.len c.rotate_words_right-2.ensures.len) (length_zipped _ _ _ c.fits-words.0 refl)
