use Rattle.std.proofs.Common.{ap, ◌∙◌, ℕ}
use Rattle.std.specs.Int.{w32, rotate_left}
use Rattle.base_sha.proofs.Lanes.{mixed_lanes}
use Rattle.base_sha.proofs.schedule.next_words.Goals as goal

pub returns : goal.returns
returns c = λ j lt.
    c.rotate_words_left.ensures j lt
    ∙ ap (λ (x : ℕ). rotate_left w32 x 1) (mixed_lanes c.args.a c.args.b c.args.c c.args.d c.fits-a.0 c.fits-b.0 c.fits-c.0 c.fits-d.0 j lt)
