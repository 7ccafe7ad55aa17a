use Rattle.std.proofs.Common.{arith, refl}
use Rattle.base_sha.proofs.Functions256.{rotated_within}
use Rattle.base_sha.proofs.sha256.rounds.big_sigma1.Goals as goal

pub returns : goal.returns
returns c = rw (c.rotate_right-3.ensures, c.rotate_right-2.ensures, c.rotate_right.ensures)
    (rotated_within c.args.x 6 5 14 11 25 (omega arith) (omega arith) (omega arith) (omega arith) refl refl (omega arith))
