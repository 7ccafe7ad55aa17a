use Rattle.std.proofs.Common.{◌+◌, ◌*◌, ◌≡◌, length}
use Rattle.ext_bitmap.specs.UnpackingSteps.{items_left}
use Rattle.ext_bitmap.proofs.ewah.iter.PositionsIterator.next.Given as goal

abbrev pub invariant-loop-self : goal.invariant-loop-self
invariant-loop-self l = items_left l.self ≡ items_left l.initial.self

abbrev pub decreases-loop-self : goal.decreases-loop-self
decreases-loop-self l = 65 * length l.self.words.now + l.self.bits
