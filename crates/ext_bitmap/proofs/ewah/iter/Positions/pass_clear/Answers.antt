use Rattle.std.proofs.Common.{◌≤◌, ◌<◌, ◌^◌, arith, rules}
use Rattle.std.specs.Int.Count.{count_trailing_zeros}
use Rattle.ext_bitmap.specs.UnpackingSteps.{bits_behind, IsPlaceAfter}
use Rattle.ext_bitmap.proofs.Places.{step_clear, trailing_even}
use Rattle.ext_bitmap.proofs.ewah.iter.Positions.pass_clear.Goals as goal

pub returns-clause-left : goal.returns-clause-left
returns-clause-left c =
    let s = c.args.self.now in
    let clear = c.min-clear.result in
    let within : clear ≤ s.bits = omega (arith, c.min-clear.ensures) in
    let zeros : clear ≤ count_trailing_zeros 64 s.word = omega (arith, c.min-clear.ensures) in
    let small : s.word < 2 ^ 64 = search rules in
    let after : IsPlaceAfter s.place clear c.skip-self.result = rw c.from.ensures at c.skip-self.ensures in
    rw c.unbounded_shr-self.ensures
    (step_clear s.ones s.bits 0 c.requires.behind_run clear s.word s.place c.skip-self.result (bits_behind s)
    within zeros small after)

pub returns-clause-fewer : goal.returns-clause-fewer
returns-clause-fewer c =
    omega (arith, c.requires.begun, c.min-clear.ensures, trailing_even 63 c.args.self.now.word c.requires.clear)
