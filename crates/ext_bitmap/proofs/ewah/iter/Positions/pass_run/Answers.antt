use Rattle.std.proofs.Common.{◌+◌, ◌<◌, ◌≤◌, ◌^◌, arith, refl, rules}
use Rattle.std.specs.Prelude.{◌++◌}
use Rattle.ext_bitmap.specs.Bits.{low_bits}
use Rattle.ext_bitmap.specs.UnpackingSteps.{bits_behind}
use Rattle.ext_bitmap.proofs.Places.{step_run}
use Rattle.ext_bitmap.proofs.ewah.iter.Positions.pass_run.Goals as goal

pub returns-clause-passed : goal.returns-clause-passed
returns-clause-passed c =
    let s = c.args.self.now in
    let count = c.min-count.result in
    let within : count ≤ s.ones = omega (arith, c.min-count.ensures) in
    let small : c.in-Some.first < 2 ^ 64 = search rules in
    let room : c.in-Some.first + count ≤ 2 ^ 64 = omega (arith, small, c.min-count.ensures) in
    let bits = low_bits s.bits s.word ++ bits_behind s in
    rw c.in-Some.is (step_run s.ones count c.in-Some.first (c.in-Some.first + count) bits within refl room)
