use Rattle.std.proofs.Common.{◌≡◌, ◌∙◌, sym, refl, None, drop, arith}
use Rattle.index_parts.specs.ReadingSteps.{offset_at}
use Rattle.index_parts.proofs.Offsets.{offset_over}
use Rattle.index_parts.proofs.read.offset.Goals as goal

pub returns-in_err-checked_mul : goal.returns-in_err-checked_mul
returns-in_err-checked_mul c =
    let none : offset_at c.args.bytes.now ≡ None = sym c.loop-i.invariant
    ∙ offset_over c.loop-i.value (drop c.loop-i.i c.args.bytes.now) (omega (arith, c.in_err-checked_mul.ensures)) in
    rw (none, c.from_residual.ensures) refl
