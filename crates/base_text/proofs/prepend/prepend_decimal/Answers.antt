use Rattle.std.proofs.Common.{ℕ, ◌<◌, ◌≤◌, ◌^◌, decimal, length, arith}
use Rattle.std.proofs.lemmas.Fmt.{length-decimal-le}
use Rattle.base_text.proofs.prepend.prepend_decimal.Goals as goal

length-decimal : (n : ℕ) → n < 2 ^ 64 → length (decimal n) ≤ 20
length-decimal n h = length-decimal-le 20 n (omega arith) (omega arith) h

pub write_digits-requires : goal.write_digits-requires
write_digits-requires c =
    let short = length-decimal c.args.n c.ranges.n.fits in
    (omega arith, omega arith)

pub returns-clause-prepends : goal.returns-clause-prepends
returns-clause-prepends c =
    let short = length-decimal c.args.n c.ranges.n.fits in
    record {
      short = omega arith;
      within = omega arith;
      written = c.write_digits.ensures.written;
    }
