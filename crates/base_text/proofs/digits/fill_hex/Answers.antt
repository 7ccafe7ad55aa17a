use Rattle.std.proofs.Common.{ℕ, ◌∙◌, arith, slice_index, ap}
use Rattle.std.proofs.lemmas.Nat.{and_mask}
use Rattle.hex.specs.Hex.{lower_digits}
use Rattle.hex.proofs.Pairs.{encode_step, encode_done}
use Rattle.base_text.proofs.digits.fill_hex.Goals as goal

pub pairs-preserved : goal.pairs-preserved
pairs-preserved c =
    let byte : ℕ = slice_index c.args.bytes.now c.pairs.i in
    encode_step lower_digits c.args.bytes.now c.pairs.digits c.pairs.i _ _ (omega arith)
    (omega arith) c.hex_digit.ensures
    (c.hex_digit-in-pairs.ensures ∙ ap (λ (k : ℕ). slice_index lower_digits k) (and_mask byte 4)) c.pairs.invariant

pub returns : goal.returns
returns c = encode_done _ _ _ c.pairs.i (omega arith) (omega arith) c.pairs.invariant
