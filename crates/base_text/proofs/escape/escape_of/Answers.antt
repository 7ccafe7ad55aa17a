use Rattle.std.proofs.Common.{◌∙◌, ℕ, ap, refl, slice_index}
use Rattle.std.proofs.lemmas.Nat.{and_mask}
use Rattle.hex.specs.Hex.{encode_with, lower_digits}
use Rattle.base_text.proofs.escape.escape_of.Goals as goal

pub returns : goal.returns
unfolding encode_with
returns c = rw (
  c.hex_digit.ensures,
  c.hex_digit-2.ensures
      ∙ ap (λ (k : ℕ). slice_index lower_digits k) (and_mask c.args.byte 4),
) refl
