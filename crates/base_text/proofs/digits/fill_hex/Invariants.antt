use Rattle.std.proofs.Common.{◌≡◌, ◌*◌, ◌++◌, take, drop}
use Rattle.hex.specs.Hex.{encode_lower}
use Rattle.base_text.proofs.digits.fill_hex.Given as goal

abbrev pub invariant-pairs : goal.invariant-pairs
invariant-pairs l = take (2 * l.i) l.digits ++ encode_lower (drop l.i l.bytes) ≡ encode_lower l.bytes
