-- Modes in octal digits (ASCII), as they are in resolve-undo (gitformat-index, "Resolve undo").
use Rattle.std.specs.Prelude.{◌≡◌, ℕ, List, ◌∷◌}
use Rattle.index_parts.specs.Octal.{IsOctal}

-- text is a mode: an octal number, after an optional plus sign
pub data IsMode (text : List ℕ) (n : ℕ) : Type 0 where
  plain : IsOctal text n → IsMode text n
  plus : (digits : List ℕ) → text ≡ 43 ∷ digits → IsOctal digits n → IsMode text n
