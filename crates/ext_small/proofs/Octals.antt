-- What is read of a mode is spelled so, and what is spelled so is read.
use Rattle.std.proofs.Common.{◌≡◌, ℕ, ◌≤◌, Bool, true, false, cond, eqb, List, [], ◌∷◌, length, Some, All, refl, ap}
use Rattle.std.proofs.Common.{◌∙◌, arith}
use Rattle.std.specs.Prelude.{◌≢◌}
use Rattle.std.proofs.lemmas.Bool.{eqb-true, ne_eqb}
use Rattle.std.proofs.lemmas.List.Elements.{All-cons, All-head}
use Rattle.index_parts.proofs.Octals.{octal_takes, octal_again, octal_without, octal_some}
use Rattle.index_parts.specs.Octal.{IsOctalDigit, IsOctal, octal_number}
use Rattle.ext_small.specs.ModeDigits.{IsMode, plain, plus}
use Rattle.ext_small.specs.ResolveUndoSteps.{mode_of}

mode_by : (b : ℕ) (text : List ℕ) (n : ℕ) (t : Bool) → eqb b 43 ≡ t
    → cond t (octal_number text) (octal_number (b ∷ text)) ≡ Some n → IsMode (b ∷ text) n
mode_by b text n true p e = plus text (ap (λ (s : ℕ). s ∷ text) (eqb-true b 43 p)) (octal_takes text n e)
mode_by b text n false p e = plain (octal_takes (b ∷ text) n e)

pub mode_takes : (text : List ℕ) (n : ℕ) → mode_of text ≡ Some n → IsMode text n
mode_takes [] n e = absurd ((octal_takes [] n e).some refl)
mode_takes (b ∷ text) n e = mode_by b text n (eqb b 43) refl e

unsigned : (text : List ℕ) (n : ℕ) → IsOctal text n → mode_of text ≡ octal_number text
unsigned [] n h = absurd (h.some refl)
unsigned (b ∷ text) n h =
    let digit = All-head IsOctalDigit b text h.digits in
    let no_plus : eqb b 43 ≡ false = ne_eqb b 43 (λ e. omega arith) in
    rw no_plus refl

pub mode_again : (text : List ℕ) (n : ℕ) → IsMode text n → mode_of text ≡ Some n
mode_again text n (plain h) = unsigned text n h ∙ octal_again text n h
mode_again text n (plus digits parts h) = rw parts (octal_again digits n h)

-- ---- they contain no NUL, and have a byte

octal_apart : (text : List ℕ) (n : ℕ) → IsOctal text n → All (λ x. x ≢ 0) text
octal_apart text n h = octal_without 0 text n (λ digit. absurd (omega (arith, digit.0))) h

pub mode_apart : (text : List ℕ) (n : ℕ) → IsMode text n → All (λ x. x ≢ 0) text
mode_apart text n (plain h) = octal_apart text n h
mode_apart text n (plus digits parts h) =
    rw parts (All-cons (λ x. x ≢ 0) 43 digits (λ e. omega arith) (octal_apart digits n h))

pub mode_some : (text : List ℕ) (n : ℕ) → IsMode text n → 1 ≤ length text
mode_some text n (plain h) = octal_some text n h
mode_some text n (plus digits parts h) = omega (arith, ap length parts)
