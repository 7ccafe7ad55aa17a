-- What was hashed of a file, and the next piece.
use Rattle.std.proofs.Common.{◌≡◌, ◌≤◌, ◌-◌, ◌+◌, ◌++◌, ℕ, List, length, take, sym, ◌∙◌, ap, arith}
use Rattle.std.specs.Prelude.{slice_range}
use Rattle.std.specs.Io.{StartsWith}
use Rattle.std.proofs.lemmas.List.{take-take}
use Rattle.std.proofs.Math.Seq.{take-add}

-- a piece after the front of a list that has grown since
pub front_grown : (old new : List ℕ) (hashed end : ℕ) → StartsWith new old → hashed ≤ length old → hashed ≤ end
    → take hashed old ++ slice_range new hashed end ≡ take end new
front_grown old new hashed end grows within ordered =
    let same : take hashed old ≡ take hashed new =
    ap (take hashed) (sym grows) ∙ take-take hashed (length old) new within in
    let sum : hashed + (end - hashed) ≡ end = omega arith in
    ap (λ (l : List ℕ). l ++ slice_range new hashed end) same ∙ sym (take-add hashed (end - hashed) new)
    ∙ ap (λ (n : ℕ). take n new) sum
