-- The pieces that are written one after another, and their lengths.
use Rattle.std.proofs.Common.{◌≡◌, ℕ, ◌+◌, ◌^◌, ◌<◌, ◌≤◌, Bool, true, false, cond, ltb, List, ◌++◌}
use Rattle.std.proofs.Common.{length, get_or, take, Option, Some, None, refl, ap, ◌∙◌, append_assoc, arith}
use Rattle.std.specs.List.{flat_map}
use Rattle.std.proofs.lemmas.Bool.{ltb-true, ltb-false, lt-ltb, le-ltb}
use Rattle.std.proofs.lemmas.List.Folds.{length-flat_map-take}
use Rattle.std.proofs.lemmas.Option.{same_Some}
use Rattle.index_extensions.specs.Encoding.{item_bytes, item_of}
use Rattle.index_parts.specs.Numbers.{be32, within_32}

-- ---- the numbers that 32 bits count

pub within_some : (n : ℕ) → n < 2 ^ 32 → within_32 n ≡ Some n
within_some n lt = rw (lt-ltb n (2 ^ 32) lt) refl

pub within_none : (n : ℕ) → 2 ^ 32 ≤ n → within_32 n ≡ None
within_none n le = rw (le-ltb n (2 ^ 32) le) refl

pub some_within : (n m : ℕ) → Some m ≡ within_32 n → (m ≡ n) × (n < 2 ^ 32)
some_within n m e = by (ltb n (2 ^ 32)) refl e
  where
    by : (t : Bool) → ltb n (2 ^ 32) ≡ t → Some m ≡ cond t (Some n) None → (m ≡ n) × (n < 2 ^ 32)
    by true h k = (same_Some m n k, ltb-true n (2 ^ 32) h)
    by false h k = absurd cc

pub none_within : (n : ℕ) → None ≡ within_32 n → 2 ^ 32 ≤ n
none_within n e = by (ltb n (2 ^ 32)) refl e
  where
    by : (t : Bool) → ltb n (2 ^ 32) ≡ t → ◌≡◌ {A = Option ℕ} None (cond t (Some n) None) → 2 ^ 32 ≤ n
    by true h k = absurd cc
    by false h k = ltb-false n (2 ^ 32) h

-- the items before a place and the one there are too long already
pub too_long_at : {X : Type 0} (f : X → List ℕ) (xs : List X) (i : ℕ) (d : X) → i < length xs
    → 2 ^ 32 ≤ length (flat_map f (take i xs)) + length (f (get_or xs i d)) → within_32 (length (flat_map f xs)) ≡ None
too_long_at f xs i d lt le = within_none (length (flat_map f xs)) (omega (arith, le, length-flat_map-take f xs i d lt))

-- ---- an extension

-- its signature, its size and its content
pub item_parts : (signature content : List ℕ) (len : ℕ) → len ≡ length content
    → (signature ++ be32 len) ++ content ≡ item_bytes (item_of signature content)
item_parts signature content len e = ap (λ (n : ℕ). (signature ++ be32 n) ++ content) e
    ∙ append_assoc signature (be32 (length content)) content
