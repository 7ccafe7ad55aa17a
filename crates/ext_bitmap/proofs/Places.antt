-- The places of bits that are set.
use Rattle.std.proofs.Common.{◌≡◌, ℕ, zero, suc, ◌+◌, ◌-◌, ◌*◌, ◌/◌, ◌%◌, ◌^◌, ◌<◌, ◌≤◌, nat_lt, nat_eq, Bool, true}
use Rattle.std.proofs.Common.{false, cond, List, [], ◌∷◌, ◌++◌, take, drop, Option, Some, None, Result, Ok, Err, refl}
use Rattle.std.proofs.Common.{sym, ap, subst, ◌∙◌, arith, append_assoc}
use Rattle.std.specs.Prelude.{replicate}
use Rattle.std.specs.Int.Count.{count_trailing_zeros, under}
use Rattle.std.specs.List.{flat_map}
use Rattle.std.proofs.lemmas.Bool.Decides.{nat_tests}
use Rattle.std.proofs.lemmas.Nat.{trailing_le, shr-shr}
use Rattle.std.proofs.Math.Nat.{div-eq_of_lt, pow-le-pow_right}
use Rattle.ext_bitmap.specs.Ascending.{Ascends}
use Rattle.ext_bitmap.specs.Bits.{Bit, clear, set, broken, bit_of, low_bits, word_bits, repetitions, places}
use Rattle.ext_bitmap.specs.Bits.{run_places, ListPlaces}
use Rattle.ext_bitmap.specs.declared.ewah.iter.Malformed.{Malformed}
use Rattle.ext_bitmap.specs.UnpackingSteps.{unpacked, next_place, IsPlaceAfter}
use Rattle.ext_bitmap.proofs.Unpackings.{behind_run, one_unpacking, stand_for_unpacked, unpacked-nil, unpacked-cons}

-- ---- they ascend

weaker : {E : Type 0} (items : List (Result ℕ E)) (p q : ℕ) → p ≤ q → Ascends q items → Ascends p items
weaker [] p q le h = tt
weaker (Ok x ∷ items) p q le h = (omega (arith, h.0), h.1)
weaker (Err e ∷ items) p q le h = h

ascend_by : (t : Bool) (p : ℕ) (bits : List Bit) → Ascends (p + 1) (places (p + 1) bits)
    → Ascends p (cond t (Ok p ∷ places (p + 1) bits) (Err (record {}) ∷ []))
ascend_by true p bits h = (omega arith, h)
ascend_by false p bits h = refl

-- places ascend, and a fault is the last of them
places_ascend : (p : ℕ) (bits : List Bit) → Ascends p (places p bits)
places_ascend p [] = tt
places_ascend p (clear ∷ bits) = weaker (places (p + 1) bits) p (p + 1) (omega arith) (places_ascend (p + 1) bits)
places_ascend p (set ∷ bits) = ascend_by (nat_lt p (2 ^ 64)) p bits (places_ascend (p + 1) bits)
places_ascend p (broken ∷ bits) = refl

-- words list some items, which ascend, and no others
pub lists_unpacked : (items : List (Result ℕ Malformed)) (words : List ℕ) → items ≡ places 0 (unpacked words)
    → ListPlaces items words
lists_unpacked items words e = record { bits = unpacked words; stand_for = stand_for_unpacked words; listed = e }

pub listed_ascend : (items : List (Result ℕ Malformed)) (words : List ℕ) → ListPlaces items words → Ascends 0 items
listed_ascend items words h = subst (Ascends 0) (sym h.listed) (places_ascend 0 h.bits)

pub one_listing : (words : List ℕ) (a b : List (Result ℕ Malformed)) → ListPlaces a words → ListPlaces b words → a ≡ b
one_listing words a b s t = s.listed ∙ ap (places 0) (one_unpacking words s.bits t.bits s.stand_for t.stand_for)
    ∙ sym t.listed

-- ---- from one place on

places_past : (p q : ℕ) (bits : List Bit) → 2 ^ 64 ≤ p → 2 ^ 64 ≤ q → places p bits ≡ places q bits
places_past p q [] h k = refl
places_past p q (clear ∷ bits) h k = places_past (p + 1) (q + 1) bits (omega arith) (omega arith)
places_past p q (set ∷ bits) h k =
    let a : nat_lt p (2 ^ 64) ≡ false = grind (arith, nat_tests) in
    let b : nat_lt q (2 ^ 64) ≡ false = grind (arith, nat_tests) in
    rw (a, b) refl
places_past p q (broken ∷ bits) h k = refl

pub places_after : (p : Option ℕ) (n : ℕ) (q : Option ℕ) (bits : List Bit) → IsPlaceAfter p n q
    → places (next_place q) bits ≡ places (next_place p + n) bits
places_after p n (Some q) bits h = rw h.0 refl
places_after p n None bits h = places_past (2 ^ 64) (next_place p + n) bits (omega arith) h

places_clear : (n p : ℕ) (bits : List Bit) → places p (replicate n clear ++ bits) ≡ places (p + n) bits
places_clear zero p bits = let e : p + 0 ≡ p = omega arith in rw e refl
places_clear (suc n) p bits = let e : p + 1 + n ≡ p + suc n = omega arith in places_clear n (p + 1) bits
    ∙ ap (λ k. places k bits) e

pub places_set : (p : ℕ) (bits : List Bit) → p < 2 ^ 64 → places p (set ∷ bits) ≡ Ok p ∷ places (p + 1) bits
places_set p bits h = let a : nat_lt p (2 ^ 64) ≡ true = grind (arith, nat_tests) in rw a refl

-- the positions of a front of a run, and those of its rest
run_front : (n m p : ℕ) (bits : List Bit) → p + n ≤ 2 ^ 64
    → places p (replicate (n + m) set ++ bits) ≡ run_places p n ++ places (p + n) (replicate m set ++ bits)
run_front zero m p bits h = let e : p + 0 ≡ p = omega arith in let z : 0 + m ≡ m = omega arith in rw (e, z) refl
run_front (suc n) m p bits h =
    let e : p + 1 + n ≡ p + suc n = omega arith in
    let rest = subst (λ (k : ℕ). places (p + 1) (replicate (n + m) set ++ bits) ≡ run_places (p + 1) n
    ++ places k (replicate m set ++ bits))
    e (run_front n m (p + 1) bits (omega (arith, h))) in
    let sum : suc n + m ≡ suc (n + m) = omega arith in
    rw sum (places_set p (replicate (n + m) set ++ bits) (omega (arith, h)) ∙ ap (λ items. Ok p ∷ items) rest)

-- a run is passed up to some position
pub step_run : (ones n p end : ℕ) (bits : List Bit) → n ≤ ones → end ≡ p + n → end ≤ 2 ^ 64
    → places p (replicate ones set ++ bits) ≡ run_places p (end - p) ++ places end (replicate (ones - n) set ++ bits)
step_run ones n p end bits le e h =
    let parts : n + (ones - n) ≡ ones = omega (arith, le) in
    let count : end - p ≡ n = omega (arith, e) in
    let front = run_front n (ones - n) p bits (omega (arith, e, h)) in
    rw (count, e) (subst (λ (k : ℕ). places p (replicate k set ++ bits) ≡ run_places p n
    ++ places (p + n) (replicate (ones - n) set ++ bits)) parts front)

-- ---- what one step of an iterator takes

bit_set : (n : ℕ) → n ≡ 1 → bit_of n ≡ set
bit_set n h = let t : nat_eq n 1 ≡ true = grind (arith, nat_tests) in rw t refl

bit_clear : (n : ℕ) → (n ≡ 1 → ⊥) → bit_of n ≡ clear
bit_clear n h = let t : nat_eq n 1 ≡ false = grind (arith, nat_tests) in rw t refl

pub word_step : (n w : ℕ) → 0 < n → low_bits n w ≡ bit_of (w % 2) ∷ low_bits (n - 1) (w / 2)
word_step zero w h = absurd (omega arith)
word_step (suc n) w h = let e : suc n - 1 ≡ n = omega arith in rw e refl

take_step : (n x : ℕ) (xs : List ℕ) → 0 < n → take n (x ∷ xs) ≡ x ∷ take (n - 1) xs
take_step zero x xs h = absurd (omega arith)
take_step (suc n) x xs h = let e : suc n - 1 ≡ n = omega arith in rw e refl

drop_step : (n x : ℕ) (xs : List ℕ) → 0 < n → drop n (x ∷ xs) ≡ drop (n - 1) xs
drop_step zero x xs h = absurd (omega arith)
drop_step (suc n) x xs h = let e : suc n - 1 ≡ n = omega arith in rw e refl

take-nil : (n : ℕ) → ◌≡◌ {A = List ℕ} (take n []) []
take-nil zero = refl
take-nil (suc n) = refl

drop-nil : (n : ℕ) → ◌≡◌ {A = List ℕ} (drop n []) []
drop-nil zero = refl
drop-nil (suc n) = refl

-- a run of set bits, and what follows it
pub run_set : (p run : ℕ) (words : List ℕ) → run % 2 ≡ 1
    → places p (replicate (64 * repetitions run) set ++ behind_run run words) ≡ places p (unpacked (run ∷ words))
run_set p run words h = rw (unpacked-cons run words, bit_set (run % 2) h) refl

-- a run of clear bits is passed
pub run_clear : (p q : Option ℕ) (run : ℕ) (words : List ℕ) → (run % 2 ≡ 1 → ⊥)
    → IsPlaceAfter p (64 * repetitions run) q → places (next_place q) (behind_run run words)
    ≡ places (next_place p) (unpacked (run ∷ words))
run_clear p q run words h a = rw (unpacked-cons run words, bit_clear (run % 2) h)
    (places_after p (64 * repetitions run) q (behind_run run words) a
    ∙ sym (places_clear (64 * repetitions run) (next_place p) (behind_run run words)))

-- ---- clear bits of a literal word that are passed at once

-- if some of the lowest digits are clear, the lowest is, and one fewer after it
trailing_step : (m k w : ℕ) → suc k ≤ count_trailing_zeros (suc m) w
    → (w % 2 ≡ 0) × (k ≤ count_trailing_zeros m (w / 2))
unfolding count_trailing_zeros
trailing_step m k w h =
    let P : ℕ → Type 0 = λ d. suc k ≤ under d (count_trailing_zeros m (w / 2))
    → (d ≡ 0) × (k ≤ count_trailing_zeros m (w / 2)) in
    elim (w % 2) as P [ zero ↦ λ l. (refl, omega arith) | suc d ↦ λ l. absurd (omega arith) ] h

-- an even number has a clear digit
pub trailing_even : (m w : ℕ) → w % 2 ≡ 0 → 0 < count_trailing_zeros (suc m) w
unfolding count_trailing_zeros
trailing_even m w h = rw h (omega arith)

-- so many bits of a word are clear
low_clear : (k n m w : ℕ) → k ≤ n → k ≤ count_trailing_zeros m w → low_bits n w ≡ replicate k clear
    ++ low_bits (n - k) (w / 2 ^ k)
low_clear zero n m w le h = let a : n - 0 ≡ n = omega arith in let b : w / 1 ≡ w = omega arith in rw (a, b) refl
low_clear (suc k) zero m w le h = absurd (omega arith)
low_clear (suc k) (suc n) zero w le h = absurd (omega (arith, trailing_le 0 w))
low_clear (suc k) (suc n) (suc m) w le h =
    let p = trailing_step m k w h in
    let a : suc n - suc k ≡ n - k = omega arith in
    let b : 1 + k ≡ suc k = omega arith in
    let e : w / 2 / 2 ^ k ≡ w / 2 ^ suc k = shr-shr w 1 k ∙ ap (λ j. w / 2 ^ j) b in
    let tail = subst (λ (v : ℕ). low_bits n (w / 2) ≡ replicate k clear ++ low_bits (n - k) v) e
    (low_clear k n m (w / 2) (omega arith) p.1) in
    rw (bit_clear (w % 2) (λ h1. absurd (omega (arith, h1, p.0))), a) (ap (λ (bits : List Bit). clear ∷ bits) tail)

-- a word without its low bits, as a shift by any number gives it
shifted : (k w : ℕ) → w < 2 ^ 64 → cond (nat_lt k 64) (w / 2 ^ k) 0 ≡ w / 2 ^ k
shifted k w h = elim (nat_lt k 64) as (λ t. nat_lt k 64 ≡ t → cond t (w / 2 ^ k) 0 ≡ w / 2 ^ k) [
  | true ↦ λ e. refl
  | false ↦ λ e. let far : 64 ≤ k = grind (arith, nat_tests) in
      let room : 2 ^ 64 ≤ 2 ^ k = pow-le-pow_right (omega arith) far in sym (div-eq_of_lt (omega (arith, h, room)))
] refl

module _ (ones bits literals : ℕ) (no_run : ones ≡ 0) where
  -- clear bits of a literal word are passed
  pub step_clear : (k w : ℕ) (p q : Option ℕ) (tail : List Bit) → k ≤ bits → k ≤ count_trailing_zeros 64 w
      → w < 2 ^ 64 → IsPlaceAfter p k q
      → places (next_place q) (replicate ones set ++ (low_bits (bits - k) (cond (nat_lt k 64) (w / 2 ^ k) 0) ++ tail))
      ≡ places (next_place p) (replicate ones set ++ (low_bits bits w ++ tail))
  step_clear k w p q tail le zeros small a =
      let behind = low_bits (bits - k) (w / 2 ^ k) in
      rw (no_run, shifted k w small, low_clear k bits 64 w le zeros)
      (places_after p k q (behind ++ tail) a ∙ sym (places_clear k (next_place p) (behind ++ tail))
      ∙ sym (ap (places (next_place p)) (append_assoc (replicate k clear) behind tail)))

  module _ (no_bits : bits ≡ 0) (is_broken : Bool) (whole : is_broken ≡ false) (w p : ℕ) where
    -- the next literal word is begun
    pub step_literal : (words rest : List ℕ) (first : ℕ) → 0 < literals → words ≡ first ∷ rest
        → places p (replicate ones set ++ (low_bits 64 first
        ++ cond is_broken (broken ∷ [])
        (flat_map word_bits (take (literals - 1) rest) ++ unpacked (drop (literals - 1) rest))))
        ≡ places p (replicate ones set ++ (low_bits bits w
        ++ cond is_broken (broken ∷ [])
        (flat_map word_bits (take literals words) ++ unpacked (drop literals words))))
    step_literal words rest first pos e =
        let a = append_assoc (word_bits first) (flat_map word_bits (take (literals - 1) rest))
        (unpacked (drop (literals - 1) rest)) in
        rw (no_run, no_bits, whole, e, take_step literals first rest pos, drop_step literals first rest pos)
        (ap (places p) (sym a))

    -- nothing is left
    pub step_end : (words : List ℕ) → words ≡ []
        → places p (replicate ones set ++ (low_bits bits w
        ++ cond is_broken (broken ∷ []) (flat_map word_bits (take literals words) ++ unpacked (drop literals words))))
        ≡ []
    step_end words e = rw (no_run, no_bits, whole, e, take-nil literals, drop-nil literals, unpacked-nil) refl
