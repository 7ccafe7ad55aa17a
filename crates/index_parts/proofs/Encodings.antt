-- The bytes of an offset number that is written spell it, and they come one by one from the last.
use Rattle.std.proofs.Common.{◌≡◌, ℕ, zero, suc, ◌+◌, ◌-◌, ◌*◌, ◌/◌, ◌%◌, ◌^◌, ◌<◌, ◌≤◌, Bool, true, false, cond, ltb}
use Rattle.std.proofs.Common.{List, [], ◌∷◌, ◌++◌, length, drop, set, refl, sym, ap, ◌∙◌, append_assoc, length-append}
use Rattle.std.proofs.Common.{arith}
use Rattle.std.specs.List.{AllByRecursion}
use Rattle.std.proofs.lemmas.Bool.{ltb-true, ltb-false, lt-ltb, le-ltb}
use Rattle.std.proofs.lemmas.List.{drop-set}
use native.Mathlib.Numerals.{unary_clauses}
use Rattle.index_parts.specs.Offset.{AreContinued, digits_value, powers_sum, IsOffset, continued_bytes, offset_bytes}

-- ---- the value of bytes with one more after them

abbrev value : List ℕ → ℕ
value l = digits_value l + powers_sum l

power : (n : ℕ) → 128 ^ suc n ≡ 128 * 128 ^ n
power n = simp unary_clauses (omega arith)

len_push : (l : List ℕ) (b : ℕ) → length (l ++ b ∷ []) ≡ suc (length l)
len_push l b = omega (arith, length-append l (b ∷ []))

regroup : (d p v b next : ℕ) → next ≡ 128 * p → d * next + (128 * v + b) ≡ 128 * (d * p + v) + b
regroup d p v b next e = rw e (omega arith)

digits_push : (l : List ℕ) (b : ℕ) → digits_value (l ++ b ∷ []) ≡ 128 * digits_value l + b % 128
digits_push [] b = omega arith
digits_push (c ∷ l) b =
    let next : 128 ^ length (l ++ b ∷ []) ≡ 128 * 128 ^ length l =
    ap (λ (n : ℕ). 128 ^ n) (len_push l b) ∙ power (length l) in
    ap (λ (v : ℕ). c % 128 * 128 ^ length (l ++ b ∷ []) + v) (digits_push l b)
    ∙ regroup (c % 128) (128 ^ length l) (digits_value l) (b % 128) (128 ^ length (l ++ b ∷ [])) next

sum_push : (c : ℕ) (l : List ℕ) (b : ℕ) → powers_sum ((c ∷ l) ++ b ∷ []) ≡ 128 * powers_sum (c ∷ l) + 128
sum_push c [] b = omega arith
sum_push c (d ∷ l) b =
    let next : 128 ^ length ((d ∷ l) ++ b ∷ []) ≡ 128 * 128 ^ length (d ∷ l) =
    ap (λ (n : ℕ). 128 ^ n) (len_push (d ∷ l) b) ∙ power (length (d ∷ l)) in
    omega (arith, next, sum_push d l b)

value_push : (l : List ℕ) (b : ℕ) → 1 ≤ length l → value (l ++ b ∷ []) ≡ 128 * (value l + 1) + b % 128
value_push [] b some = absurd (omega arith)
value_push (c ∷ l) b some = omega (arith, digits_push (c ∷ l) b, sum_push c l b)

continued_last : (l : List ℕ) (b : ℕ) → AllByRecursion (λ c. 128 ≤ c) l → b < 128 → AreContinued (l ++ b ∷ [])
continued_last [] b h k = k
continued_last (c ∷ []) b h k = (h.0, k)
continued_last (c ∷ d ∷ l) b h k = (h.0, continued_last (d ∷ l) b h.1 k)

continued_push : (l : List ℕ) (b : ℕ) → AllByRecursion (λ c. 128 ≤ c) l → 128 ≤ b
    → AllByRecursion (λ c. 128 ≤ c) (l ++ b ∷ [])
continued_push [] b h k = (k, tt)
continued_push (c ∷ l) b h k = (h.0, continued_push l b h.1 k)

-- ---- a number's spelling

-- The bytes before the last one have the continuation bit. With a last byte of these digits, they encode the number.
record Leads (n : ℕ) (front : List ℕ) : Type 0 where
  continued : AllByRecursion (λ c. 128 ≤ c) front
  sums : (b : ℕ) → b % 128 ≡ n % 128 → value (front ++ b ∷ []) ≡ n

leads_by : (most n : ℕ) (t : Bool) → ltb n 128 ≡ t
    → (128 ≤ n → Leads (n / 128 - 1) (continued_bytes most (n / 128 - 1)))
    → Leads n (cond t [] (continued_bytes most (n / 128 - 1) ++ (128 + (n / 128 - 1) % 128) ∷ []))
leads_by most n true e more = record { continued = tt; sums = λ b low. omega (arith, ltb-true n 128 e, low) }
leads_by most n false e more =
    let le : 128 ≤ n = ltb-false n 128 e in
    let h = more le in
    let front : List ℕ = continued_bytes most (n / 128 - 1) in
    let c : ℕ = 128 + (n / 128 - 1) % 128 in
    let high : value (front ++ c ∷ []) ≡ n / 128 - 1 = h.sums c (omega arith) in
    record {
      continued = continued_push front c h.continued (omega arith);
      sums = λ b low. omega (arith, value_push (front ++ c ∷ []) b (omega (arith, len_push front c)), high, low, le);
    }

leads : (most n : ℕ) → n < 128 ^ suc most → Leads n (continued_bytes most n)
unfolding continued_bytes
leads zero n lt = record { continued = tt; sums = λ b low. omega (arith, low, power 0, lt) }
leads (suc most) n lt =
    leads_by most n (ltb n 128) refl (λ le. leads most (n / 128 - 1) (omega (arith, power (suc most), lt, le)))

-- the bytes of a number spell it
pub offset_is : (n : ℕ) → n < 2 ^ 64 → IsOffset (offset_bytes n) n
unfolding offset_bytes
offset_is n lt =
    let h = leads 9 n (omega arith) in
    record {
      continued = continued_last (continued_bytes 9 n) (n % 128) h.continued (omega arith);
      value = sym (h.sums (n % 128) (omega arith));
      fits = lt;
    }

pub offset_some : (n : ℕ) → 1 ≤ length (offset_bytes n)
unfolding offset_bytes
offset_some n = omega (arith, len_push (continued_bytes 9 n) (n % 128))

-- ---- byte by byte, from the last

pub spelled_last : (n : ℕ) → continued_bytes 9 n ++ n % 128 ∷ [] ≡ offset_bytes n
unfolding offset_bytes
spelled_last n = refl

-- one byte more
pub spelled_next : (n start high : ℕ) (bytes : List ℕ) → 128 ≤ high → high < 128 ^ (start + 1) → start < length bytes
    → continued_bytes start high ++ drop start bytes ≡ offset_bytes n
    → continued_bytes (start - 1) (high / 128 - 1)
    ++ drop (start - 1) (set bytes (start - 1) (128 + (high / 128 - 1) % 128)) ≡ offset_bytes n
unfolding continued_bytes
spelled_next n zero high bytes le lt h e = absurd (omega (arith, power 0))
spelled_next n (suc k) high bytes le lt h e =
    let c : ℕ = 128 + (high / 128 - 1) % 128 in
    let large : ltb high 128 ≡ false = le-ltb high 128 le in
    let fewer : suc k - 1 ≡ k = omega arith in
    let more : k + 1 ≡ suc k = omega arith in
    let set_there : drop k (set bytes k c) ≡ c ∷ drop (suc k) bytes =
    drop-set bytes k c (omega arith) ∙ ap (λ (i : ℕ). c ∷ drop i bytes) more in
    let parts : continued_bytes k (high / 128 - 1) ++ c ∷ drop (suc k) bytes
    ≡ continued_bytes (suc k) high ++ drop (suc k) bytes =
    rw large (sym (append_assoc (continued_bytes k (high / 128 - 1)) (c ∷ []) (drop (suc k) bytes))) in
    rw fewer (ap (λ (l : List ℕ). continued_bytes k (high / 128 - 1) ++ l) set_there ∙ parts ∙ e)

-- there is room for it
pub room_next : (start high : ℕ) → high < 128 ^ (start + 1) → 128 ≤ high
    → (1 ≤ start) × (high / 128 - 1 < 128 ^ (start - 1 + 1))
room_next zero high lt le = absurd (omega (arith, power 0))
room_next (suc k) high lt le =
    let e : suc k - 1 + 1 ≡ suc k = omega arith in
    let f : suc k + 1 ≡ suc (suc k) = omega arith in
    (omega arith, rw e (omega (arith, power (suc k), ap (λ (i : ℕ). 128 ^ i) f)))

-- before no byte there is none
pub spelled_all : (n start high : ℕ) (bytes : List ℕ) → high < 128
    → continued_bytes start high ++ drop start bytes ≡ offset_bytes n → drop start bytes ≡ offset_bytes n
unfolding continued_bytes
spelled_all n zero high bytes lt e = e
spelled_all n (suc k) high bytes lt e = let small : ltb high 128 ≡ true = lt-ltb high 128 lt in rw small at e
