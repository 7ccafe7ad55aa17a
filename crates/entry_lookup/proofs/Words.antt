-- Words of eight bytes: an operation on a word is one on each of its bytes, and words compare as their bytes do.
use Rattle.std.proofs.Common.{◌≡◌, ℕ, zero, suc, ◌+◌, ◌-◌, ◌*◌, ◌/◌, ◌%◌, ◌^◌, ◌<◌, ◌≤◌, ◌⊎◌, inl, inr, Bool, true}
use Rattle.std.proofs.Common.{false, List, [], ◌∷◌, ◌++◌, length, length-append, map, refl, sym, ap, ◌∙◌, arith}
use Rattle.std.specs.Prelude.{bit_and, bit_or, ◌&&◌, ◌==◌}
use Rattle.std.specs.Char.{to_ascii_lowercase}
use Rattle.std.specs.Int.{to_be_bytes, w64}
use Rattle.std.specs.Int.Bits.{and_block, or_block, and_le_r, or_lt}
use Rattle.std.specs.Ordering.{nat_cmp, ordering_then}
use Rattle.std.specs.declared.cmp.Ordering.{Ordering}
use Rattle.std.specs.declared.cmp.Ordering.TheVariants.{Less, Equal, Greater}
use Rattle.std.proofs.lemmas.Bool.{cases_lt}
use Rattle.std.proofs.lemmas.Bool.Decides.{nat_tests}
use Rattle.std.proofs.lemmas.List.{map-append}
use Rattle.std.proofs.lemmas.Nat.Bits.{and_pow}
use Rattle.entry_list.specs.Order.{path_cmp}

-- the lowest k bytes of a number, the highest of them first
bytes_of : ℕ → ℕ → List ℕ
bytes_of zero n = []
bytes_of (suc k) n = bytes_of k (n / 256) ++ n % 256 ∷ []

-- the number of the lowest k bytes, each changed
each_byte : ℕ → (ℕ → ℕ) → ℕ → ℕ
each_byte zero f n = 0
each_byte (suc k) f n = each_byte k f (n / 256) * 256 + f (n % 256)

be_bytes_are : (n : ℕ) → to_be_bytes w64 n ≡ bytes_of 8 n
unfolding bytes_of
be_bytes_are n =
    let two : n / 0x10000 ≡ n / 256 / 256 = omega arith in
    let three : n / 0x1000000 ≡ n / 256 / 256 / 256 = omega arith in
    let four : n / 0x100000000 ≡ n / 256 / 256 / 256 / 256 = omega arith in
    let five : n / 0x10000000000 ≡ n / 256 / 256 / 256 / 256 / 256 = omega arith in
    let six : n / 0x1000000000000 ≡ n / 256 / 256 / 256 / 256 / 256 / 256 = omega arith in
    let seven : n / 0x100000000000000 ≡ n / 256 / 256 / 256 / 256 / 256 / 256 / 256 = omega arith in
    rw (two, three, four, five, six, seven) refl

module _ (f : ℕ → ℕ) (small : (b : ℕ) → b < 256 → f b < 256) where
  bytes_each : (k n : ℕ) → bytes_of k (each_byte k f n) ≡ map f (bytes_of k n)
  unfolding bytes_of each_byte
  bytes_each zero n = refl
  bytes_each (suc k) n =
      let x : ℕ = each_byte k f (n / 256) in
      let y : ℕ = f (n % 256) in
      let high : (x * 256 + y) / 256 ≡ x = omega (arith, small (n % 256) (omega arith)) in
      let low : (x * 256 + y) % 256 ≡ y = omega (arith, small (n % 256) (omega arith)) in
      rw (high, low) (ap (λ (bs : List ℕ). bs ++ y ∷ []) (bytes_each k (n / 256))
      ∙ sym (map-append f (bytes_of k (n / 256)) (n % 256 ∷ [])))

each_same : (f g : ℕ → ℕ) → ((b : ℕ) → b < 256 → f b ≡ g b) → (k n : ℕ) → each_byte k f n ≡ each_byte k g n
unfolding each_byte
each_same f g h zero n = refl
each_same f g h (suc k) n = omega (arith, each_same f g h k (n / 256), h (n % 256) (omega arith))

each_plus : (f g : ℕ → ℕ) (k n : ℕ) → each_byte k f n + each_byte k g n ≡ each_byte k (λ b. f b + g b) n
unfolding each_byte
each_plus f g zero n = refl
each_plus f g (suc k) n = omega (arith, each_plus f g k (n / 256))

each_four : (g : ℕ → ℕ) (k n : ℕ) → each_byte k (λ b. 4 * g b) n ≡ 4 * each_byte k g n
unfolding each_byte
each_four g zero n = refl
each_four g (suc k) n = omega (arith, each_four g k (n / 256))

each_itself : (k n : ℕ) → n < 256 ^ k → each_byte k (λ b. b) n ≡ n
unfolding each_byte
each_itself zero n h = omega arith
each_itself (suc k) n h = omega (arith, each_itself k (n / 256) (omega arith))

module _ (f g : ℕ → ℕ) (f_small : (b : ℕ) → b < 256 → f b < 256) (g_small : (b : ℕ) → b < 256 → g b < 256) where
  each_and : (k n : ℕ) → bit_and (each_byte k f n) (each_byte k g n) ≡ each_byte k (λ b. bit_and (f b) (g b)) n
  unfolding each_byte
  each_and zero n = refl
  each_and (suc k) n =
      and_block 8 (each_byte k f (n / 256)) (each_byte k g (n / 256)) (f (n % 256)) (g (n % 256))
      (f_small (n % 256) (omega arith)) (g_small (n % 256) (omega arith))
      ∙ ap (λ (m : ℕ). m * 256 + bit_and (f (n % 256)) (g (n % 256))) (each_and k (n / 256))

  each_or : (k n : ℕ) → bit_or (each_byte k f n) (each_byte k g n) ≡ each_byte k (λ b. bit_or (f b) (g b)) n
  unfolding each_byte
  each_or zero n = refl
  each_or (suc k) n =
      or_block 8 (each_byte k f (n / 256)) (each_byte k g (n / 256)) (f (n % 256)) (g (n % 256))
      (f_small (n % 256) (omega arith)) (g_small (n % 256) (omega arith))
      ∙ ap (λ (m : ℕ). m * 256 + bit_or (f (n % 256)) (g (n % 256))) (each_or k (n / 256))

  and_is : (n x y : ℕ) → x ≡ each_byte 8 f n → y ≡ each_byte 8 g n
      → bit_and x y ≡ each_byte 8 (λ b. bit_and (f b) (g b)) n
  and_is n x y d e = rw (d, e) (each_and 8 n)

  or_is : (n x y : ℕ) → x ≡ each_byte 8 f n → y ≡ each_byte 8 g n → bit_or x y ≡ each_byte 8 (λ b. bit_or (f b) (g b)) n
  or_is n x y d e = rw (d, e) (each_or 8 n)

plus_is : (f g : ℕ → ℕ) (n x y : ℕ) → x ≡ each_byte 8 f n → y ≡ each_byte 8 g n → x + y ≡ each_byte 8 (λ b. f b + g b) n
plus_is f g n x y d e = rw (d, e) (each_plus f g 8 n)

-- ---- what the same byte in each place is as a word

seven_bits : (n : ℕ) → each_byte 8 (λ b. 0x7f) n ≡ 0x7f7f7f7f7f7f7f7f
unfolding each_byte
seven_bits n = refl

from_a_each : (n : ℕ) → each_byte 8 (λ b. 0x3f) n ≡ 0x3f3f3f3f3f3f3f3f
unfolding each_byte
from_a_each n = refl

behind_z_each : (n : ℕ) → each_byte 8 (λ b. 0x25) n ≡ 0x2525252525252525
unfolding each_byte
behind_z_each n = refl

high_bits : (n : ℕ) → each_byte 8 (λ b. 0x80) n ≡ 0x8080808080808080
unfolding each_byte
high_bits n = refl

all_bits : (n : ℕ) → each_byte 8 (λ b. 255) n ≡ 2 ^ 64 - 1
unfolding each_byte
all_bits n = refl

-- ---- a byte

abbrev upper : ℕ → ℕ
upper b = bit_and (bit_and (bit_and b 0x7f + 0x3f) (255 - bit_or (bit_and b 0x7f + 0x25) b)) 0x80

passes_below : ℕ → (ℕ → Bool) → Bool
passes_below zero p = true
passes_below (suc n) p = p n && passes_below n p

both : (a b : Bool) → (a && b) ≡ true → (a ≡ true) × (b ≡ true)
both true b e = (refl, e)
both false b e = cc

passes_at : (n : ℕ) (p : ℕ → Bool) → passes_below n p ≡ true → (k : ℕ) → k < n → p k ≡ true
unfolding passes_below
passes_at zero p e k l = absurd (omega arith)
passes_at (suc n) p e k l = by (passes_at n p (both _ _ e).1 k) (cases_lt k n)
  where
    by : (k < n → p k ≡ true) → (k < n) ⊎ (n ≤ k) → p k ≡ true
    by earlier (inl a) = earlier a
    by earlier (inr b) = let same : k ≡ n = omega arith in ap p same ∙ (both _ _ e).0

byte_lowered : (b : ℕ) → b < 256 → bit_or b (upper b / 4) ≡ to_ascii_lowercase b
unfolding passes_below
byte_lowered b l =
    let told = passes_at 256 (λ b. bit_or b (upper b / 4) == to_ascii_lowercase b) refl b l in
    grind (arith, nat_tests, told)

-- ---- the bytes of a word

abbrev seven : ℕ → ℕ
seven b = bit_and b 0x7f

seven_small : (b : ℕ) → bit_and b 0x7f ≤ 0x7f
seven_small b = and_le_r b 0x7f

not_is : (f : ℕ → ℕ) → ((b : ℕ) → b < 256 → f b < 256) → (n x : ℕ) → x ≡ each_byte 8 f n
    → 0xffffffffffffffff - x ≡ each_byte 8 (λ b. 255 - f b) n
not_is f small n x e =
    let whole : each_byte 8 (λ b. f b + (255 - f b)) n ≡ each_byte 8 (λ b. 255) n =
    each_same (λ b. f b + (255 - f b)) (λ b. 255) (λ b l. omega (arith, small b l)) 8 n in
    omega (arith, each_plus f (λ b. 255 - f b) 8 n, whole, all_bits n, e)

quarter : (b : ℕ) → upper b ≡ 4 * (upper b / 4)
quarter b = omega (arith, and_pow (bit_and (bit_and b 0x7f + 0x3f) (255 - bit_or (bit_and b 0x7f + 0x25) b)) 7)

quarter_is : (n x : ℕ) → x ≡ each_byte 8 upper n → x / 4 ≡ each_byte 8 (λ b. upper b / 4) n
quarter_is n x e =
    omega (arith, e, each_same upper (λ b. 4 * (upper b / 4)) (λ b l. quarter b) 8 n, each_four (λ b. upper b / 4) 8 n)

lowered_word : (w : ℕ) → w < 2 ^ 64
    → bit_or w (bit_and (bit_and (bit_and w 0x7f7f7f7f7f7f7f7f + 0x3f3f3f3f3f3f3f3f)
    (0xffffffffffffffff - bit_or (bit_and w 0x7f7f7f7f7f7f7f7f + 0x2525252525252525) w)) 0x8080808080808080 / 4)
    ≡ each_byte 8 to_ascii_lowercase w
lowered_word w l =
    let itself : w ≡ each_byte 8 (λ b. b) w = sym (each_itself 8 w l) in
    let low : bit_and w 0x7f7f7f7f7f7f7f7f ≡ each_byte 8 seven w = and_is (λ b. b) (λ b. 0x7f) (λ b s. s)
    (λ b s. omega arith) w w 0x7f7f7f7f7f7f7f7f itself (sym (seven_bits w)) in
    let from_a =
    plus_is seven (λ b. 0x3f) w (bit_and w 0x7f7f7f7f7f7f7f7f) 0x3f3f3f3f3f3f3f3f low (sym (from_a_each w)) in
    let behind_z =
    plus_is seven (λ b. 0x25) w (bit_and w 0x7f7f7f7f7f7f7f7f) 0x2525252525252525 low (sym (behind_z_each w)) in
    let high = or_is (λ b. seven b + 0x25) (λ b. b) (λ b s. omega (arith, seven_small b)) (λ b s. s) w
    (bit_and w 0x7f7f7f7f7f7f7f7f + 0x2525252525252525) w behind_z itself in
    let other =
    not_is (λ b. bit_or (seven b + 0x25) b) (λ b s. or_lt 8 (seven b + 0x25) b (omega (arith, seven_small b)) s) w
    (bit_or (bit_and w 0x7f7f7f7f7f7f7f7f + 0x2525252525252525) w) high in
    let letters = and_is (λ b. seven b + 0x3f) (λ b. 255 - bit_or (seven b + 0x25) b)
    (λ b s. omega (arith, seven_small b)) (λ b s. omega arith) w (bit_and w 0x7f7f7f7f7f7f7f7f + 0x3f3f3f3f3f3f3f3f)
    (0xffffffffffffffff - bit_or (bit_and w 0x7f7f7f7f7f7f7f7f + 0x2525252525252525) w) from_a other in
    let bits = and_is (λ b. bit_and (seven b + 0x3f) (255 - bit_or (seven b + 0x25) b)) (λ b. 0x80)
    (λ b s. omega (arith, and_le_r (seven b + 0x3f) (255 - bit_or (seven b + 0x25) b)))
    (λ b s. omega arith) w _ 0x8080808080808080 letters (sym (high_bits w)) in
    let quarters = quarter_is w _ bits in
    or_is (λ b. b) (λ b. upper b / 4) (λ b s. s) (λ b s.
    omega (arith, and_le_r (bit_and (seven b + 0x3f) (255 - bit_or (seven b + 0x25) b)) 0x80)) w w _ itself quarters
    ∙ each_same (λ b. bit_or b (upper b / 4)) to_ascii_lowercase byte_lowered 8 w

lower_small : (b : ℕ) → b < 256 → to_ascii_lowercase b < 256
lower_small b l = grind (arith, nat_tests)

pub lowered : (w : ℕ) → w < 2 ^ 64
    → to_be_bytes w64 (bit_or w (bit_and (bit_and (bit_and w 0x7f7f7f7f7f7f7f7f + 0x3f3f3f3f3f3f3f3f)
    (0xffffffffffffffff - bit_or (bit_and w 0x7f7f7f7f7f7f7f7f + 0x2525252525252525) w)) 0x8080808080808080 / 4))
    ≡ map to_ascii_lowercase (to_be_bytes w64 w)
lowered w l = ap (to_be_bytes w64) (lowered_word w l) ∙ be_bytes_are (each_byte 8 to_ascii_lowercase w)
    ∙ bytes_each to_ascii_lowercase lower_small 8 w ∙ ap (map to_ascii_lowercase) (sym (be_bytes_are w))

-- ---- order

digits_cmp : (m n : ℕ) → nat_cmp m n ≡ ordering_then (nat_cmp (m / 256) (n / 256)) (nat_cmp (m % 256) (n % 256))
digits_cmp m n = grind (arith, nat_tests)

then_equal : (o : Ordering) → ordering_then o Equal ≡ o
then_equal Less = refl
then_equal Equal = refl
then_equal Greater = refl

then_assoc : (o p q : Ordering) → ordering_then (ordering_then o p) q ≡ ordering_then o (ordering_then p q)
then_assoc Less p q = refl
then_assoc Equal p q = refl
then_assoc Greater p q = refl

snoc_cmp : (xs ys : List ℕ) (r s : ℕ) → length xs ≡ length ys
    → path_cmp (xs ++ r ∷ []) (ys ++ s ∷ []) ≡ ordering_then (path_cmp xs ys) (nat_cmp r s)
snoc_cmp [] [] r s e = then_equal (nat_cmp r s)
snoc_cmp [] (y ∷ ys) r s e = absurd (omega arith)
snoc_cmp (x ∷ xs) [] r s e = absurd (omega arith)
snoc_cmp (x ∷ xs) (y ∷ ys) r s e = ap (ordering_then (nat_cmp x y)) (snoc_cmp xs ys r s (omega arith))
    ∙ sym (then_assoc (nat_cmp x y) (path_cmp xs ys) (nat_cmp r s))

bytes_len : (k n : ℕ) → length (bytes_of k n) ≡ k
unfolding bytes_of
bytes_len zero n = refl
bytes_len (suc k) n = omega (arith, length-append (bytes_of k (n / 256)) (n % 256 ∷ []), bytes_len k (n / 256))

bytes_cmp : (k m n : ℕ) → m < 256 ^ k → n < 256 ^ k → path_cmp (bytes_of k m) (bytes_of k n) ≡ nat_cmp m n
unfolding bytes_of
bytes_cmp zero m n l u = let d : m ≡ 0 = omega arith in let e : n ≡ 0 = omega arith in rw (d, e) refl
bytes_cmp (suc k) m n l u =
    snoc_cmp (bytes_of k (m / 256)) (bytes_of k (n / 256)) (m % 256) (n % 256)
    (bytes_len k (m / 256) ∙ sym (bytes_len k (n / 256)))
    ∙ ap (λ (o : Ordering). ordering_then o (nat_cmp (m % 256) (n % 256)))
    (bytes_cmp k (m / 256) (n / 256) (omega arith) (omega arith))
    ∙ sym (digits_cmp m n)

pub words_cmp : (m n : ℕ) → m < 2 ^ 64 → n < 2 ^ 64 → nat_cmp m n ≡ path_cmp (to_be_bytes w64 m) (to_be_bytes w64 n)
words_cmp m n l u = sym (bytes_cmp 8 m n l u) ∙ ap (λ (xs : List ℕ). path_cmp xs (bytes_of 8 n)) (sym (be_bytes_are m))
    ∙ ap (path_cmp (to_be_bytes w64 m)) (sym (be_bytes_are n))
