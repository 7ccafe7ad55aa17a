-- The comparison of the first bytes of two names, word by word, and of their lengths.
use Rattle.std.proofs.Common.{◌≡◌, ℕ, zero, suc, ◌+◌, ◌-◌, ◌<◌, ◌≤◌, ◌⊎◌, inl, inr, Bool, true, false, min, List, []}
use Rattle.std.proofs.Common.{◌∷◌, ◌++◌, length, map, take, drop, refl, sym, ap, ◌∙◌, arith, length-drop}
use Rattle.std.specs.Char.{to_ascii_lowercase}
use Rattle.std.specs.Ordering.{nat_cmp, ordering_then, is_ne}
use Rattle.std.specs.declared.cmp.Ordering.{Ordering}
use Rattle.std.specs.declared.cmp.Ordering.TheVariants.{Less, Equal, Greater}
use Rattle.std.proofs.Math.Seq.{take-add}
use Rattle.std.proofs.lemmas.Bool.{cases_lt}
use Rattle.std.proofs.lemmas.Bool.Decides.{nat_tests}
use Rattle.std.proofs.lemmas.List.{length-map, take-take, take-map}
use Rattle.entry_list.specs.Order.{path_cmp}
use Rattle.entry_list.proofs.Orders.{same_path}
use Rattle.entry_lookup.specs.Folded.{folded}
use Rattle.entry_lookup.specs.NameSteps.{common_cmp}

front_none : (xs ys : List ℕ) → length ys ≡ 0 → common_cmp xs ys ≡ Equal
front_none [] ys e = refl
front_none (x ∷ xs) [] e = refl
front_none (x ∷ xs) (y ∷ ys) e = absurd (omega arith)

pub front_folded_none : (xs ys : List ℕ) → length ys ≡ 0 → common_cmp xs (folded true ys) ≡ Equal
front_folded_none xs ys e = front_none xs (folded true ys) (length-map ys to_ascii_lowercase ∙ e)

front_first : (xs ys : List ℕ) → length xs ≡ 0 → common_cmp xs ys ≡ Equal
front_first [] ys e = refl
front_first (x ∷ xs) ys e = absurd (omega arith)

then_equal : (o p : Ordering) → p ≡ Equal → ordering_then o p ≡ o
then_equal Less p e = refl
then_equal Equal p e = e
then_equal Greater p e = refl

pub then_assoc : (o p q : Ordering) → ordering_then (ordering_then o p) q ≡ ordering_then o (ordering_then p q)
then_assoc Less p q = refl
then_assoc Equal p q = refl
then_assoc Greater p q = refl

-- a front of both that is within both decides first
front_then : (k : ℕ) (xs ys : List ℕ) → k ≤ length xs → k ≤ length ys
    → common_cmp xs ys ≡ ordering_then (path_cmp (take k xs) (take k ys)) (common_cmp (drop k xs) (drop k ys))
front_then zero xs ys l u = refl
front_then (suc k) [] ys l u = absurd (omega arith)
front_then (suc k) (x ∷ xs) [] l u = absurd (omega arith)
front_then (suc k) (x ∷ xs) (y ∷ ys) l u =
    ap (ordering_then (nat_cmp x y)) (front_then k xs ys (omega arith) (omega arith))
    ∙ sym (then_assoc (nat_cmp x y) (path_cmp (take k xs) (take k ys)) (common_cmp (drop k xs) (drop k ys)))

-- what both begin with alike decides nothing
front_behind : (k : ℕ) (xs ys : List ℕ) → k ≤ length xs → k ≤ length ys → take k xs ≡ take k ys
    → common_cmp xs ys ≡ common_cmp (drop k xs) (drop k ys)
front_behind k xs ys l u e = front_then k xs ys l u ∙ ap
    (λ (o : Ordering). ordering_then o (common_cmp (drop k xs) (drop k ys))) ((same_path (take k xs) (take k ys)).1 e)

pub nat_below : (m n : ℕ) → m < n → nat_cmp m n ≡ Less
nat_below m n l = grind (arith, nat_tests, l)

pub nat_above : (m n : ℕ) → n < m → nat_cmp m n ≡ Greater
nat_above m n l = grind (arith, nat_tests, l)

pub nat_suc : (m n : ℕ) → nat_cmp (suc m) (suc n) ≡ nat_cmp m n
nat_suc m n = grind (arith, nat_tests)

-- the lengths decide last
pub path_by_front : (xs ys : List ℕ)
    → path_cmp xs ys ≡ ordering_then (common_cmp xs ys) (nat_cmp (length xs) (length ys))
path_by_front [] [] = refl
path_by_front [] (y ∷ ys) = sym (nat_below 0 (suc (length ys)) (omega arith))
path_by_front (x ∷ xs) [] = sym (nat_above (suc (length xs)) 0 (omega arith))
path_by_front (x ∷ xs) (y ∷ ys) =
    ap (ordering_then (nat_cmp x y)) (path_by_front xs ys)
    ∙ sym (then_assoc (nat_cmp x y) (common_cmp xs ys) (nat_cmp (length xs) (length ys)))
    ∙ ap (ordering_then (ordering_then (nat_cmp x y) (common_cmp xs ys))) (sym (nat_suc (length xs) (length ys)))

-- the front that both have decides as the names' fronts do
pub front_of_both : (n : ℕ) (xs ys : List ℕ) → n ≡ min (length xs) (length ys)
    → path_cmp (take n xs) (take n ys) ≡ common_cmp xs ys
front_of_both n xs ys e = sym (front_then n xs ys (omega arith) (omega arith) ∙ then_equal
    (path_cmp (take n xs) (take n ys)) (common_cmp (drop n xs) (drop n ys)) (by (cases_lt (length xs) (length ys))))
  where
    by : (length xs < length ys) ⊎ (length ys ≤ length xs) → common_cmp (drop n xs) (drop n ys) ≡ Equal
    by (inl l) = front_first (drop n xs) (drop n ys) (omega (arith, length-drop n xs))
    by (inr l) = front_none (drop n xs) (drop n ys) (omega (arith, length-drop n ys))

-- ---- a word further

other_decides : (o p : Ordering) → is_ne o ≡ true → ordering_then o p ≡ o
other_decides Less p e = refl
other_decides Equal p e = cc
other_decides Greater p e = refl

is_equal : (o : Ordering) → is_ne o ≡ false → o ≡ Equal
is_equal Less e = cc
is_equal Equal e = refl
is_equal Greater e = cc

drop_map : (f : ℕ → ℕ) (k : ℕ) (xs : List ℕ) → map f (drop k xs) ≡ drop k (map f xs)
drop_map f zero xs = refl
drop_map f (suc k) [] = refl
drop_map f (suc k) (x ∷ xs) = drop_map f k xs

word_folded : (k : ℕ) (xs : List ℕ) → folded true (take 8 (drop k xs)) ≡ take 8 (drop k (folded true xs))
word_folded k xs = sym (take-map to_ascii_lowercase 8 (drop k xs)) ∙ ap (take 8) (drop_map to_ascii_lowercase k xs)

module _ (a b : List ℕ) (at : ℕ) (o : Ordering) (a_long : at + 8 ≤ length a) (b_long : at + 8 ≤ length b)
    (is : o ≡ path_cmp (folded true (take 8 (drop at a))) (folded true (take 8 (drop at b))))
    (same : take at (folded true a) ≡ take at (folded true b)) where
  abbrev xs : List ℕ
  xs = drop at (folded true a)

  abbrev ys : List ℕ
  ys = drop at (folded true b)

  xs_long : length xs ≡ length a - at
  xs_long = omega (arith, length-drop at (folded true a), length-map a to_ascii_lowercase)

  ys_long : length ys ≡ length b - at
  ys_long = omega (arith, length-drop at (folded true b), length-map b to_ascii_lowercase)

  word_is : o ≡ path_cmp (take 8 xs) (take 8 ys)
  word_is = is ∙ ap (λ (zs : List ℕ). path_cmp zs (folded true (take 8 (drop at b)))) (word_folded at a)
      ∙ ap (path_cmp (take 8 xs)) (word_folded at b)

  front_is : common_cmp (folded true a) (folded true b) ≡ ordering_then o (common_cmp (drop 8 xs) (drop 8 ys))
  front_is =
      front_behind at (folded true a) (folded true b) (omega (arith, length-map a to_ascii_lowercase))
      (omega (arith, length-map b to_ascii_lowercase)) same
      ∙ front_then 8 xs ys (omega (arith, xs_long)) (omega (arith, ys_long))
      ∙ ap (λ (p : Ordering). ordering_then p (common_cmp (drop 8 xs) (drop 8 ys))) (sym word_is)

  pub word_decides : is_ne o ≡ true → o ≡ common_cmp (folded true a) (folded true b)
  word_decides e = sym (front_is ∙ other_decides o (common_cmp (drop 8 xs) (drop 8 ys)) e)

  pub word_same : is_ne o ≡ false → take (at + 8) (folded true a) ≡ take (at + 8) (folded true b)
  word_same e =
      let alike : take 8 xs ≡ take 8 ys = (same_path (take 8 xs) (take 8 ys)).0 (sym word_is ∙ is_equal o e) in
      take-add at 8 (folded true a) ∙ ap (λ (zs : List ℕ). zs ++ take 8 xs) same
      ∙ ap (λ (zs : List ℕ). take at (folded true b) ++ zs) alike ∙ sym (take-add at 8 (folded true b))

  pub last_decides : at + 8 ≡ min (length a) (length b) → o ≡ common_cmp (folded true a) (folded true b)
  last_decides e =
      sym (front_is ∙ then_equal o (common_cmp (drop 8 xs) (drop 8 ys)) (by (cases_lt (length a) (length b))))
    where
      by : (length a < length b) ⊎ (length b ≤ length a) → common_cmp (drop 8 xs) (drop 8 ys) ≡ Equal
      by (inl l) = front_first (drop 8 xs) (drop 8 ys) (omega (arith, length-drop 8 xs, xs_long))
      by (inr l) = front_none (drop 8 xs) (drop 8 ys) (omega (arith, length-drop 8 ys, ys_long))

-- what both begin with alike is so of less of it
pub same_front : (m n : ℕ) (xs ys : List ℕ) → m ≤ n → take n xs ≡ take n ys → take m xs ≡ take m ys
same_front m n xs ys l e = sym (take-take m n xs l) ∙ ap (take m) e ∙ take-take m n ys l

pub folded_len : (ignore_case : Bool) (xs : List ℕ) → length (folded ignore_case xs) ≡ length xs
folded_len true xs = length-map xs to_ascii_lowercase
folded_len false xs = refl
