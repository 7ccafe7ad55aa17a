-- The first bytes of paths, and their comparison with a prefix.
use Rattle.std.proofs.Common.{◌≡◌, ◌≢◌, ℕ, zero, suc, List, [], ◌∷◌, ◌++◌, length, take, drop, refl, ap, ◌∙◌}
use Rattle.std.specs.Ordering.{nat_cmp, ordering_then, is_lt}
use Rattle.std.specs.declared.cmp.Ordering.{Ordering}
use Rattle.std.specs.declared.cmp.Ordering.TheVariants.{Less, Equal, Greater}
use Rattle.std.specs.Cmp.Lexicographic.{slice_cmp}
use Rattle.base_search.specs.Prefix.{prefix_cmp}

then_assoc : (a b c : Ordering) → ordering_then a (ordering_then b c) ≡ ordering_then (ordering_then a b) c
then_assoc Less b c = refl
then_assoc Equal b c = refl
then_assoc Greater b c = refl

-- a prefix in two pieces is compared piece by piece
pub prefix_in_pieces : (path prefix tail : List ℕ) → prefix_cmp (prefix ++ tail) path ≡ ordering_then
    (slice_cmp nat_cmp (take (length prefix) path) prefix) (slice_cmp nat_cmp (take (length tail) (drop (length prefix) path)) tail)
prefix_in_pieces path [] tail = refl
prefix_in_pieces [] (a ∷ prefix) tail = refl
prefix_in_pieces (b ∷ path) (a ∷ prefix) tail =
    ap (ordering_then (nat_cmp b a)) (prefix_in_pieces path prefix tail) ∙ then_assoc (nat_cmp b a) _ _

-- ---- what is below a prefix is so by its front

then_below : (a b c : Ordering) → is_lt b ≡ is_lt c → is_lt (ordering_then a b) ≡ is_lt (ordering_then a c)
then_below Less b c h = refl
then_below Equal b c h = h
then_below Greater b c h = refl

pub below_by_prefix : (path prefix : List ℕ) → is_lt (slice_cmp nat_cmp path prefix) ≡ is_lt (prefix_cmp prefix path)
below_by_prefix [] [] = refl
below_by_prefix (b ∷ path) [] = refl
below_by_prefix [] (a ∷ prefix) = refl
below_by_prefix (b ∷ path) (a ∷ prefix) = then_below (nat_cmp b a) _ _ (below_by_prefix path prefix)

-- ---- fronts of paths that don't fall don't fall

then_up : (o p q : Ordering) → ordering_then o p ≢ Greater → (p ≢ Greater → q ≢ Greater) → ordering_then o q ≢ Greater
then_up Less p q h f e = cc
then_up Equal p q h f e = f h e
then_up Greater p q h f e = h refl

pub prefixes_rise : (n : ℕ) (x y : List ℕ) → slice_cmp nat_cmp x y ≢ Greater → slice_cmp nat_cmp (take n x) (take n y) ≢ Greater
prefixes_rise zero x y h e = cc
prefixes_rise (suc n) [] [] h e = h e
prefixes_rise (suc n) [] (b ∷ y) h e = cc
prefixes_rise (suc n) (a ∷ x) [] h e = h e
prefixes_rise (suc n) (a ∷ x) (b ∷ y) h e =
    then_up (nat_cmp a b) (slice_cmp nat_cmp x y) (slice_cmp nat_cmp (take n x) (take n y)) h (prefixes_rise n x y) e
