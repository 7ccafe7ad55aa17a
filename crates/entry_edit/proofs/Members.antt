-- Lists of records that strictly increase are equal if the same records are in them.
use Rattle.std.proofs.Common.{◌≡◌, ℕ, zero, suc, ◌<◌, ◌⊎◌, inl, inr, List, [], ◌∷◌, length, get_or, refl, sym, ap, ◌∙◌}
use Rattle.std.proofs.Common.{subst, arith}
use Rattle.std.specs.List.{Contains}
use Rattle.std.specs.declared.cmp.Ordering.TheVariants.{Less}
use Rattle.std.proofs.lemmas.Cmp.{tied_itself}
use Rattle.entry_list.specs.Order.{IsStrictlyOrdered, record_cmp}
use Rattle.entry_list.specs.Record.{Record}
use Rattle.entry_list.proofs.Orders.{records_total}
use Rattle.entry_lookup.proofs.Pairs.{contains_head, contains_tail, pairs_head, pairs_tail}

pub contains_cases : {X : Type 0} (x : X) (xs : List X) (z : X) → Contains (x ∷ xs) z → (x ≡ z) ⊎ Contains xs z
contains_cases {X} x xs z c = at c.0 c.1 c.2
  where
    at : (i : ℕ) → i < length (x ∷ xs) → get_or (x ∷ xs) i z ≡ z → (x ≡ z) ⊎ Contains xs z
    at zero l e = inl e
    at (suc i) l e = inr (i, omega (arith, l), e)

pub contains_none : {X : Type 0} (z : X) → Contains [] z → ⊥
contains_none z c = absurd (omega (arith, c.1))

abbrev Below : Record → Record → Type 0
Below r q = record_cmp r q ≡ Less

never : (r : Record) → Below r r → ⊥
never r h = let both = sym h ∙ tied_itself records_total r in cc

not_both : (r q : Record) → Below r q → Below q r → ⊥
not_both r q a b = never r (records_total.trans r q r a b)

-- each record of the one is in the other
abbrev pub AreIn : List Record → List Record → Type 0
AreIn xs ys = (r : Record) → Contains xs r → Contains ys r

-- the first ones are the same
heads : (x y : Record) (xs ys : List Record) → ((r : Record) → Contains xs r → Below x r)
    → ((r : Record) → Contains ys r → Below y r) → (y ≡ x) ⊎ Contains ys x → (x ≡ y) ⊎ Contains xs y → x ≡ y
heads x y xs ys a b (inl e) q = sym e
heads x y xs ys a b (inr c) (inl e) = e
heads x y xs ys a b (inr c) (inr d) = absurd (not_both x y (a y d) (b x c))

-- and so are all others
tails : (x y : Record) (xs ys : List Record) → x ≡ y → ((r : Record) → Contains xs r → Below x r)
    → AreIn (x ∷ xs) (y ∷ ys) → AreIn xs ys
tails x y xs ys e a h r c = by (contains_cases y ys r (h r (contains_tail x xs r c)))
  where
    by : (y ≡ r) ⊎ Contains ys r → Contains ys r
    by (inl f) = absurd (never x (subst (Below x) (sym (e ∙ f)) (a r c)))
    by (inr d) = d

pub same_members : (xs ys : List Record) → IsStrictlyOrdered xs → IsStrictlyOrdered ys → AreIn xs ys → AreIn ys xs
    → xs ≡ ys
same_members [] [] o p h k = refl
same_members [] (y ∷ ys) o p h k = absurd (contains_none y (k y (contains_head y ys)))
same_members (x ∷ xs) [] o p h k = absurd (contains_none x (h x (contains_head x xs)))
same_members (x ∷ xs) (y ∷ ys) o p h k =
    let a : (r : Record) → Contains xs r → Below x r = pairs_head Below x xs o.less in
    let b : (r : Record) → Contains ys r → Below y r = pairs_head Below y ys p.less in
    let e : x ≡ y = heads x y xs ys a b (contains_cases y ys x (h x (contains_head x xs)))
    (contains_cases x xs y (k y (contains_head y ys))) in
    let rest : xs ≡ ys = same_members xs ys (record { less = pairs_tail Below x xs o.less })
    (record { less = pairs_tail Below y ys p.less }) (tails x y xs ys e a h) (tails y x ys xs (sym e) b k) in
    ap (λ l. x ∷ l) rest ∙ ap (λ z. z ∷ ys) e
