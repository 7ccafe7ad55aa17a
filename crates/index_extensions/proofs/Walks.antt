-- The traversal of extensions: all bytes have exactly one. What the steps of an iterator imply about it.
use Rattle.std.proofs.Common.{◌≡◌, ℕ, zero, suc, ◌+◌, ◌%◌, ◌^◌, ◌<◌, ◌≤◌, Bool, true, false, ltb, List, [], ◌∷◌, ◌++◌}
use Rattle.std.proofs.Common.{length, Option, Some, None, refl, sym, ap, subst, ◌∙◌, arith}
use Rattle.std.specs.Prelude.{MatchBool}
use Rattle.std.proofs.lemmas.Bool.{ltb-false}
use Rattle.index_extensions.specs.WalkSteps.{item_at}
use Rattle.index_extensions.specs.Walk.{Item, IsItem, AreItems, NoItem, IsWalk, left_of, Cursor, Steps}
use Rattle.index_extensions.proofs.Items.{item_takes, no_item, one_item, item_len, short_item}

-- ---- extensions one after another

pub more_items : (bytes middle : List ℕ) (xs ys : List Item) (tail : List ℕ) → AreItems bytes xs middle
    → AreItems middle ys tail → AreItems bytes (xs ++ ys) tail
more_items bytes middle [] ys tail h k = subst (λ (b : List ℕ). AreItems b ys tail) (sym h) k
more_items bytes middle (x ∷ xs) ys tail h k = (h.0, h.1, more_items h.0 middle xs ys tail h.2 k)

pub items_push : (bytes : List ℕ) (items : List Item) (i : Item) (middle rest : List ℕ) → AreItems bytes items middle
    → IsItem middle i rest → AreItems bytes (items ++ i ∷ []) rest
items_push bytes items i middle rest h e = more_items bytes middle items (i ∷ []) rest h (rest, e, refl)

pub no_empty : NoItem []
no_empty = short_item [] (omega arith)

-- ---- all bytes have a walk

abbrev pub HasWalk : List ℕ → Type 0
HasWalk bytes = (items : List Item) × (tail : List ℕ) × IsWalk bytes items tail

walk_by : (bytes : List ℕ) (o : Option (Item × List ℕ)) → item_at bytes ≡ o
    → ((rest : List ℕ) → length rest < length bytes → HasWalk rest) → HasWalk bytes
walk_by bytes None e more = ([], bytes, record { items_are = refl; ended = no_item bytes e })
walk_by bytes (Some x) e more =
    let h = item_takes bytes x e in
    let w = more x.1 (omega (arith, item_len bytes x.0 x.1 h)) in
    (x.0 ∷ w.0, w.1, record { items_are = (x.1, h, w.2.items_are); ended = w.2.ended })

walk_within : (n : ℕ) (bytes : List ℕ) → length bytes ≤ n → HasWalk bytes
walk_within zero bytes le = walk_by bytes (item_at bytes) refl (λ rest lt. absurd (omega arith))
walk_within (suc n) bytes le = walk_by bytes (item_at bytes) refl (λ rest lt. walk_within n rest (omega arith))

pub walk_of : (bytes : List ℕ) → HasWalk bytes
walk_of bytes = walk_within (length bytes) bytes (omega arith)

-- ---- and one alone

pub walk_one : (bytes : List ℕ) (xs ys : List Item) (r s : List ℕ) → IsWalk bytes xs r → IsWalk bytes ys s
    → (xs ≡ ys) × (r ≡ s)
walk_one bytes [] [] r s h k = (refl, sym h.items_are ∙ k.items_are)
walk_one bytes [] (y ∷ ys) r s h k =
    absurd (h.ended y k.items_are.0 (subst (λ (b : List ℕ). IsItem b y k.items_are.0) h.items_are k.items_are.1))
walk_one bytes (x ∷ xs) [] r s h k =
    absurd (k.ended x h.items_are.0 (subst (λ (b : List ℕ). IsItem b x h.items_are.0) k.items_are h.items_are.1))
walk_one bytes (x ∷ xs) (y ∷ ys) r s h k =
    let same = one_item bytes x y h.items_are.0 k.items_are.0 h.items_are.1 k.items_are.1 in
    let first : x ≡ y = ap (λ (p : Item × List ℕ). p.0) same in
    let after : h.items_are.0 ≡ k.items_are.0 = ap (λ (p : Item × List ℕ). p.1) same in
    let others = walk_one h.items_are.0 xs ys r s (record { items_are = h.items_are.2; ended = h.ended })
    (record { items_are = subst (λ (b : List ℕ). AreItems b ys s) (sym after) k.items_are.2; ended = k.ended }) in
    (rw (first, others.0) refl, others.1)

-- ---- the steps of an iterator over bytes that begin with items, of which so many were consumed

-- the extension that a step took
abbrev pub step_item : (x : List ℕ × List ℕ) (before after : Cursor) → Steps before (Some x) after → Item
step_item x before after h = record { signature = x.0; size = h.size; content = x.1 }

-- is one more
pub step_more : (bytes : List ℕ) (items : List Item) (x : List ℕ × List ℕ) (before after : Cursor)
    → AreItems bytes items before.rest → (h : Steps before (Some x) after)
    → AreItems bytes (items ++ step_item x before after h ∷ []) after.rest
step_more bytes items x before after are h =
    items_push bytes items (step_item x before after h) before.rest after.rest are h.is_item

-- and is counted
pub step_counts : (total : ℕ) (x : List ℕ × List ℕ) (before after : Cursor) → total < 2 ^ 64
    → before.consumed + length before.rest ≡ total → Steps before (Some x) after
    → after.consumed + length after.rest ≡ total
step_counts total x before after lt is h =
    omega (arith, item_len before.rest (step_item x before after h) after.rest h.is_item, h.counted)

-- a step that takes none ends the walk
pub step_ends : (bytes : List ℕ) (items : List Item) (before after : Cursor) → AreItems bytes items before.rest
    → Steps before None after → IsWalk bytes items before.rest
step_ends bytes items before after are h = record { items_are = are; ended = h.ended }

-- and what it leaves uncounted is what the tail leaves
pub step_leaves : (total : ℕ) (before after : Cursor) → total < 2 ^ 64 → before.consumed + length before.rest ≡ total
    → Steps before None after → after.consumed + left_of before.rest ≡ total
step_leaves total before after lt is h = by (ltb (length before.rest) 8) refl h.leaves
  where
    by : (b : Bool) → ltb (length before.rest) 8 ≡ b → MatchBool b ((after.rest ≡ before.rest)
        × (after.consumed ≡ before.consumed)) ((after.rest ≡ []) × (after.consumed ≡ (before.consumed + 8) % 2 ^ 64))
        → after.consumed + left_of before.rest ≡ total
    by true e k = rw e (omega (arith, k.1))
    by false e k = let long : 8 ≤ length before.rest = ltb-false _ _ e in rw e (omega (arith, k.1))
