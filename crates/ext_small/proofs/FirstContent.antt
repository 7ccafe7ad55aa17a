-- The first content of a signature, after extensions without it.
use Rattle.std.proofs.Common.{◌≡◌, ℕ, true, false, List, [], ◌∷◌, ◌++◌, Option, Some, None, refl}
use Rattle.index_extensions.specs.ExtensionValue.{has_signature, option_or, content_named, first_content}
use Rattle.index_extensions.specs.Walk.{Item, IsItem, AreItems, IsWalk}
use Rattle.index_extensions.proofs.Walks.{walk_of, more_items}

or_both : {A : Type 0} (o x y z : Option A) → option_or o x ≡ None → (x ≡ None → y ≡ z) → option_or o y ≡ z
or_both None x y z e f = f e
or_both (Some a) x y z e f = absurd cc

pub first_none : (name : List ℕ) (items : List Item) (i : Item) → first_content name items ≡ None
    → has_signature name i ≡ false → first_content name (items ++ i ∷ []) ≡ None
first_none name [] i e h = rw h refl
first_none name (x ∷ items) i e h = or_both (content_named name x) _ _ _ e (λ k. first_none name items i k h)

pub first_some : (name : List ℕ) (items : List Item) (i : Item) (others : List Item) → first_content name items ≡ None
    → has_signature name i ≡ true → first_content name (items ++ i ∷ others) ≡ Some i.content
first_some name [] i others e h = rw h refl
first_some name (x ∷ items) i others e h =
    or_both (content_named name x) _ _ _ e (λ k. first_some name items i others k h)

-- the traversal continues after the extension that is the first of its signature
pub found_item : (name bytes rest after : List ℕ) (items : List Item) (i : Item) → AreItems bytes items rest
    → first_content name items ≡ None → IsItem rest i after → has_signature name i ≡ true
    → (all : List Item) × (tail : List ℕ) × IsWalk bytes all tail × (first_content name all ≡ Some i.content)
found_item name bytes rest after items i h n k e =
    let w = walk_of after in (
      items ++ i ∷ w.0,
      w.1,
      record {
        items_are = more_items bytes rest items (i ∷ w.0) w.1 h (after, k, w.2.items_are);
        ended = w.2.ended;
      },
      first_some name items i w.0 n e,
    )
