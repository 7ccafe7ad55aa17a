-- The contents of extensions, if one more follows others.
use Rattle.std.proofs.Common.{◌≡◌, ℕ, List, [], ◌∷◌, ◌++◌, Option, Some, None, refl, sym, ap, ◌∙◌}
use Rattle.index_extensions.specs.ExtensionValue.{content_named, first_content, last_content, option_or}
use Rattle.index_extensions.specs.Walk.{Item}

else_assoc : {A : Type 0} (x y z : Option A) → option_or (option_or x y) z ≡ option_or x (option_or y z)
else_assoc None y z = refl
else_assoc (Some x) y z = refl

else_none : {A : Type 0} (x : Option A) → option_or x None ≡ x
else_none None = refl
else_none (Some x) = refl

pub first_more : (signature : List ℕ) (items : List Item) (i : Item)
    → first_content signature (items ++ i ∷ []) ≡ option_or (first_content signature items) (content_named signature i)
first_more signature [] i = else_none (content_named signature i)
first_more signature (x ∷ items) i =
    ap (option_or (content_named signature x)) (first_more signature items i)
    ∙ sym (else_assoc (content_named signature x) (first_content signature items) (content_named signature i))

pub last_more : (signature : List ℕ) (items : List Item) (i : Item)
    → last_content signature (items ++ i ∷ []) ≡ option_or (content_named signature i) (last_content signature items)
last_more signature [] i = sym (else_none (content_named signature i))
last_more signature (x ∷ items) i =
    ap (λ (o : Option (List ℕ)). option_or o (content_named signature x)) (last_more signature items i)
    ∙ else_assoc (content_named signature i) (last_content signature items) (content_named signature x)

-- the first content of a signature, after one more extension was examined
pub first_step : (signature : List ℕ) (items : List Item) (i : Item) (old own new : Option (List ℕ))
    → old ≡ first_content signature items → own ≡ content_named signature i → new ≡ option_or old own
    → new ≡ first_content signature (items ++ i ∷ [])
first_step signature items i old own new a b e =
    e ∙ ap (λ (o : Option (List ℕ)). option_or o own) a ∙ ap (option_or (first_content signature items)) b
    ∙ sym (first_more signature items i)

pub last_step : (signature : List ℕ) (items : List Item) (i : Item) (old own new : Option (List ℕ))
    → old ≡ last_content signature items → own ≡ content_named signature i → new ≡ option_or own old
    → new ≡ last_content signature (items ++ i ∷ [])
last_step signature items i old own new a b e =
    e ∙ ap (option_or own) a ∙ ap (λ (o : Option (List ℕ)). option_or o (last_content signature items)) b
    ∙ sym (last_more signature items i)
