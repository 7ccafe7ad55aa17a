-- Extensions by their signature, and the value that the content of one encodes (gitformat-index, "Extensions").
use Rattle.std.specs.Prelude.{◌≡◌, ℕ, nat_eq, Bool, List, [], ◌∷◌, Option, Some, None, if◌then◌else◌}
use Rattle.std.specs.Cmp.Lexicographic.{pointwise}
use Rattle.index_extensions.specs.Walk.{Item}

abbrev pub has_signature : List ℕ → Item → Bool
has_signature signature i = pointwise nat_eq i.signature signature

abbrev pub option_or : {A : Type 0} → Option A → Option A → Option A
option_or None y = y
option_or (Some x) y = Some x

-- the content of the item, if it has the signature
abbrev pub content_named : List ℕ → Item → Option (List ℕ)
content_named signature i = if has_signature signature i then Some i.content else None

-- the content of the first item with the signature
abbrev pub first_content : List ℕ → List Item → Option (List ℕ)
first_content signature [] = None
first_content signature (i ∷ items) = option_or (content_named signature i) (first_content signature items)

-- the content of the last item with the signature
abbrev pub last_content : List ℕ → List Item → Option (List ℕ)
last_content signature [] = None
last_content signature (i ∷ items) = option_or (last_content signature items) (content_named signature i)

-- the value that bytes encode, or None if they encode none
abbrev pub IsRead : {A : Type 0} → (List ℕ → A → Type 0) → List ℕ → Option A → Type 0
IsRead {A} Is bytes (Some x) = Is bytes x
IsRead {A} Is bytes None = (x : A) → Is bytes x → ⊥

-- the value of a content, or None if there is no content or it encodes none
abbrev pub IsValue : {A : Type 0} → (List ℕ → A → Type 0) → Option (List ℕ) → Option A → Type 0
IsValue Is (Some content) value = IsRead Is content value
IsValue Is None value = value ≡ None
