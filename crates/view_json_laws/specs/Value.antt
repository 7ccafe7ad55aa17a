-- JSON values, and the text of each without whitespace (RFC 8259, sections 3 to 7). The kit's `quoted` escapes a
-- string.
use Rattle.std.specs.Prelude.{ℕ, Bool, List, [], ◌∷◌, ◌++◌, codes, decimal, if◌then◌else◌}
use Rattle.hex.specs.Hex.{encode_lower}
use Rattle.json.specs.Print.{quoted}

mutual
  pub data Value : Type 0 where
    null : Value
    boolean : Bool → Value
    number : ℕ → Value
    -- a string of these bytes in UTF-8
    string : List ℕ → Value
    -- a string of the digits of these bytes in base 16
    digits : List ℕ → Value
    array : Items → Value
    object : Members → Value

  pub data Items : Type 0 where
    no_items : Items
    item : Value → Items → Items

  pub data Members : Type 0 where
    no_members : Members
    member : (name : List ℕ) → Value → Members → Members

abbrev mutual
  pub spelling : Value → List ℕ
  spelling null = codes "null"
  spelling (boolean holds) = if holds then codes "true" else codes "false"
  spelling (number n) = decimal n
  spelling (string s) = quoted s
  spelling (digits bytes) = codes "\"" ++ encode_lower bytes ++ codes "\""
  spelling (array xs) = codes "[" ++ items_spelling [] xs ++ codes "]"
  spelling (object ms) = codes "{" ++ members_spelling [] ms ++ codes "}"

  -- The text of items. `before` precedes the first one, and a comma each other.
  pub items_spelling : List ℕ → Items → List ℕ
  items_spelling before no_items = []
  items_spelling before (item x xs) = before ++ spelling x ++ items_spelling (codes ",") xs

  -- The text of members, each with its name as a string, and a colon. `before` precedes the first one, and a comma each
  -- other.
  pub members_spelling : List ℕ → Members → List ℕ
  members_spelling before no_members = []
  members_spelling before (member name x ms) =
      before ++ quoted name ++ codes ":" ++ spelling x ++ members_spelling (codes ",") ms

-- The values of a list.
abbrev pub items_of : {X : Type 0} → (X → Value) → List X → Items
items_of value [] = no_items
items_of value (x ∷ xs) = item (value x) (items_of value xs)
