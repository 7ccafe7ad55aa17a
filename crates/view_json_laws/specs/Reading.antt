-- Whether a text is a JSON text (RFC 8259, section 2), by the kit's grammar: `tokens` and `value` of its crate `json`.
-- They are independent of any printer. That crate's `document` allows at most 128 levels; here any depth is allowed.
use Rattle.std.specs.Prelude.{◌≡◌, ℕ, ◌<◌, ◌^◌, List, [], All, Some, decimal}
use Rattle.hex.specs.Hex.{encode_lower}
use Rattle.json.specs.Json as grammar
use Rattle.json.specs.Json.{Json, value}
use Rattle.json.specs.Lex.{tokens}
use Rattle.view_json_laws.specs.Value.{Items, Members, Value, array, boolean, digits, item, member, no_items}
use Rattle.view_json_laws.specs.Value.{no_members, null, number, object, string}

-- The tokens of the text are those of exactly one value, for some depth of nesting.
abbrev pub IsJson : List ℕ → Json → Type 0
IsJson text j = (levels : ℕ) × (value levels (tokens text) ≡ Some (j, []))

-- The value in the grammar, in which a number is its digits.
abbrev mutual
  pub json_of : Value → Json
  json_of null = grammar.null
  json_of (boolean holds) = grammar.boolean holds
  json_of (number n) = grammar.number (decimal n)
  json_of (string s) = grammar.string s
  json_of (digits bytes) = grammar.string (encode_lower bytes)
  json_of (array xs) = grammar.array (json_items xs)
  json_of (object ms) = grammar.object (json_members ms)

  pub json_items : Items → grammar.Items
  json_items no_items = grammar.no_items
  json_items (item x xs) = grammar.item (json_of x) (json_items xs)

  pub json_members : Members → grammar.Members
  json_members no_members = grammar.no_members
  json_members (member name x ms) = grammar.member name (json_of x) (json_members ms)

-- Each number has at most 64 bits, and each element of `digits` is a byte.
abbrev mutual
  pub FitsWords : Value → Type 0
  FitsWords null = Unit {0}
  FitsWords (boolean holds) = Unit {0}
  FitsWords (number n) = n < 2 ^ 64
  FitsWords (string s) = Unit {0}
  FitsWords (digits bytes) = All (λ b. b < 256) bytes
  FitsWords (array xs) = ItemsFitWords xs
  FitsWords (object ms) = MembersFitWords ms

  pub ItemsFitWords : Items → Type 0
  ItemsFitWords no_items = Unit {0}
  ItemsFitWords (item x xs) = FitsWords x × ItemsFitWords xs

  pub MembersFitWords : Members → Type 0
  MembersFitWords no_members = Unit {0}
  MembersFitWords (member name x ms) = FitsWords x × MembersFitWords ms
