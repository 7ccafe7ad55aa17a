-- Extensions, one after another (gitformat-index, "Extensions").
use Rattle.std.specs.Prelude.{◌≡◌, ℕ, ◌+◌, ◌-◌, ◌%◌, ◌^◌, nat_lt, List, [], ◌∷◌, ◌++◌, length, Option, Some, None}
use Rattle.std.specs.Prelude.{MatchBool, if◌then◌else◌}
use Rattle.index_parts.specs.Numbers.{be}
use Rattle.index_extensions.specs.declared.iter.Iter.{Iter}

-- an extension: its signature, the bytes that give its size, and its content
pub record Item : Type 0 where
  pub signature : List ℕ
  pub size : List ℕ
  pub content : List ℕ

-- bytes are a signature of four bytes, a size of four, as many bytes of content, and the rest
pub record IsItem (bytes : List ℕ) (i : Item) (rest : List ℕ) : Type 0 where
  pub parts : bytes ≡ i.signature ++ (i.size ++ (i.content ++ rest))
  pub signature_len : length i.signature ≡ 4
  pub size_len : length i.size ≡ 4
  pub content_len : length i.content ≡ be i.size

-- bytes are these extensions, one after another, and the tail
abbrev pub AreItems : List ℕ → List Item → List ℕ → Type 0
AreItems bytes [] tail = bytes ≡ tail
AreItems bytes (i ∷ items) tail = (after : List ℕ) × IsItem bytes i after × AreItems after items tail

-- bytes don't begin with a complete extension
abbrev pub NoItem : List ℕ → Type 0
NoItem bytes = (i : Item) (rest : List ℕ) → IsItem bytes i rest → ⊥

-- bytes are complete extensions, and a tail that doesn't begin with one
pub record IsWalk (bytes : List ℕ) (items : List Item) (tail : List ℕ) : Type 0 where
  pub items_are : AreItems bytes items tail
  pub ended : NoItem tail

-- The number of bytes of a tail that count as left. If a head's size exceeds the rest, its eight bytes count as
-- consumed.
abbrev pub left_of : List ℕ → ℕ
left_of tail = if nat_lt (length tail) 8 then length tail else length tail - 8

-- the bytes that an iterator hasn't read
abbrev pub unread : Iter → List ℕ
unread i = i.rest.now

-- the state of an iterator: the bytes that it hasn't read, and the number of bytes that it has consumed
pub record Cursor : Type 0 where
  pub rest : List ℕ
  pub consumed : ℕ

abbrev pub cursor : Iter → Cursor
cursor i = record { rest = unread i; consumed = i.consumed }

-- a step takes a complete extension, and counts its head and its content in 64 bits
pub record TakesItem (before : Cursor) (signature content : List ℕ) (after : Cursor) : Type 0 where
  pub size : List ℕ
  pub is_item : IsItem before.rest (record { signature = signature; size = size; content = content }) after.rest
  pub counted : after.consumed ≡ (before.consumed + 8 + length content) % 2 ^ 64

-- No complete extension follows. Fewer than eight bytes remain unread. A head that declares too much is counted, and
-- nothing remains after it.
pub record Stops (before after : Cursor) : Type 0 where
  pub ended : NoItem before.rest
  pub leaves : MatchBool (nat_lt (length before.rest) 8)
      ((after.rest ≡ before.rest) × (after.consumed ≡ before.consumed))
      ((after.rest ≡ []) × (after.consumed ≡ (before.consumed + 8) % 2 ^ 64))

-- The result of a step, and the state of the iterator after it. The result is an extension's signature and content, or
-- nothing.
abbrev pub Steps : Cursor → Option (List ℕ × List ℕ) → Cursor → Type 0
Steps before (Some x) after = TakesItem before x.0 x.1 after
Steps before None after = Stops before after
