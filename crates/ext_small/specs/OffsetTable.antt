-- The offset table (gitformat-index, "Index Entry Offset Table"): the offsets at which blocks of entries begin.
use Rattle.std.specs.Prelude.{◌≡◌, ◌≢◌, ℕ, ◌<◌, List, [], ◌∷◌, ◌++◌, length, codes, Option, None}
use Rattle.index_parts.specs.Numbers.{be}
use Rattle.index_parts.specs.Id.{id_len}
use Rattle.index_parts.specs.declared.hash.Kind.{Kind}
use Rattle.index_extensions.specs.ExtensionValue.{first_content, IsValue}
use Rattle.index_extensions.specs.Walk.{Item, IsWalk}
use Rattle.ext_small.specs.declared.index_entry_offset_table.Offset.{Offset}

-- bytes are an offset and a number of entries, four bytes each, and the rest
pub record IsEntryBlock (bytes : List ℕ) (o : Offset) (rest : List ℕ) : Type 0 where
  pub place : List ℕ
  pub count : List ℕ
  pub parts : bytes ≡ place ++ (count ++ rest)
  pub place_len : length place ≡ 4
  pub count_len : length count ≡ 4
  pub is_place : o.from_beginning_of_file ≡ be place
  pub is_count : o.num_entries ≡ be count

-- bytes are these blocks, one after another, and the rest
abbrev pub AreEntryBlocks : List ℕ → List Offset → List ℕ → Type 0
AreEntryBlocks bytes [] rest = bytes ≡ rest
AreEntryBlocks bytes (o ∷ blocks) rest =
    (after : List ℕ) × IsEntryBlock bytes o after × AreEntryBlocks after blocks rest

-- bytes are the version, 1, in four bytes, and one or more blocks
pub record IsTable (bytes : List ℕ) (blocks : List Offset) : Type 0 where
  pub version : List ℕ
  pub rest : List ℕ
  pub parts : bytes ≡ version ++ rest
  pub version_len : length version ≡ 4
  pub version_is : be version ≡ 1
  pub some : blocks ≢ []
  pub are_blocks : AreEntryBlocks rest blocks []

pub record HasTable (bytes : List ℕ) : Type 0 where
  pub blocks : List Offset
  pub is_table : IsTable bytes blocks

-- Bytes from the first extension to the end of a file contain the table in the first extension with the table's
-- signature. It is None if there is no such extension, if it is malformed, or if the bytes are fewer than the
-- trailer's.
pub data IsOffsetTable (kind : Kind) (bytes : List ℕ) (found : Option (List Offset)) : Type 0 where
  short : length bytes < id_len kind → found ≡ None → IsOffsetTable kind bytes found
  walked : (extensions trailer : List ℕ) (items : List Item) (tail : List ℕ) → bytes ≡ extensions ++ trailer
      → length trailer ≡ id_len kind → IsWalk extensions items tail
      → IsValue IsTable (first_content (codes "IEOT") items) found → IsOffsetTable kind bytes found
