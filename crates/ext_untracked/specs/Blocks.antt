-- The directory blocks of an untracked cache (gitformat-index, "Untracked cache") as plain data, nested in one another.
-- Also the bytes that encode them, and the list of their directories.
use Rattle.std.specs.Prelude.{◌≡◌, ℕ, ◌+◌, ◌*◌, ◌/◌, ◌≤◌, max, Bool, false, List, [], ◌∷◌, ◌++◌, length, map, Option}
use Rattle.std.specs.Prelude.{None}
use Rattle.bstr.specs.Owned.{bstring_bytes}
use Rattle.index_parts.specs.Numbers.{IsUpTo}
use Rattle.index_parts.specs.Offset.{IsOffset}
use Rattle.entry_fields.specs.declared.entry.stat.Stat.{Stat}
use Rattle.index_parts.specs.declared.hash.ObjectId.{ObjectId}
use Rattle.index_parts.specs.Limit.{IsWithin}
use Rattle.ext_untracked.specs.declared.Directory.{Directory}

mutual
  -- a directory: its name, the names of its untracked files and directories, and its subdirectories
  pub data Block : Type 0 where
    block : (name : List ℕ) (untracked : List (List ℕ)) (subs : Blocks) → Block

  pub data Blocks : Type 0 where
    none : Blocks
    more : (first : Block) (others : Blocks) → Blocks

abbrev pub how_many_blocks : Blocks → ℕ
how_many_blocks none = 0
how_many_blocks (more b bs) = how_many_blocks bs + 1

-- the head of a block: the number of untracked names, the number of subdirectories, and the name
pub record BlockHead : Type 0 where
  pub untracked : ℕ
  pub subs : ℕ
  pub name : List ℕ

-- The two numbers as offset numbers, the name up to a NUL, and the rest. Each number is at most half the number of
-- bytes in the rest. The untracked names, at 24 bytes each, and the subdirectories, at 8 bytes each, are within the
-- limit.
pub record IsBlockHead (limit : Option ℕ) (bytes : List ℕ) (h : BlockHead) (rest : List ℕ) : Type 0 where
  pub first : List ℕ
  pub second : List ℕ
  pub parts : bytes ≡ first ++ (second ++ (h.name ++ 0 ∷ rest))
  pub is_untracked : IsOffset first h.untracked
  pub is_subs : IsOffset second h.subs
  pub is_name : IsUpTo 0 (h.name ++ 0 ∷ rest) h.name rest
  pub room_for_untracked : h.untracked ≤ length rest / 2
  pub room_for_subs : h.subs ≤ length rest / 2
  pub untracked_within : IsWithin limit (24 * h.untracked)
  pub subs_within : IsWithin limit (8 * h.subs)

pub record HasBlockHead (limit : Option ℕ) (bytes : List ℕ) : Type 0 where
  pub head : BlockHead
  pub rest : List ℕ
  pub is_head : IsBlockHead limit bytes head rest

-- bytes are these names, each up to a NUL, one after another, and the rest
abbrev pub SpellNames : List ℕ → List (List ℕ) → List ℕ → Type 0
SpellNames bytes [] rest = bytes ≡ rest
SpellNames bytes (name ∷ names) rest = (after : List ℕ) × IsUpTo 0 bytes name after × SpellNames after names rest

abbrev mutual
  -- bytes are a block and the rest: the head is followed by the names and all nested blocks
  pub IsBlock : Option ℕ → List ℕ → Block → List ℕ → Type 0
  IsBlock limit bytes (block name untracked subs) rest =
      (names : List ℕ) × (nested : List ℕ)
      × IsBlockHead limit bytes
      (record { untracked = length untracked; subs = how_many_blocks subs; name = name }) names
      × SpellNames names untracked nested × AreBlocks limit nested subs rest

  -- bytes are these blocks, one after another, and the rest
  pub AreBlocks : Option ℕ → List ℕ → Blocks → List ℕ → Type 0
  AreBlocks limit bytes none rest = bytes ≡ rest
  AreBlocks limit bytes (more b bs) rest =
      (after : List ℕ) × IsBlock limit bytes b after × AreBlocks limit after bs rest

abbrev mutual
  -- the number of levels below a block
  pub block_depth : Block → ℕ
  block_depth (block name untracked subs) = blocks_depth subs

  pub blocks_depth : Blocks → ℕ
  blocks_depth none = 0
  blocks_depth (more b bs) = max (block_depth b + 1) (blocks_depth bs)

abbrev mutual
  -- the number of blocks, with all nested ones
  pub block_size : Block → ℕ
  block_size (block name untracked subs) = 1 + blocks_size subs

  pub blocks_size : Blocks → ℕ
  blocks_size none = 0
  blocks_size (more b bs) = block_size b + blocks_size bs

-- a directory of the list: its subdirectories by index, and what else is known of it
pub record DirectoryValue : Type 0 where
  pub name : List ℕ
  pub untracked : List (List ℕ)
  pub subs : List ℕ
  pub stat : Option Stat
  pub exclude : Option ObjectId
  pub check_only : Bool

abbrev pub directory_value : Directory → DirectoryValue
directory_value d = record {
  name = bstring_bytes d.name;
  untracked = map bstring_bytes d.untracked_entries.items;
  subs = d.sub_directories.items;
  stat = d.stat;
  exclude = d.exclude_file_oid;
  check_only = d.check_only;
}

-- a directory of which nothing else is known
abbrev pub bare_directory : List ℕ → List (List ℕ) → List ℕ → DirectoryValue
bare_directory name untracked subs =
    record { name = name; untracked = untracked; subs = subs; stat = None; exclude = None; check_only = false }

-- the indices of blocks, of which the first has this index, if a block's nested blocks follow it
abbrev pub places_from : ℕ → Blocks → List ℕ
places_from place none = []
places_from place (more b bs) = place ∷ places_from (place + block_size b) bs

abbrev mutual
  -- the directories of a block in preorder, of which the first has this index
  pub preorder_directories : ℕ → Block → List DirectoryValue
  preorder_directories place (block name untracked subs) =
      bare_directory name untracked (places_from (place + 1) subs) ∷ all_listed (place + 1) subs

  pub all_listed : ℕ → Blocks → List DirectoryValue
  all_listed place none = []
  all_listed place (more b bs) = preorder_directories place b ++ all_listed (place + block_size b) bs
