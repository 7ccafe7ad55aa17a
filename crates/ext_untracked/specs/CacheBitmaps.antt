-- The bytes after the directory blocks of an untracked cache (gitformat-index, "Untracked cache"). They are three
-- bitmaps over the directories, the stats and ids of the directories that two of them contain, and one byte.
use Rattle.std.specs.Prelude.{◌≡◌, ℕ, ◌<◌, ◌≤◌, ◌==◌, List, [], ◌∷◌, ◌++◌, All, length, map, Option, Some, None, Ok}
use Rattle.std.specs.Prelude.{if◌then◌else◌}
use Rattle.std.specs.List.{concat, enumerate_from, list_any}
use Rattle.std.specs.Option.{option_map}
use Rattle.ext_bitmap.specs.Bitmap.{Bitmap, IsBitmap}
use Rattle.ext_bitmap.specs.Bits.{ListPlaces}
use Rattle.index_parts.specs.Id.{id_len, make_id}
use Rattle.index_parts.specs.declared.hash.Kind.{Kind}
use Rattle.ext_untracked.specs.Blocks.{DirectoryValue}
use Rattle.ext_untracked.specs.CachedStat.{cached_stat}

-- Bytes are a bitmap over `count` directories, and the rest. It has at most as many bits as there are directories. The
-- set bits have these positions, and each is the index of a directory.
pub record ListsBelow (count : ℕ) (bytes : List ℕ) (places : List ℕ) (rest : List ℕ) : Type 0 where
  pub bitmap : Bitmap
  pub is_bitmap : IsBitmap bytes bitmap rest
  pub few : bitmap.num_bits ≤ count
  pub listed : ListPlaces (map Ok places) bitmap.words
  pub below : All (λ place. place < count) places

-- the indices of the directories with a valid stat, of those that are only checked, and of those with a valid id
pub record DirectoryBitmaps : Type 0 where
  pub valid : List ℕ
  pub check_only : List ℕ
  pub hash_valid : List ℕ

-- bytes are the three bitmaps, and the rest
pub record AreBitmaps (count : ℕ) (bytes : List ℕ) (m : DirectoryBitmaps) (rest : List ℕ) : Type 0 where
  pub behind_valid : List ℕ
  pub behind_check_only : List ℕ
  pub is_valid : ListsBelow count bytes m.valid behind_valid
  pub is_check_only : ListsBelow count behind_valid m.check_only behind_check_only
  pub is_hash_valid : ListsBelow count behind_check_only m.hash_valid rest

-- bytes are `count` pieces of equal size, one after another, and the rest
pub record ArePieces (size count : ℕ) (bytes : List ℕ) (pieces : List (List ℕ)) (rest : List ℕ) : Type 0 where
  pub parts : bytes ≡ concat pieces ++ rest
  pub sizes : All (λ piece. length piece ≡ size) pieces
  pub number : length pieces ≡ count

-- the value of an index: the first value belongs to the first of the indices, the second to the second, and so on
abbrev pub value_at : {A : Type 0} → List ℕ → List A → ℕ → Option A
value_at [] values place = None
value_at (p ∷ places) [] place = None
value_at (p ∷ places) (x ∷ values) place = if p == place then Some x else value_at places values place

-- the directory at an index with what these bitmaps, stats and ids contain about it
abbrev pub with_bitmaps : Kind → DirectoryBitmaps → List (List ℕ) → List (List ℕ) → ℕ → DirectoryValue → DirectoryValue
with_bitmaps kind m stats ids place d = record d {
  stat = option_map cached_stat (value_at m.valid stats place);
  exclude = option_map (make_id kind) (value_at m.hash_valid ids place);
  check_only = list_any (λ p. p == place) m.check_only;
}

-- Bytes are those after the blocks of these bare directories. They are the three bitmaps, a stat for each position of
-- the first one, an id for each position of the third one, and one byte. With their values the directories are
-- `directories`.
--
-- In gitformat-index, the stats belong to the third bitmap too. Git writes and reads them by the first, and so do these
-- definitions.
pub record IsTail (kind : Kind) (bare : List DirectoryValue) (bytes : List ℕ) (directories : List DirectoryValue)
    : Type 0 where
  pub bitmaps : DirectoryBitmaps
  pub behind_bitmaps : List ℕ
  pub stats : List (List ℕ)
  pub behind_stats : List ℕ
  pub ids : List (List ℕ)
  pub last : ℕ
  pub are_bitmaps : AreBitmaps (length bare) bytes bitmaps behind_bitmaps
  pub are_stats : ArePieces 36 (length bitmaps.valid) behind_bitmaps stats behind_stats
  pub are_ids : ArePieces (id_len kind) (length bitmaps.hash_valid) behind_stats ids (last ∷ [])
  pub directories_are : directories ≡ map (λ x. with_bitmaps kind bitmaps stats ids x.0 x.1) (enumerate_from 0 bare)
