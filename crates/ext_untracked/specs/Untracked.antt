-- The untracked cache (gitformat-index, "Untracked cache") as plain data, and the bytes that encode one.
use Rattle.std.specs.Prelude.{◌≡◌, ◌≢◌, ℕ, zero, suc, ◌*◌, ◌≤◌, List, [], ◌∷◌, ◌++◌, All, IfSome, length, map, Option}
use Rattle.std.specs.Prelude.{Some, None, if◌then◌else◌}
use Rattle.std.specs.List.{AllByRecursion}
use Rattle.bstr.specs.Owned.{bstring_bytes}
use Rattle.index_parts.specs.Numbers.{be}
use Rattle.index_parts.specs.Id.{id_len, id_kind, is_null, make_id}
use Rattle.index_parts.specs.Offset.{IsOffset}
use Rattle.index_parts.specs.declared.hash.Kind.{Kind}
use Rattle.ext_untracked.specs.Blocks.{Block, HasBlockHead, IsBlock, block_depth, block_size, DirectoryValue}
use Rattle.ext_untracked.specs.Blocks.{directory_value, preorder_directories}
use Rattle.index_parts.specs.Limit.{IsWithin}
use Rattle.ext_untracked.specs.CacheBitmaps.{IsTail}
use Rattle.ext_untracked.specs.CachedStat.{cached_stat}
use Rattle.ext_untracked.specs.declared.OidStat.{OidStat}
use Rattle.ext_untracked.specs.declared.UntrackedCache.{UntrackedCache}

-- a stat with an id, or None if all bytes of the id are zero
abbrev pub oid_stat : Kind → List ℕ → List ℕ → Option OidStat
oid_stat kind stat id = if is_null id then None else Some (record { stat = cached_stat stat; id = make_id kind id })

-- the fields of a cache before its directories
pub record Preamble : Type 0 where
  pub identifier : List ℕ
  pub info_exclude : Option OidStat
  pub excludes_file : Option OidStat
  pub dir_flags : ℕ
  pub exclude_filename : List ℕ

pub record Cache : Type 0 where
  pub preamble : Preamble
  pub directories : List DirectoryValue

abbrev pub cache_of : UntrackedCache → Cache
cache_of u = record {
  preamble = record {
    identifier = bstring_bytes u.identifier;
    info_exclude = u.info_exclude;
    excludes_file = u.excludes_file;
    dir_flags = u.dir_flags;
    exclude_filename = bstring_bytes u.exclude_filename_per_dir;
  };
  directories = map directory_value u.directories.items;
}

-- The length of the identifier, the identifier, and the stats of info/exclude and of the excludes file. Then the flags,
-- the ids of the two files, and the name of the exclude files up to a NUL; and the rest.
pub record IsPreamble (kind : Kind) (bytes : List ℕ) (f : Preamble) (rest : List ℕ) : Type 0 where
  pub len : List ℕ
  pub info : List ℕ
  pub excludes : List ℕ
  pub flags : List ℕ
  pub info_id : List ℕ
  pub excludes_id : List ℕ
  pub parts : bytes ≡ len ++
      (f.identifier ++
      (info ++ (excludes ++ (flags ++ (info_id ++ (excludes_id ++ (f.exclude_filename ++ 0 ∷ rest)))))))
  pub is_len : IsOffset len (length f.identifier)
  pub info_len : length info ≡ 36
  pub excludes_len : length excludes ≡ 36
  pub flags_len : length flags ≡ 4
  pub info_id_len : length info_id ≡ id_len kind
  pub excludes_id_len : length excludes_id ≡ id_len kind
  pub info_is : f.info_exclude ≡ oid_stat kind info info_id
  pub excludes_is : f.excludes_file ≡ oid_stat kind excludes excludes_id
  pub flags_are : f.dir_flags ≡ be flags
  pub name_apart : All (λ b. b ≢ 0) f.exclude_filename

-- Bytes are one block with everything in it, and the bytes after blocks. There are `count` blocks in all, at most 2048
-- levels deep.
pub record IsNest (kind : Kind) (limit : Option ℕ) (count : ℕ) (bytes : List ℕ) (directories : List DirectoryValue)
    : Type 0 where
  pub root : Block
  pub rest : List ℕ
  pub is_root : IsBlock limit bytes root rest
  pub shallow : block_depth root ≤ 2048
  pub size : block_size root ≡ count
  pub is_tail : IsTail kind (preorder_directories 0 root) rest directories

-- Bytes are `count` directories. If there are none, nothing follows their number. In gitformat-index, a NUL follows it.
-- Git writes none, and reads the number itself, a 0, as the last byte, and so do these definitions.
abbrev pub AreDirectories : Kind → Option ℕ → ℕ → List ℕ → List DirectoryValue → Type 0
AreDirectories kind limit zero bytes directories = (bytes ≡ []) × (directories ≡ [])
AreDirectories kind limit (suc n) bytes directories = IsNest kind limit (suc n) bytes directories

-- Bytes are a cache: the fields before the directories, the number of directories, and the directories. At least one
-- byte for each directory follows their number. At 152 bytes each they are within the limit. The last byte is 0.
pub record IsCache (kind : Kind) (limit : Option ℕ) (bytes : List ℕ) (c : Cache) : Type 0 where
  pub rest : List ℕ
  pub number : List ℕ
  pub blocks : List ℕ
  pub count : ℕ
  pub before : List ℕ
  pub is_preamble : IsPreamble kind bytes c.preamble rest
  pub parts : rest ≡ number ++ blocks
  pub is_number : IsOffset number count
  pub room : count ≤ length blocks
  pub within : IsWithin limit (152 * count)
  pub are_directories : AreDirectories kind limit count blocks c.directories
  pub last : bytes ≡ before ++ 0 ∷ []

-- the head of the first block, if directories are declared; otherwise nothing follows their number
abbrev pub HasFirstHead : Option ℕ → ℕ → List ℕ → Type 0
HasFirstHead limit zero bytes = bytes ≡ []
HasFirstHead limit (suc n) bytes = HasBlockHead limit bytes

-- Bytes are the fields before the directories, the number of directories, within the limits, and the head of the first
-- block, if there is one.
pub record HasStart (kind : Kind) (limit : Option ℕ) (bytes : List ℕ) : Type 0 where
  pub preamble : Preamble
  pub rest : List ℕ
  pub number : List ℕ
  pub blocks : List ℕ
  pub count : ℕ
  pub before : List ℕ
  pub is_preamble : IsPreamble kind bytes preamble rest
  pub parts : rest ≡ number ++ blocks
  pub is_number : IsOffset number count
  pub room : count ≤ length blocks
  pub within : IsWithin limit (152 * count)
  pub has_first : HasFirstHead limit count blocks
  pub last : bytes ≡ before ++ 0 ∷ []

-- all ids in a cache are of this hash algorithm
pub record CacheIdsAreOf (kind : Kind) (c : Cache) : Type 0 where
  pub info : IfSome c.preamble.info_exclude (λ x. id_kind x.id ≡ kind)
  pub excludes : IfSome c.preamble.excludes_file (λ x. id_kind x.id ≡ kind)
  pub directories : AllByRecursion (λ d. IfSome d.exclude (λ id. id_kind id ≡ kind)) c.directories
