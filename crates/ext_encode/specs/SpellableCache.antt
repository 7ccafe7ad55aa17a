-- The condition under which the bytes that are written for an untracked cache are read as that cache (gitformat-index,
-- "Untracked cache").
use Rattle.std.specs.Prelude.{◌≡◌, ◌≢◌, ℕ, ◌*◌, ◌^◌, ◌<◌, ◌≤◌, ◌==◌, Bool, false, not, List, [], ◌∷◌, All, IfSome, length, map}
use Rattle.std.specs.Prelude.{Option}
use Rattle.std.specs.List.{AllByRecursion, list_all}
use Rattle.entry_fields.specs.declared.entry.stat.Stat.{Stat}
use Rattle.index_parts.specs.Id.{id_bytes, id_kind, id_len, is_null}
use Rattle.index_parts.specs.Limit.{IsWithin}
use Rattle.index_parts.specs.declared.hash.Kind.{Kind}
use Rattle.index_parts.specs.declared.hash.ObjectId.{ObjectId}
use Rattle.ext_untracked.specs.Blocks.{Block, block_depth, DirectoryValue, bare_directory, preorder_directories}
use Rattle.ext_untracked.specs.Untracked.{Cache, Preamble}
use Rattle.ext_untracked.specs.declared.OidStat.{OidStat}

-- each number fits into four bytes
pub record IsSpellableStat (s : Stat) : Type 0 where
  pub ctime_secs : s.ctime.secs < 2 ^ 32
  pub ctime_nsecs : s.ctime.nsecs < 2 ^ 32
  pub mtime_secs : s.mtime.secs < 2 ^ 32
  pub mtime_nsecs : s.mtime.nsecs < 2 ^ 32
  pub dev : s.dev < 2 ^ 32
  pub ino : s.ino < 2 ^ 32
  pub uid : s.uid < 2 ^ 32
  pub gid : s.gid < 2 ^ 32
  pub size : s.size < 2 ^ 32

-- an id of the hash algorithm with its number of bytes
pub record IsIdOf (kind : Kind) (id : ObjectId) : Type 0 where
  pub id_is : id_kind id ≡ kind
  pub size : length (id_bytes id) ≡ id_len kind

-- a file of exclude patterns whose id isn't null
pub record IsSpellableFile (kind : Kind) (file : OidStat) : Type 0 where
  pub stat : IsSpellableStat file.stat
  pub id : IsIdOf kind file.id
  pub some : is_null (id_bytes file.id) ≡ false

-- numbers that fit into their bytes, and a name of the exclude files without a NUL
pub record IsSpellablePreamble (kind : Kind) (p : Preamble) : Type 0 where
  pub identifier : length p.identifier < 2 ^ 64
  pub info : IfSome p.info_exclude (IsSpellableFile kind)
  pub excludes : IfSome p.excludes_file (IsSpellableFile kind)
  pub flags : p.dir_flags < 2 ^ 32
  pub name : All (λ b. b ≢ 0) p.exclude_filename

-- a name that isn't empty and contains no NUL
pub record IsName (name : List ℕ) : Type 0 where
  pub some : 1 ≤ length name
  pub apart : All (λ b. b ≢ 0) name

-- the name of a directory contains no NUL, each untracked name is valid, and its counts are within the limit
pub record IsSpellableBlock (limit : Option ℕ) (d : DirectoryValue) : Type 0 where
  pub name : All (λ b. b ≢ 0) d.name
  pub names : AllByRecursion IsName d.untracked
  pub untracked : length d.untracked < 2 ^ 64
  pub subs : length d.subs < 2 ^ 64
  pub untracked_within : IsWithin limit (24 * length d.untracked)
  pub subs_within : IsWithin limit (8 * length d.subs)

-- numbers that fit into their bytes, and an id of the hash algorithm
pub record IsSpellableKnown (kind : Kind) (d : DirectoryValue) : Type 0 where
  pub stat : IfSome d.stat IsSpellableStat
  pub exclude : IfSome d.exclude (IsIdOf kind)

-- a directory of which only its name, its untracked names and its subdirectories are known
abbrev pub bare : DirectoryValue → DirectoryValue
bare d = bare_directory d.name d.untracked d.subs

-- directories are those of one block in preorder
pub record AreOfBlock (ds : List DirectoryValue) : Type 0 where
  pub root : Block
  pub shallow : block_depth root ≤ 2048
  pub listed : map bare ds ≡ preorder_directories 0 root

abbrev pub AreOfBlocks : List DirectoryValue → Type 0
AreOfBlocks [] = Unit {0}
AreOfBlocks (d ∷ ds) = AreOfBlock (d ∷ ds)

-- a cache that is read again with ids of this hash algorithm, within this limit
pub record IsSpellableCache (kind : Kind) (limit : Option ℕ) (c : Cache) : Type 0 where
  pub preamble : IsSpellablePreamble kind c.preamble
  pub few : length c.directories < 2 ^ 32
  pub within : IsWithin limit (152 * length c.directories)
  pub tree : AreOfBlocks c.directories
  pub blocks : AllByRecursion (IsSpellableBlock limit) c.directories
  pub known : AllByRecursion (IsSpellableKnown kind) c.directories

-- no untracked name in a directory is empty
abbrev pub has_names : DirectoryValue → Bool
has_names d = list_all (λ name. not (length name == 0)) d.untracked

abbrev pub names_are_some : Cache → Bool
names_are_some c = list_all has_names c.directories
