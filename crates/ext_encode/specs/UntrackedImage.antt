-- The bytes that are written for the untracked cache extension (gitformat-index, "Untracked cache").
use Rattle.std.specs.Prelude.{ℕ, Bool, List, [], ◌∷◌, ◌++◌, codes, length, map, replicate}
use Rattle.std.specs.Prelude.{Option, Some, None, is_some}
use Rattle.std.specs.List.{flat_map}
use Rattle.index_extensions.specs.Encoding.{item_of}
use Rattle.index_extensions.specs.Walk.{Item}
use Rattle.entry_fields.specs.declared.entry.stat.Stat.{Stat}
use Rattle.index_parts.specs.Id.{id_bytes, id_len}
use Rattle.index_parts.specs.Numbers.{be32}
use Rattle.index_parts.specs.Offset.{offset_bytes}
use Rattle.index_parts.specs.declared.hash.Kind.{Kind}
use Rattle.index_parts.specs.declared.hash.ObjectId.{ObjectId}
use Rattle.ext_untracked.specs.Blocks.{DirectoryValue, directory_value}
use Rattle.ext_untracked.specs.Untracked.{Cache, Preamble}
use Rattle.ext_untracked.specs.declared.Directory.{Directory}
use Rattle.ext_untracked.specs.declared.OidStat.{OidStat}
use Rattle.ext_bitmap.specs.BitmapImage.{bitmap_bytes}
use Rattle.ext_bitmap.specs.EncodedBitmap.{encoded}
use Rattle.ext_encode.specs.declared.marks.Mark.{Mark}
use Rattle.ext_encode.specs.declared.marks.Mark.TheVariants as marks

-- ---- the fields of a cache before its directories

-- nine numbers of four bytes
unfoldable pub stat_bytes : Stat → List ℕ
stat_bytes s =
    be32 s.ctime.secs ++ be32 s.ctime.nsecs ++ be32 s.mtime.secs ++ be32 s.mtime.nsecs ++ be32 s.dev ++ be32 s.ino
    ++ be32 s.uid ++ be32 s.gid ++ be32 s.size

-- the stat of a file of exclude patterns, or zeros if there is no such file
abbrev pub file_stat : Option OidStat → List ℕ
file_stat None = replicate 36 0
file_stat (Some file) = stat_bytes file.stat

abbrev pub file_id : Kind → Option OidStat → List ℕ
file_id kind None = replicate (id_len kind) 0
file_id kind (Some file) = id_bytes file.id

-- The length of the identifier, the identifier, and the stats of the two files. Then the flags, the ids of the two files,
-- and the name of the exclude files with a NUL.
unfoldable pub preamble_bytes : Kind → Preamble → List ℕ
preamble_bytes kind p =
    offset_bytes (length p.identifier) ++
    (p.identifier ++
    (file_stat p.info_exclude ++
    (file_stat p.excludes_file ++
    (be32 p.dir_flags ++
    (file_id kind p.info_exclude ++ (file_id kind p.excludes_file ++ (p.exclude_filename ++ 0 ∷ [])))))))

-- ---- directories

-- each name with a NUL
abbrev pub names_bytes : List (List ℕ) → List ℕ
names_bytes names = flat_map (λ name. name ++ 0 ∷ []) names

-- the number of untracked names in a directory, the number of its subdirectories, and its name with a NUL
unfoldable pub start_bytes : DirectoryValue → List ℕ
start_bytes d = offset_bytes (length d.untracked) ++ (offset_bytes (length d.subs) ++ (d.name ++ 0 ∷ []))

-- a directory with its untracked names
unfoldable pub untracked_directory_bytes : DirectoryValue → List ℕ
untracked_directory_bytes d = start_bytes d ++ names_bytes d.untracked

-- whether the bit of a directory is set in one of the three bitmaps
abbrev pub is_marked : Mark → DirectoryValue → Bool
is_marked marks.Valid d = is_some d.stat
is_marked marks.CheckOnly d = d.check_only
is_marked marks.HashValid d = is_some d.exclude

-- whether the bit of a directory in memory is set in one of the three bitmaps
abbrev pub has_mark : Mark → Directory → Bool
has_mark mark d = is_marked mark (directory_value d)

abbrev pub marks_bytes : Mark → List DirectoryValue → List ℕ
marks_bytes mark ds = bitmap_bytes (encoded (map (is_marked mark) ds))

-- The bitmaps of the directories whose stat is valid, that were only checked for untracked files, and whose id is
-- valid.
unfoldable pub bitmaps_bytes : List DirectoryValue → List ℕ
bitmaps_bytes ds = marks_bytes marks.Valid ds ++ (marks_bytes marks.CheckOnly ds ++ marks_bytes marks.HashValid ds)

-- the stat if it is valid; `valid_id` is the id if it is valid
abbrev pub valid_stat : Option Stat → List ℕ
valid_stat None = []
valid_stat (Some stat) = stat_bytes stat

abbrev pub valid_id : Option ObjectId → List ℕ
valid_id None = []
valid_id (Some id) = id_bytes id

-- a directory with its untracked names, and its stat and id if they are valid
abbrev pub known_bytes : DirectoryValue → List ℕ
known_bytes d = untracked_directory_bytes d ++ (valid_stat d.stat ++ valid_id d.exclude)

-- the three bitmaps, the valid stats, the valid ids, and a NUL
unfoldable pub tail_bytes : List DirectoryValue → List ℕ
tail_bytes ds =
    bitmaps_bytes ds
    ++ (flat_map (λ d. valid_stat d.stat) ds ++ (flat_map (λ d. valid_id d.exclude) ds ++ 0 ∷ []))

-- directories in preorder and the bytes after them; nothing if there are no directories
unfoldable pub directories_bytes : List DirectoryValue → List ℕ
directories_bytes [] = []
directories_bytes (d ∷ ds) = flat_map untracked_directory_bytes (d ∷ ds) ++ tail_bytes (d ∷ ds)

-- the fields before the directories, the number of directories, and the directories
unfoldable pub cache_bytes : Kind → Cache → List ℕ
cache_bytes kind c =
    preamble_bytes kind c.preamble ++ (offset_bytes (length c.directories) ++ directories_bytes c.directories)

-- the untracked cache extension with its head
abbrev pub cache_item : Kind → Cache → Item
cache_item kind c = item_of (codes "UNTR") (cache_bytes kind c)
