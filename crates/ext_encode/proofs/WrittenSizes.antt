-- How many bytes an untracked cache has.
use Rattle.std.proofs.Common.{◌≡◌, ℕ, ◌+◌, ◌≤◌, List, [], ◌∷◌, ◌++◌, length, map, refl, ap, ◌∙◌, arith}
use Rattle.std.proofs.Common.{length-append}
use Rattle.std.specs.Prelude.{Bool, not, ◌==◌, ◌&&◌}
use Rattle.std.specs.List.{flat_map, list_all}
use Rattle.bstr.specs.Owned.{bstring_bytes}
use Rattle.bstr.specs.declared.bstring.BString.{BString}
use Rattle.index_parts.specs.Numbers.{be32}
use Rattle.index_parts.specs.Offset.{offset_bytes}
use Rattle.index_parts.specs.declared.hash.Kind.{Kind}
use Rattle.ext_untracked.specs.Blocks.{DirectoryValue, directory_value}
use Rattle.ext_untracked.specs.Untracked.{Cache, Preamble}
use Rattle.ext_untracked.specs.declared.Directory.{Directory}
use Rattle.ext_encode.specs.SpellableCache.{has_names}
use Rattle.ext_encode.specs.UntrackedImage.{file_id, file_stat, preamble_bytes, names_bytes, start_bytes}
use Rattle.ext_encode.specs.UntrackedImage.{untracked_directory_bytes, directories_bytes, known_bytes, bitmaps_bytes}
use Rattle.ext_encode.specs.UntrackedImage.{tail_bytes, valid_id, valid_stat, cache_bytes}
use Rattle.ext_encode.specs.declared.marks.Mark.TheVariants as marks
use Rattle.ext_encode.proofs.CacheAgain.{file_stat_len}
use Rattle.ext_encode.proofs.WrittenDirectories.{bitmaps_parts, lent_ids, lent_marks, lent_stats}
use Rattle.ext_encode.proofs.WrittenDirectories.{some_directories, start_some, tail_parts}

pub start_len : (d : DirectoryValue) (n m x y k : ℕ) → x ≡ length (offset_bytes n) → y ≡ length (offset_bytes m)
    → n ≡ length d.untracked → m ≡ length d.subs → k ≡ length d.name → x + y + k + 1 ≡ length (start_bytes d)
unfolding start_bytes
start_len d n m x y k e f g h i = omega (
  arith,
  e ∙ ap (λ (a : ℕ). length (offset_bytes a)) g,
  f ∙ ap (λ (a : ℕ). length (offset_bytes a)) h,
  i,
  length-append (offset_bytes (length d.untracked)) (offset_bytes (length d.subs) ++ (d.name ++ 0 ∷ [])),
  length-append (offset_bytes (length d.subs)) (d.name ++ 0 ∷ []),
  length-append d.name (0 ∷ []),
)

pub known_len : (d : DirectoryValue) → length (known_bytes d) ≡ length (start_bytes d)
    + length (names_bytes d.untracked) + (length (valid_stat d.stat) + length (valid_id d.exclude))
unfolding untracked_directory_bytes
known_len d = omega (
  arith,
  length-append (start_bytes d ++ names_bytes d.untracked) (valid_stat d.stat ++ valid_id d.exclude),
  length-append (start_bytes d) (names_bytes d.untracked),
  length-append (valid_stat d.stat) (valid_id d.exclude),
)

pub known_same : (ds : List Directory)
    → flat_map (λ d. known_bytes (directory_value d)) ds ≡ flat_map known_bytes (map directory_value ds)
known_same [] = refl
known_same (d ∷ ds) = ap (λ (l : List ℕ). known_bytes (directory_value d) ++ l) (known_same ds)

pub known_many : (ds : List Directory) → length ds ≤ length (flat_map known_bytes (map directory_value ds))
known_many [] = omega arith
known_many (d ∷ ds) =
    let v : DirectoryValue = directory_value d in
    omega (
      arith,
      length-append (known_bytes v) (flat_map known_bytes (map directory_value ds)),
      length-append (untracked_directory_bytes v) (valid_stat v.stat ++ valid_id v.exclude),
      start_some v,
      known_many ds,
    )

abbrev lent_blocks : List Directory → List ℕ
lent_blocks ds = flat_map (λ d. untracked_directory_bytes (directory_value d)) ds

known_sum : (ds : List Directory) → length (flat_map known_bytes (map directory_value ds))
    ≡ length (lent_blocks ds) + length (lent_stats ds) + length (lent_ids ds)
known_sum [] = refl
known_sum (d ∷ ds) =
    let v : DirectoryValue = directory_value d in
    omega (
      arith,
      length-append (known_bytes v) (flat_map known_bytes (map directory_value ds)),
      length-append (untracked_directory_bytes v) (valid_stat d.stat ++ valid_id d.exclude_file_oid),
      length-append (valid_stat d.stat) (valid_id d.exclude_file_oid),
      length-append (untracked_directory_bytes v) (lent_blocks ds),
      length-append (valid_stat d.stat) (lent_stats ds),
      length-append (valid_id d.exclude_file_oid) (lent_ids ds),
      known_sum ds,
    )

-- directories, with their stats and ids, the three bitmaps, and a NUL
pub directories_sum : (ds : List Directory) → (length ds ≡ 0 → ⊥)
    → length (directories_bytes (map directory_value ds)) ≡ length (flat_map known_bytes (map directory_value ds))
    + length (lent_marks marks.Valid ds) + length (lent_marks marks.CheckOnly ds)
    + length (lent_marks marks.HashValid ds) + 1
directories_sum ds some = omega (
  arith,
  known_sum ds,
  ap length (some_directories ds some),
  length-append (lent_blocks ds) (tail_bytes (map directory_value ds)),
  ap length (tail_parts ds),
  length-append (bitmaps_bytes (map directory_value ds)) (lent_stats ds ++ (lent_ids ds ++ 0 ∷ [])),
  length-append (lent_stats ds) (lent_ids ds ++ 0 ∷ []),
  length-append (lent_ids ds) (0 ∷ []),
  ap length (bitmaps_parts ds),
  length-append (lent_marks marks.Valid ds) (lent_marks marks.CheckOnly ds ++ lent_marks marks.HashValid ds),
  length-append (lent_marks marks.CheckOnly ds) (lent_marks marks.HashValid ds),
)

pub preamble_sum : (kind : Kind) (p : Preamble) → length (preamble_bytes kind p)
    ≡ length (offset_bytes (length p.identifier)) + length p.identifier + 77
    + (length (file_id kind p.info_exclude) + length (file_id kind p.excludes_file)) + length p.exclude_filename
unfolding preamble_bytes
preamble_sum kind p =
    let g : List ℕ = p.exclude_filename ++ 0 ∷ [] in
    let f : List ℕ = file_id kind p.excludes_file ++ g in
    let e : List ℕ = file_id kind p.info_exclude ++ f in
    let d : List ℕ = be32 p.dir_flags ++ e in
    let c : List ℕ = file_stat p.excludes_file ++ d in
    let b : List ℕ = file_stat p.info_exclude ++ c in
    omega (
      arith,
      length-append (offset_bytes (length p.identifier)) (p.identifier ++ b),
      length-append p.identifier b,
      length-append (file_stat p.info_exclude) c,
      length-append (file_stat p.excludes_file) d,
      length-append (file_id kind p.info_exclude) f,
      length-append (file_id kind p.excludes_file) g,
      length-append p.exclude_filename (0 ∷ []),
      file_stat_len p.info_exclude,
      file_stat_len p.excludes_file,
    )

pub cache_sum : (kind : Kind) (u : Cache) → length (cache_bytes kind u) ≡ length (preamble_bytes kind u.preamble)
    + length (offset_bytes (length u.directories)) + length (directories_bytes u.directories)
unfolding cache_bytes
cache_sum kind u = omega (
  arith,
  length-append (preamble_bytes kind u.preamble)
      (offset_bytes (length u.directories) ++ directories_bytes u.directories),
  length-append (offset_bytes (length u.directories)) (directories_bytes u.directories),
)

-- ---- names that aren't empty

pub names_all : (names : List BString) → list_all (λ name. not (length (bstring_bytes name) == 0)) names
    ≡ list_all (λ name. not (length name == 0)) (map bstring_bytes names)
names_all [] = refl
names_all (name ∷ names) = ap (λ (b : Bool). not (length (bstring_bytes name) == 0) && b) (names_all names)

pub directories_all : (ds : List Directory)
    → list_all (λ d. has_names (directory_value d)) ds ≡ list_all has_names (map directory_value ds)
directories_all [] = refl
directories_all (d ∷ ds) = ap (λ (b : Bool). has_names (directory_value d) && b) (directories_all ds)
