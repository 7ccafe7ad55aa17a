-- The pieces that an untracked cache is written in.
use Rattle.std.proofs.Common.{◌≡◌, ℕ, ◌≤◌, Bool, List, [], ◌∷◌, ◌++◌, length, map, refl, sym, ap, ◌∙◌, append_assoc, length-append, arith}
use Rattle.std.specs.List.{flat_map}
use Rattle.bstr.specs.Owned.{bstring_bytes}
use Rattle.bstr.specs.declared.bstring.BString.{BString}
use Rattle.index_parts.proofs.Encodings.{offset_some}
use Rattle.index_parts.specs.Numbers.{be32}
use Rattle.index_parts.specs.Offset.{offset_bytes}
use Rattle.index_parts.specs.declared.hash.Kind.{Kind}
use Rattle.ext_untracked.specs.Blocks.{DirectoryValue, directory_value}
use Rattle.ext_untracked.specs.Untracked.{Cache, Preamble}
use Rattle.ext_untracked.specs.declared.Directory.{Directory}
use Rattle.ext_bitmap.specs.BitmapImage.{bitmap_bytes}
use Rattle.ext_bitmap.specs.EncodedBitmap.{encoded}
use Rattle.ext_encode.specs.UntrackedImage.{file_stat, file_id, preamble_bytes, start_bytes, bitmaps_bytes}
use Rattle.ext_encode.specs.UntrackedImage.{cache_bytes, directories_bytes, untracked_directory_bytes}
use Rattle.ext_encode.specs.UntrackedImage.{has_mark, is_marked, names_bytes, tail_bytes, valid_stat, valid_id}
use Rattle.ext_encode.specs.declared.marks.Mark.{Mark}
use Rattle.ext_encode.specs.declared.marks.Mark.TheVariants as marks

pub start_parts : (d : DirectoryValue) (names subs name : List ℕ) (n m : ℕ) → names ≡ offset_bytes n
    → subs ≡ offset_bytes m → n ≡ length d.untracked → m ≡ length d.subs → name ≡ d.name
    → names ++ (subs ++ (name ++ 0 ∷ [])) ≡ start_bytes d
unfolding start_bytes
start_parts d names subs name n m e f g h i = rw (e, f, g, h, i) refl

pub directory_parts : (d : DirectoryValue) (names : List (List ℕ)) → names ≡ d.untracked
    → start_bytes d ++ names_bytes names ≡ untracked_directory_bytes d
unfolding untracked_directory_bytes
directory_parts d names e = ap (λ (l : List (List ℕ)). start_bytes d ++ names_bytes l) e

pub names_same : (names : List BString)
    → flat_map (λ name. bstring_bytes name ++ 0 ∷ []) names ≡ names_bytes (map bstring_bytes names)
names_same [] = refl
names_same (name ∷ names) = ap (λ (l : List ℕ). (bstring_bytes name ++ 0 ∷ []) ++ l) (names_same names)

pub directory_whole : (d : DirectoryValue) (names : List BString) → map bstring_bytes names ≡ d.untracked
    → start_bytes d ++ flat_map (λ name. bstring_bytes name ++ 0 ∷ []) names ≡ untracked_directory_bytes d
directory_whole d names e =
    ap (λ (l : List ℕ). start_bytes d ++ l) (names_same names) ∙ directory_parts d (map bstring_bytes names) e

pub no_directories : (ds : List Directory) → length ds ≡ 0 → [] ≡ directories_bytes (map directory_value ds)
unfolding directories_bytes
no_directories [] e = refl
no_directories (d ∷ ds) e = absurd (omega (arith, e))

blocks_same : (ds : List Directory)
    → flat_map (λ d. untracked_directory_bytes (directory_value d)) ds ≡ flat_map untracked_directory_bytes (map
    directory_value ds)
blocks_same [] = refl
blocks_same (d ∷ ds) = ap (λ (l : List ℕ). untracked_directory_bytes (directory_value d) ++ l) (blocks_same ds)

pub some_directories : (ds : List Directory) → (length ds ≡ 0 → ⊥)
    → flat_map (λ d. untracked_directory_bytes (directory_value d)) ds ++ tail_bytes (map directory_value ds)
    ≡ directories_bytes (map directory_value ds)
unfolding directories_bytes
some_directories [] h = absurd (h refl)
some_directories (d ∷ ds) h =
    ap (λ (l : List ℕ). l ++ tail_bytes (map directory_value (d ∷ ds))) (blocks_same (d ∷ ds))

pub cache_parts : (kind : Kind) (u : Cache) (n : ℕ) (ds : List DirectoryValue) → n ≡ length u.directories
    → ds ≡ u.directories
    → preamble_bytes kind u.preamble ++ (offset_bytes n ++ directories_bytes ds) ≡ cache_bytes kind u
unfolding cache_bytes
cache_parts kind u n ds e f = rw (e, f) refl

pub cache_grouped : (kind : Kind) (u : Cache) (n : ℕ) (ds : List DirectoryValue) → n ≡ length u.directories
    → ds ≡ u.directories
    → (preamble_bytes kind u.preamble ++ offset_bytes n) ++ directories_bytes ds ≡ cache_bytes kind u
cache_grouped kind u n ds e f =
    append_assoc (preamble_bytes kind u.preamble) (offset_bytes n) (directories_bytes ds)
    ∙ cache_parts kind u n ds e f

pub start_some : (d : DirectoryValue) → 1 ≤ length (untracked_directory_bytes d)
unfolding untracked_directory_bytes start_bytes
start_some d = omega (
  arith,
  length-append (offset_bytes (length d.untracked) ++ (offset_bytes (length d.subs) ++ (d.name ++ 0 ∷ [])))
      (names_bytes d.untracked),
  length-append (offset_bytes (length d.untracked)) (offset_bytes (length d.subs) ++ (d.name ++ 0 ∷ [])),
  offset_some (length d.untracked),
)

many_blocks : (ds : List DirectoryValue) → length ds ≤ length (flat_map untracked_directory_bytes ds)
many_blocks [] = omega arith
many_blocks (d ∷ ds) =
    omega (
      arith,
      length-append (untracked_directory_bytes d) (flat_map untracked_directory_bytes ds),
      start_some d,
      many_blocks ds,
    )

-- each directory has a byte at least
pub many_directories : (ds : List DirectoryValue) → length ds ≤ length (directories_bytes ds)
unfolding directories_bytes
many_directories [] = omega arith
many_directories (d ∷ ds) = omega (
  arith,
  length-append (flat_map untracked_directory_bytes (d ∷ ds)) (tail_bytes (d ∷ ds)),
  many_blocks (d ∷ ds),
)

pub many_bytes : (kind : Kind) (u : Cache) → length u.directories ≤ length (cache_bytes kind u)
unfolding cache_bytes
many_bytes kind u = omega (
  arith,
  length-append (preamble_bytes kind u.preamble)
      (offset_bytes (length u.directories) ++ directories_bytes u.directories),
  length-append (offset_bytes (length u.directories)) (directories_bytes u.directories),
  many_directories u.directories,
)

pub preamble_parts : (kind : Kind) (p : Preamble) (len identifier info excludes info_id excludes_id name : List ℕ)
    (n flags : ℕ) → len ≡ offset_bytes n → n ≡ length identifier → identifier ≡ p.identifier
    → info ≡ file_stat p.info_exclude → excludes ≡ file_stat p.excludes_file → flags ≡ p.dir_flags
    → info_id ≡ file_id kind p.info_exclude → excludes_id ≡ file_id kind p.excludes_file → name ≡ p.exclude_filename
    → len ++ (identifier ++ (info ++ (excludes ++ (be32 flags ++ (info_id ++ (excludes_id ++ (name ++ 0 ∷ [])))))))
    ≡ preamble_bytes kind p
unfolding preamble_bytes
preamble_parts kind p len identifier info excludes info_id excludes_id name n flags a b c d e f g h i =
    rw (a, b, c, d, e, f, g, h, i) refl

mark_same : (mark : Mark) (ds : List Directory)
    → bitmap_bytes (encoded (map (has_mark mark) ds)) ≡ bitmap_bytes (encoded (map (is_marked mark) (map directory_value ds)))
mark_same mark ds = ap (λ (l : List Bool). bitmap_bytes (encoded l)) (same ds)
  where
    same : (xs : List Directory) → map (has_mark mark) xs ≡ map (is_marked mark) (map directory_value xs)
    same [] = refl
    same (x ∷ xs) = ap (λ (l : List Bool). has_mark mark x ∷ l) (same xs)

abbrev pub lent_marks : Mark → List Directory → List ℕ
lent_marks mark ds = bitmap_bytes (encoded (map (has_mark mark) ds))

pub bitmaps_parts : (ds : List Directory)
    → lent_marks marks.Valid ds ++ (lent_marks marks.CheckOnly ds ++ lent_marks marks.HashValid ds)
    ≡ bitmaps_bytes (map directory_value ds)
unfolding bitmaps_bytes
bitmaps_parts ds = rw (mark_same marks.Valid ds, mark_same marks.CheckOnly ds, mark_same marks.HashValid ds) refl

stats_same : (ds : List Directory)
    → flat_map (λ d. valid_stat d.stat) (map directory_value ds) ≡ flat_map (λ d. valid_stat d.stat) ds
stats_same [] = refl
stats_same (d ∷ ds) = ap (λ (l : List ℕ). valid_stat d.stat ++ l) (stats_same ds)

ids_same : (ds : List Directory)
    → flat_map (λ d. valid_id d.exclude) (map directory_value ds) ≡ flat_map (λ d. valid_id d.exclude_file_oid) ds
ids_same [] = refl
ids_same (d ∷ ds) = ap (λ (l : List ℕ). valid_id d.exclude_file_oid ++ l) (ids_same ds)

abbrev pub lent_stats : List Directory → List ℕ
lent_stats ds = flat_map (λ d. valid_stat d.stat) ds

abbrev pub lent_ids : List Directory → List ℕ
lent_ids ds = flat_map (λ d. valid_id d.exclude_file_oid) ds

pub tail_parts : (ds : List Directory)
    → bitmaps_bytes (map directory_value ds) ++ (lent_stats ds ++ (lent_ids ds ++ 0 ∷ []))
    ≡ tail_bytes (map directory_value ds)
unfolding tail_bytes
tail_parts ds = rw (stats_same ds, ids_same ds) refl

-- what follows the directories, piece by piece
abbrev pub tail_pieces : List Directory → List ℕ
tail_pieces ds =
    lent_marks marks.Valid ds ++ (lent_marks marks.CheckOnly ds ++ (lent_marks marks.HashValid ds
    ++ (lent_stats ds ++ (lent_ids ds ++ 0 ∷ []))))

tail_whole : (ds : List Directory) → tail_pieces ds ≡ tail_bytes (map directory_value ds)
tail_whole ds =
    let v = lent_marks marks.Valid ds in
    let c = lent_marks marks.CheckOnly ds in
    let h = lent_marks marks.HashValid ds in
    let rest = lent_stats ds ++ (lent_ids ds ++ 0 ∷ []) in
    sym (append_assoc v (c ++ h) rest ∙ ap (λ (l : List ℕ). v ++ l) (append_assoc c h rest))
    ∙ ap (λ (l : List ℕ). l ++ rest) (bitmaps_parts ds) ∙ tail_parts ds

pub directories_whole : (ds : List Directory) → (length ds ≡ 0 → ⊥)
    → flat_map (λ d. untracked_directory_bytes (directory_value d)) ds ++ tail_pieces ds
    ≡ directories_bytes (map directory_value ds)
directories_whole ds h =
    ap (λ (l : List ℕ). flat_map (λ d. untracked_directory_bytes (directory_value d)) ds ++ l) (tail_whole ds)
    ∙ some_directories ds h
