-- An untracked cache that was written is read again.
use Rattle.std.proofs.Common.{◌≡◌, ℕ, suc, ◌+◌, ◌^◌, ◌<◌, ◌≤◌, Bool, true, false, List, [], ◌∷◌, ◌++◌, length, map}
use Rattle.std.proofs.Common.{All, Option, Some, None, refl, sym, ap, subst, ◌∙◌, arith, append_assoc, length-append}
use Rattle.std.specs.Prelude.{IfSome}
use Rattle.std.specs.List.{AllByRecursion, flat_map}
use Rattle.std.proofs.lemmas.List.{length-map}
use Rattle.std.proofs.lemmas.List.Elements.{All-nil, All-cons}
use Rattle.index_extensions.proofs.WrittenItems.{be_be32}
use Rattle.index_parts.proofs.Encodings.{offset_is}
use Rattle.index_parts.specs.Id.{id_bytes, id_len, make_id}
use Rattle.index_parts.specs.Numbers.{be32}
use Rattle.index_parts.specs.Offset.{continued_bytes, offset_bytes}
use Rattle.index_parts.specs.declared.hash.Kind.{Kind}
use Rattle.index_parts.specs.declared.hash.Kind.TheVariants as kinds
use Rattle.index_parts.specs.declared.hash.ObjectId.{ObjectId}
use Rattle.entry_fields.specs.declared.entry.stat.Stat.{Stat}
use Rattle.ext_untracked.specs.Blocks.{Block, IsBlock, block_size, DirectoryValue, preorder_directories, blocks_size}
use Rattle.ext_untracked.specs.Blocks.{Blocks, block, none, more, all_listed}
use Rattle.ext_untracked.specs.CacheBitmaps.{ListsBelow, AreBitmaps, IsTail}
use Rattle.ext_untracked.specs.CachedStat.{cached_stat}
use Rattle.ext_untracked.specs.Untracked.{oid_stat, Preamble, Cache, IsPreamble, IsNest, AreDirectories, IsCache}
use Rattle.ext_untracked.specs.declared.OidStat.{OidStat}
use Rattle.ext_bitmap.specs.BitmapImage.{bitmap_bytes}
use Rattle.ext_bitmap.specs.EncodedBitmap.{encoded, set_from}
use Rattle.ext_encode.specs.UntrackedImage.{file_stat, file_id, preamble_bytes, untracked_directory_bytes, is_marked}
use Rattle.ext_encode.specs.UntrackedImage.{marks_bytes, bitmaps_bytes, valid_stat, valid_id, tail_bytes}
use Rattle.ext_encode.specs.UntrackedImage.{directories_bytes, cache_bytes, start_bytes, stat_bytes}
use Rattle.ext_encode.specs.declared.marks.Mark.{Mark}
use Rattle.ext_encode.specs.declared.marks.Mark.TheVariants as marks
use Rattle.ext_encode.specs.SpellableCache.{IsSpellableFile, IsSpellablePreamble, IsSpellableBlock, bare}
use Rattle.ext_encode.specs.SpellableCache.{IsSpellableKnown, AreOfBlock, IsSpellableCache}
use Rattle.ext_encode.proofs.BlocksAgain.{block_there}
use Rattle.ext_bitmap.proofs.EncodedBits.{bits_listed, bits_spellable, last_len}
use Rattle.ext_encode.proofs.KnownAgain.{stat_len, stat_again, id_again, stat_piece, id_piece, pieces_of}
use Rattle.ext_encode.proofs.KnownAgain.{bits_by, maps_from, known_again, stats_joined, ids_joined}
use Rattle.ext_encode.proofs.KnownAgain.{pieces_number, stats_sizes, ids_sizes, valid_bits, hash_bits}
use Rattle.ext_bitmap.proofs.WrittenBitmaps.{bitmap_there}
use Rattle.ext_encode.proofs.WrittenDirectories.{many_directories}

-- ---- the fields of a cache before its directories

pub file_stat_len : (o : Option OidStat) → length (file_stat o) ≡ 36
file_stat_len None = refl
file_stat_len (Some file) = stat_len file.stat

file_id_len : (kind : Kind) (o : Option OidStat) → IfSome o (IsSpellableFile kind)
    → length (file_id kind o) ≡ id_len kind
file_id_len kinds.Sha1 None h = refl
file_id_len kinds.Sha256 None h = refl
file_id_len kind (Some file) h = h.id.size

same_file : (s s' : Stat) (i i' : ObjectId) → s ≡ s' → i ≡ i'
    → ◌≡◌ {A = Option OidStat} (Some (record { stat = s; id = i })) (Some (record { stat = s'; id = i' }))
same_file s s' i i' e f = rw (e, f) refl

file_again : (kind : Kind) (o : Option OidStat) → IfSome o (IsSpellableFile kind)
    → o ≡ oid_stat kind (file_stat o) (file_id kind o)
file_again kinds.Sha1 None h = refl
file_again kinds.Sha256 None h = refl
file_again kind (Some file) h =
    rw h.some (same_file file.stat (cached_stat (stat_bytes file.stat)) file.id (make_id kind (id_bytes file.id))
    (sym (stat_again file.stat h.stat)) (sym (id_again kind file.id h.id)))

pub preamble_there : (kind : Kind) (p : Preamble) (rest : List ℕ) → IsSpellablePreamble kind p
    → IsPreamble kind (preamble_bytes kind p ++ rest) p rest
unfolding preamble_bytes
preamble_there kind p rest h = record {
  len = offset_bytes (length p.identifier);
  info = file_stat p.info_exclude;
  excludes = file_stat p.excludes_file;
  flags = be32 p.dir_flags;
  info_id = file_id kind p.info_exclude;
  excludes_id = file_id kind p.excludes_file;
  parts = joined (offset_bytes (length p.identifier)) p.identifier (file_stat p.info_exclude)
      (file_stat p.excludes_file) (be32 p.dir_flags) (file_id kind p.info_exclude) (file_id kind p.excludes_file)
      p.exclude_filename;
  is_len = offset_is (length p.identifier) h.identifier;
  info_len = file_stat_len p.info_exclude;
  excludes_len = file_stat_len p.excludes_file;
  flags_len = refl;
  info_id_len = file_id_len kind p.info_exclude h.info;
  excludes_id_len = file_id_len kind p.excludes_file h.excludes;
  info_is = file_again kind p.info_exclude h.info;
  excludes_is = file_again kind p.excludes_file h.excludes;
  flags_are = sym (be_be32 p.dir_flags h.flags);
  name_apart = h.name;
}
  where
    joined : (a b c d e f g n : List ℕ)
        → (a ++ (b ++ (c ++ (d ++ (e ++ (f ++ (g ++ (n ++ 0 ∷ [])))))))) ++ rest
        ≡ a ++ (b ++ (c ++ (d ++ (e ++ (f ++ (g ++ (n ++ 0 ∷ rest)))))))
    joined a b c d e f g n = simp append_assoc refl

-- ---- after the blocks

set_below : (p : ℕ) (bits : List Bool) → All (λ place. place < p + length bits) (set_from p bits)
set_below p [] = All-nil (λ place. place < p + 0)
set_below p (false ∷ bits) =
    let more : p + 1 + length bits ≡ p + suc (length bits) = omega arith in
    subst (λ (n : ℕ). All (λ place. place < n) (set_from (p + 1) bits)) more (set_below (p + 1) bits)
set_below p (true ∷ bits) =
    let more : p + 1 + length bits ≡ p + suc (length bits) = omega arith in
    All-cons (λ place. place < p + suc (length bits)) p (set_from (p + 1) bits) (omega arith)
    (subst (λ (n : ℕ). All (λ place. place < n) (set_from (p + 1) bits)) more (set_below (p + 1) bits))

from_zero : (n : ℕ) → 0 + n ≡ n
from_zero n = omega arith

lists_there : (bits : List Bool) (rest : List ℕ) → length bits < 2 ^ 32
    → ListsBelow (length bits) (bitmap_bytes (encoded bits) ++ rest) (set_from 0 bits) rest
lists_there bits rest lt = record {
  bitmap = encoded bits;
  is_bitmap = bitmap_there (encoded bits) rest (bits_spellable bits lt);
  few = last_len bits;
  listed = bits_listed bits lt;
  below = subst (λ (n : ℕ). All (λ place. place < n) (set_from 0 bits)) (from_zero (length bits)) (set_below 0 bits);
}

marks_there : (mark : Mark) (ds : List DirectoryValue) (bits : List Bool) (rest : List ℕ) → length ds < 2 ^ 32
    → map (is_marked mark) ds ≡ bits → ListsBelow (length ds) (marks_bytes mark ds ++ rest) (set_from 0 bits) rest
marks_there mark ds bits rest lt e =
    let len : length (map (is_marked mark) ds) ≡ length ds = length-map ds (is_marked mark) in
    let there = lists_there (map (is_marked mark) ds) rest (omega (arith, len, lt)) in
    let counted : ListsBelow (length ds) (marks_bytes mark ds ++ rest) (set_from 0 (map (is_marked mark) ds)) rest =
    subst (λ (n : ℕ). ListsBelow n (marks_bytes mark ds ++ rest) (set_from 0 (map (is_marked mark) ds)) rest) len there in
    subst (λ (l : List Bool). ListsBelow (length ds) (marks_bytes mark ds ++ rest) (set_from 0 l) rest) e counted

bitmaps_there : (ds : List DirectoryValue) (rest : List ℕ) → length ds < 2 ^ 32
    → AreBitmaps (length ds) (bitmaps_bytes ds ++ rest) (maps_from 0 ds) rest
unfolding bitmaps_bytes
bitmaps_there ds rest lt =
    let second : List ℕ = marks_bytes marks.CheckOnly ds in
    let third : List ℕ = marks_bytes marks.HashValid ds in
    let parts : (marks_bytes marks.Valid ds ++ (second ++ third)) ++ rest
    ≡ marks_bytes marks.Valid ds ++ (second ++ (third ++ rest)) =
    append_assoc (marks_bytes marks.Valid ds) (second ++ third) rest
    ∙ ap (λ (l : List ℕ). marks_bytes marks.Valid ds ++ l) (append_assoc second third rest) in
    subst (λ (l : List ℕ). AreBitmaps (length ds) l (maps_from 0 ds) rest) (sym parts) (record {
      behind_valid = second ++ (third ++ rest);
      behind_check_only = third ++ rest;
      is_valid = marks_there marks.Valid ds (bits_by stat_piece ds) (second ++ (third ++ rest)) lt (valid_bits ds);
      is_check_only = marks_there marks.CheckOnly ds (map (λ d. d.check_only) ds) (third ++ rest) lt refl;
      is_hash_valid = marks_there marks.HashValid ds (bits_by id_piece ds) rest lt (hash_bits ds);
    })

tail_there : (kind : Kind) (ds : List DirectoryValue) → length ds < 2 ^ 32 → AllByRecursion (IsSpellableKnown kind) ds
    → IsTail kind (map bare ds) (tail_bytes ds) ds
unfolding tail_bytes
tail_there kind ds lt h =
    let count : length (map bare ds) ≡ length ds = length-map ds bare in
    let stats : List ℕ = flat_map (λ d. valid_stat d.stat) ds in
    let ids : List ℕ = flat_map (λ d. valid_id d.exclude) ds in
    let are : AreBitmaps (length ds) (tail_bytes ds) (maps_from 0 ds) (stats ++ (ids ++ 0 ∷ [])) =
    bitmaps_there ds (stats ++ (ids ++ 0 ∷ [])) lt in
    record {
      bitmaps = maps_from 0 ds;
      behind_bitmaps = stats ++ (ids ++ 0 ∷ []);
      stats = pieces_of stat_piece ds;
      behind_stats = ids ++ 0 ∷ [];
      ids = pieces_of id_piece ds;
      last = 0;
      are_bitmaps = subst (λ (n : ℕ). AreBitmaps n (tail_bytes ds) (maps_from 0 ds) (stats ++ (ids ++ 0 ∷ [])))
          (sym count) are;
      are_stats = record {
        parts = ap (λ (l : List ℕ). l ++ (ids ++ 0 ∷ [])) (stats_joined ds);
        sizes = stats_sizes ds;
        number = pieces_number stat_piece 0 ds;
      };
      are_ids = record {
        parts = ap (λ (l : List ℕ). l ++ 0 ∷ []) (ids_joined ds);
        sizes = ids_sizes kind ds h;
        number = pieces_number id_piece 0 ds;
      };
      directories_are = sym (known_again kind 0 ds h);
    }

-- ---- directories

mutual
  pub listed_len : (place : ℕ) (b : Block) → length (preorder_directories place b) ≡ block_size b
  listed_len place (block name untracked subs) = omega (arith, all_listed_len (place + 1) subs)

  all_listed_len : (place : ℕ) (bs : Blocks) → length (all_listed place bs) ≡ blocks_size bs
  all_listed_len place none = refl
  all_listed_len place (more b bs) = omega (
    arith,
    length-append (preorder_directories place b) (all_listed (place + block_size b) bs),
    listed_len place b,
    all_listed_len (place + block_size b) bs,
  )

bare_one : (d : DirectoryValue) → untracked_directory_bytes d ≡ untracked_directory_bytes (bare d)
unfolding untracked_directory_bytes start_bytes
bare_one d = refl

bare_bytes : (ds : List DirectoryValue) → flat_map untracked_directory_bytes ds ≡ flat_map untracked_directory_bytes
    (map bare ds)
bare_bytes [] = refl
bare_bytes (d ∷ ds) = ap (λ (l : List ℕ). l ++ flat_map untracked_directory_bytes ds) (bare_one d)
    ∙ ap (λ (l : List ℕ). untracked_directory_bytes (bare d) ++ l) (bare_bytes ds)

bare_blocks : (limit : Option ℕ) (ds : List DirectoryValue) → AllByRecursion (IsSpellableBlock limit) ds
    → AllByRecursion (IsSpellableBlock limit) (map bare ds)
bare_blocks limit [] h = tt
bare_blocks limit (d ∷ ds) h = (
  record {
    name = h.0.name;
    names = h.0.names;
    untracked = h.0.untracked;
    subs = h.0.subs;
    untracked_within = h.0.untracked_within;
    subs_within = h.0.subs_within;
  },
  bare_blocks limit ds h.1,
)

tail_some : (ds : List DirectoryValue) → 1 ≤ length (tail_bytes ds)
unfolding tail_bytes
tail_some ds = omega (
  arith,
  length-append (bitmaps_bytes ds)
      (flat_map (λ d. valid_stat d.stat) ds ++ (flat_map (λ d. valid_id d.exclude) ds ++ 0 ∷ [])),
  length-append (flat_map (λ d. valid_stat d.stat) ds) (flat_map (λ d. valid_id d.exclude) ds ++ 0 ∷ []),
  length-append (flat_map (λ d. valid_id d.exclude) ds) (0 ∷ []),
)

nest_there : (kind : Kind) (limit : Option ℕ) (ds : List DirectoryValue) → length ds < 2 ^ 32 → AreOfBlock ds
    → AllByRecursion (IsSpellableBlock limit) ds → AllByRecursion (IsSpellableKnown kind) ds
    → IsNest kind limit (length ds) (flat_map untracked_directory_bytes ds ++ tail_bytes ds) ds
nest_there kind limit ds lt tree blocks known =
    let rest : List ℕ = tail_bytes ds in
    let same : flat_map untracked_directory_bytes ds ≡ flat_map untracked_directory_bytes (preorder_directories 0
    tree.root) =
    bare_bytes ds ∙ ap (flat_map untracked_directory_bytes) tree.listed in
    let are : AllByRecursion (IsSpellableBlock limit) (preorder_directories 0 tree.root) =
    subst (AllByRecursion (IsSpellableBlock limit)) tree.listed (bare_blocks limit ds blocks) in
    let number : block_size tree.root ≡ length ds =
    sym (listed_len 0 tree.root) ∙ ap length (sym tree.listed) ∙ length-map ds bare in
    record {
      root = tree.root;
      rest = rest;
      is_root = subst (λ (l : List ℕ). IsBlock limit (l ++ rest) tree.root rest) (sym same)
          (block_there limit 0 tree.root rest (tail_some ds) are);
      shallow = tree.shallow;
      size = number;
      is_tail = subst (λ (l : List DirectoryValue). IsTail kind l rest ds) tree.listed (tail_there kind ds lt known);
    }

directories_there : (kind : Kind) (limit : Option ℕ) (c : Cache) (ds : List DirectoryValue) → c.directories ≡ ds
    → IsSpellableCache kind limit c → AreDirectories kind limit (length ds) (directories_bytes ds) ds
unfolding directories_bytes
directories_there kind limit c [] e h = (refl, refl)
directories_there kind limit c (d ∷ ds) e h =
    let moved : IsSpellableCache kind limit (record { preamble = c.preamble; directories = d ∷ ds }) =
    subst (λ (l : List DirectoryValue). IsSpellableCache kind limit (record { preamble = c.preamble; directories = l }))
    e h in
    nest_there kind limit (d ∷ ds) moved.few moved.tree moved.blocks moved.known

-- ---- the last byte

ends_by : (ds : List DirectoryValue) → (before : List ℕ)
    × (offset_bytes (length ds) ++ directories_bytes ds ≡ before ++ 0 ∷ [])
unfolding directories_bytes tail_bytes offset_bytes continued_bytes
ends_by [] = ([], refl)
ends_by (d ∷ ds) =
    let all : List DirectoryValue = d ∷ ds in
    let a : List ℕ = offset_bytes (length all) in
    let b : List ℕ = flat_map untracked_directory_bytes all in
    let m : List ℕ = bitmaps_bytes all in
    let s : List ℕ = flat_map (λ x. valid_stat x.stat) all in
    let i : List ℕ = flat_map (λ x. valid_id x.exclude) all in
    (a ++ (b ++ (m ++ (s ++ i))), grouped a b m s i)
  where
    grouped : (a b m s i : List ℕ) → a ++ (b ++ (m ++ (s ++ (i ++ 0 ∷ [])))) ≡ (a ++ (b ++ (m ++ (s ++ i)))) ++ 0 ∷ []
    grouped a b m s i = simp append_assoc refl

pub cache_there : (kind : Kind) (limit : Option ℕ) (c : Cache) → IsSpellableCache kind limit c
    → IsCache kind limit (cache_bytes kind c) c
unfolding cache_bytes
cache_there kind limit c h =
    let ds : List DirectoryValue = c.directories in
    let rest : List ℕ = offset_bytes (length ds) ++ directories_bytes ds in
    let end = ends_by ds in
    record {
      rest = rest;
      number = offset_bytes (length ds);
      blocks = directories_bytes ds;
      count = length ds;
      before = preamble_bytes kind c.preamble ++ end.0;
      is_preamble = preamble_there kind c.preamble rest h.preamble;
      parts = refl;
      is_number = offset_is (length ds) (omega (arith, h.few));
      room = many_directories ds;
      within = h.within;
      are_directories = directories_there kind limit c ds refl h;
      last = ap (λ (l : List ℕ). preamble_bytes kind c.preamble ++ l) end.1
          ∙ sym (append_assoc (preamble_bytes kind c.preamble) end.0 (0 ∷ []));
    }
