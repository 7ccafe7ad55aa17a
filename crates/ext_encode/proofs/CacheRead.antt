-- An untracked cache that was read can be written, if no untracked name is empty.
use Rattle.std.proofs.Common.{◌≡◌, ℕ, zero, suc, ◌+◌, ◌*◌, ◌^◌, ◌<◌, ◌≤◌, Bool, true, false, cond, eqb, List, [], ◌∷◌, ◌++◌}
use Rattle.std.proofs.Common.{length, take, drop, map, All, Option, Some, None, refl, sym, ap, subst, ◌∙◌, arith}
use Rattle.std.proofs.Common.{length-append, take-append-drop}
use Rattle.std.specs.Prelude.{◌≢◌, IfSome, not, ◌==◌}
use Rattle.std.specs.List.{AllByRecursion, concat, enumerate_from, list_all}
use Rattle.std.specs.Option.{option_map}
use Rattle.std.proofs.lemmas.Bool.{and_parts}
use Rattle.std.proofs.lemmas.List.{length-drop, length-map, length-take, map-append}
use Rattle.std.proofs.lemmas.List.Elements.{All-nil, All-cons, All-head, All-tail}
use Rattle.ext_bitmap.specs.Bitmap.{Bitmap, IsBitmap}
use Rattle.index_parts.proofs.Ids.{id_kind-make_id, id_bytes-make_id}
use Rattle.index_parts.specs.Id.{id_len, is_null, make_id}
use Rattle.index_parts.specs.Limit.{IsWithin}
use Rattle.index_parts.specs.Numbers.{number}
use Rattle.index_parts.specs.declared.hash.Kind.{Kind}
use Rattle.ext_untracked.specs.Blocks.{Block, block, Blocks, none, more, how_many_blocks, SpellNames, IsBlock, AreBlocks}
use Rattle.ext_untracked.specs.Blocks.{block_size, DirectoryValue, bare_directory, places_from, preorder_directories}
use Rattle.ext_untracked.specs.Blocks.{all_listed}
use Rattle.ext_untracked.specs.CacheBitmaps.{DirectoryBitmaps, value_at, with_bitmaps, IsTail}
use Rattle.ext_untracked.specs.CachedStat.{cached_stat}
use Rattle.ext_untracked.specs.Untracked.{oid_stat, Preamble, Cache, IsPreamble, IsNest, AreDirectories, IsCache}
use Rattle.ext_untracked.specs.declared.OidStat.{OidStat}
use Rattle.ext_encode.specs.SpellableCache.{IsSpellableStat, IsIdOf, IsSpellableFile, IsSpellablePreamble}
use Rattle.ext_encode.specs.SpellableCache.{IsName, IsSpellableBlock, IsSpellableKnown, bare, AreOfBlock}
use Rattle.ext_encode.specs.SpellableCache.{AreOfBlocks, IsSpellableCache, names_are_some}
use Rattle.ext_encode.proofs.BlocksAgain.{places_len}
use Rattle.ext_encode.proofs.CacheAgain.{listed_len}
use Rattle.ext_bitmap.proofs.WrittenBitmaps.{be_four, bytes_first, bytes_behind}

abbrev IsByte : ℕ → Type 0
IsByte n = n < 256

-- ---- numbers

taken : (n : ℕ) (l : List ℕ) → All IsByte l → All IsByte (take n l)
taken n l h = bytes_first (take n l) (drop n l) (subst (All IsByte) (sym (take-append-drop n l)) h)

dropped : (n : ℕ) (l : List ℕ) → All IsByte l → All IsByte (drop n l)
dropped n l h = bytes_behind (take n l) (drop n l) (subst (All IsByte) (sym (take-append-drop n l)) h)

number_small : (l : List ℕ) (place : ℕ) → All IsByte l → 4 * place + 4 ≤ length l → number l place < 2 ^ 32
number_small l place h le =
    be_four (take 4 (drop (4 * place) l)) (taken 4 (drop (4 * place) l) (dropped (4 * place) l h))
    (omega (arith, length-take 4 (drop (4 * place) l), length-drop (4 * place) l, le))

stat_spellable : (piece : List ℕ) → All IsByte piece → length piece ≡ 36 → IsSpellableStat (cached_stat piece)
stat_spellable piece h len =
    let first : All IsByte (take 24 piece) = taken 24 piece h in
    let last : All IsByte (drop 24 piece) = dropped 24 piece h in
    let n : length (take 24 piece) ≡ 24 = omega (arith, length-take 24 piece, len) in
    let m : length (drop 24 piece) ≡ 12 = omega (arith, length-drop 24 piece, len) in
    record {
      ctime_secs = number_small (take 24 piece) 0 first (omega (arith, n));
      ctime_nsecs = number_small (take 24 piece) 1 first (omega (arith, n));
      mtime_secs = number_small (take 24 piece) 2 first (omega (arith, n));
      mtime_nsecs = number_small (take 24 piece) 3 first (omega (arith, n));
      dev = number_small (take 24 piece) 4 first (omega (arith, n));
      ino = number_small (take 24 piece) 5 first (omega (arith, n));
      uid = number_small (drop 24 piece) 0 last (omega (arith, m));
      gid = number_small (drop 24 piece) 1 last (omega (arith, m));
      size = number_small (drop 24 piece) 2 last (omega (arith, m));
    }

id_spellable : (kind : Kind) (piece : List ℕ) → length piece ≡ id_len kind → IsIdOf kind (make_id kind piece)
id_spellable kind piece len =
    record { id_is = id_kind-make_id kind piece; size = ap length (id_bytes-make_id kind piece) ∙ len }

-- ---- the fields of a cache before its directories

file_by : (kind : Kind) (stat id : List ℕ) (t : Bool) → is_null id ≡ t → All IsByte stat → length stat ≡ 36
    → length id ≡ id_len kind → IfSome (oid_stat kind stat id) (IsSpellableFile kind)
file_by kind stat id true e h len size = rw e tt
file_by kind stat id false e h len size = rw e (record {
  stat = stat_spellable stat h len;
  id = id_spellable kind id size;
  some = ap is_null (id_bytes-make_id kind id) ∙ e;
})

preamble_spellable : (kind : Kind) (bytes : List ℕ) (p : Preamble) (rest : List ℕ) → All IsByte bytes
    → IsPreamble kind bytes p rest → IsSpellablePreamble kind p
preamble_spellable kind bytes p rest h s =
    let behind_excludes_id : List ℕ = p.exclude_filename ++ 0 ∷ rest in
    let behind_info_id : List ℕ = s.excludes_id ++ behind_excludes_id in
    let behind_flags : List ℕ = s.info_id ++ behind_info_id in
    let behind_excludes : List ℕ = s.flags ++ behind_flags in
    let behind_info : List ℕ = s.excludes ++ behind_excludes in
    let behind_identifier : List ℕ = s.info ++ behind_info in
    let whole = bytes_behind s.len (p.identifier ++ behind_identifier) (subst (All IsByte) s.parts h) in
    let second = bytes_behind p.identifier behind_identifier whole in
    let third = bytes_behind s.info behind_info second in
    let fourth = bytes_behind s.excludes behind_excludes third in
    record {
      identifier = s.is_len.fits;
      info = subst (λ (o : Option OidStat). IfSome o (IsSpellableFile kind)) (sym s.info_is)
          (file_by kind s.info s.info_id (is_null s.info_id) refl (bytes_first s.info behind_info second) s.info_len
          s.info_id_len);
      excludes = subst (λ (o : Option OidStat). IfSome o (IsSpellableFile kind)) (sym s.excludes_is)
          (file_by kind s.excludes s.excludes_id (is_null s.excludes_id) refl
          (bytes_first s.excludes behind_excludes third) s.excludes_len s.excludes_id_len);
      flags = subst (λ (n : ℕ). n < 2 ^ 32) (sym s.flags_are)
          (be_four s.flags (bytes_first s.flags behind_flags fourth) s.flags_len);
      name = s.name_apart;
    }

-- ---- blocks

-- what a block's bytes imply about the directory
record IsReadBlock (limit : Option ℕ) (d : DirectoryValue) : Type 0 where
  name : All (λ b. b ≢ 0) d.name
  names : AllByRecursion (λ n. All (λ b. b ≢ 0) n) d.untracked
  untracked : length d.untracked < 2 ^ 64
  subs : length d.subs < 2 ^ 64
  untracked_within : IsWithin limit (24 * length d.untracked)
  subs_within : IsWithin limit (8 * length d.subs)

names_apart : (bytes : List ℕ) (names : List (List ℕ)) (rest : List ℕ) → SpellNames bytes names rest
    → AllByRecursion (λ n. All (λ b. b ≢ 0) n) names
names_apart bytes [] rest h = tt
names_apart bytes (name ∷ names) rest h = (h.1.apart, names_apart h.0 names rest h.2)

joined : {X : Type 0} (P : X → Type 0) (xs ys : List X) → AllByRecursion P xs → AllByRecursion P ys
    → AllByRecursion P (xs ++ ys)
joined P [] ys h k = k
joined P (x ∷ xs) ys h k = (h.0, joined P xs ys h.1 k)

mutual
  block_read : (limit : Option ℕ) (place : ℕ) (bytes : List ℕ) (b : Block) (rest : List ℕ) → IsBlock limit bytes b rest
      → AllByRecursion (IsReadBlock limit) (preorder_directories place b)
  block_read limit place bytes (block name untracked subs) rest p =
      let count : how_many_blocks subs ≡ length (places_from (place + 1) subs) = sym (places_len (place + 1) subs) in (
        record {
          name = p.2.is_name.apart;
          names = names_apart p.0 untracked p.1 p.3;
          untracked = p.2.is_untracked.fits;
          subs = subst (λ (n : ℕ). n < 2 ^ 64) count p.2.is_subs.fits;
          untracked_within = p.2.untracked_within;
          subs_within = subst (λ (n : ℕ). IsWithin limit (8 * n)) count p.2.subs_within;
        },
        blocks_read limit (place + 1) p.1 subs rest p.4,
      )

  blocks_read : (limit : Option ℕ) (place : ℕ) (bytes : List ℕ) (bs : Blocks) (rest : List ℕ)
      → AreBlocks limit bytes bs rest → AllByRecursion (IsReadBlock limit) (all_listed place bs)
  blocks_read limit place bytes none rest p = tt
  blocks_read limit place bytes (more b bs) rest p =
      joined (IsReadBlock limit) (preorder_directories place b) (all_listed (place + block_size b) bs)
      (block_read limit place bytes b p.0 p.1) (blocks_read limit (place + block_size b) p.0 bs rest p.2)

-- names that aren't empty
some_by : (t : Bool) (n : ℕ) → eqb n 0 ≡ t → not t ≡ true → 1 ≤ n
some_by true n e h = absurd cc
some_by false zero e h = absurd cc
some_by false (suc n) e h = omega arith

names_there : (names : List (List ℕ)) → AllByRecursion (λ n. All (λ b. b ≢ 0) n) names
    → list_all (λ name. not (length name == 0)) names ≡ true → AllByRecursion IsName names
names_there [] h e = tt
names_there (name ∷ names) h e =
    let a = and_parts (not (eqb (length name) 0)) (list_all (λ n. not (length n == 0)) names) e in
    (record { some = some_by (eqb (length name) 0) (length name) refl a.0; apart = h.0 }, names_there names h.1 a.1)

blocks_there : (limit : Option ℕ) (ds : List DirectoryValue) → AllByRecursion (IsReadBlock limit) (map bare ds)
    → list_all (λ d. list_all (λ name. not (length name == 0)) d.untracked) ds ≡ true
    → AllByRecursion (IsSpellableBlock limit) ds
blocks_there limit [] h e = tt
blocks_there limit (d ∷ ds) h e =
    let a = and_parts (list_all (λ name. not (length name == 0)) d.untracked)
    (list_all (λ x. list_all (λ name. not (length name == 0)) x.untracked) ds) e in (
      record {
        name = h.0.name;
        names = names_there d.untracked h.0.names a.0;
        untracked = h.0.untracked;
        subs = h.0.subs;
        untracked_within = h.0.untracked_within;
        subs_within = h.0.subs_within;
      },
      blocks_there limit ds h.1 a.1,
    )

-- ---- what is known of directories

value_by : (P : List ℕ → Type 0) (t : Bool) (x : List ℕ) (o : Option (List ℕ)) → P x → IfSome o P
    → IfSome (cond t (Some x) o) P
value_by P true x o h k = h
value_by P false x o h k = k

value_ok : (P : List ℕ → Type 0) (places : List ℕ) (values : List (List ℕ)) (q : ℕ) → All P values
    → IfSome (value_at places values q) P
value_ok P [] values q h = tt
value_ok P (p ∷ places) [] q h = tt
value_ok P (p ∷ places) (x ∷ values) q h =
    value_by P (eqb p q) x (value_at places values q) (All-head P x values h)
    (value_ok P places values q (All-tail P x values h))

record IsStatPiece (piece : List ℕ) : Type 0 where
  bytes : All IsByte piece
  size : length piece ≡ 36

stat_of_piece : (o : Option (List ℕ)) → IfSome o IsStatPiece → IfSome (option_map cached_stat o) IsSpellableStat
stat_of_piece None h = tt
stat_of_piece (Some piece) h = stat_spellable piece h.bytes h.size

id_of_piece : (kind : Kind) (o : Option (List ℕ)) → IfSome o (λ piece. length piece ≡ id_len kind)
    → IfSome (option_map (make_id kind) o) (IsIdOf kind)
id_of_piece kind None h = tt
id_of_piece kind (Some piece) h = id_spellable kind piece h

known_there : (kind : Kind) (m : DirectoryBitmaps) (stats ids : List (List ℕ)) (p : ℕ) (xs : List DirectoryValue)
    → All IsStatPiece stats → All (λ piece. length piece ≡ id_len kind) ids
    → AllByRecursion (IsSpellableKnown kind)
    (map (λ x. with_bitmaps kind m stats ids x.0 x.1) (enumerate_from p xs))
known_there kind m stats ids p [] h k = tt
known_there kind m stats ids p (x ∷ xs) h k = (
  record {
    stat = stat_of_piece (value_at m.valid stats p) (value_ok IsStatPiece m.valid stats p h);
    exclude = id_of_piece kind (value_at m.hash_valid ids p)
        (value_ok (λ piece. length piece ≡ id_len kind) m.hash_valid ids p k);
  },
  known_there kind m stats ids (p + 1) xs h k,
)

known_bare : (kind : Kind) (m : DirectoryBitmaps) (stats ids : List (List ℕ)) (p : ℕ) (xs : List DirectoryValue)
    → map bare (map (λ x. with_bitmaps kind m stats ids x.0 x.1) (enumerate_from p xs)) ≡ map bare xs
known_bare kind m stats ids p [] = refl
known_bare kind m stats ids p (x ∷ xs) =
    ap (λ (l : List DirectoryValue). bare x ∷ l) (known_bare kind m stats ids (p + 1) xs)

mutual
  listed_bare : (place : ℕ) (b : Block) → map bare (preorder_directories place b) ≡ preorder_directories place b
  listed_bare place (block name untracked subs) =
      ap (λ (l : List DirectoryValue). bare_directory name untracked (places_from (place + 1) subs) ∷ l)
      (all_listed_bare (place + 1) subs)

  all_listed_bare : (place : ℕ) (bs : Blocks) → map bare (all_listed place bs) ≡ all_listed place bs
  all_listed_bare place none = refl
  all_listed_bare place (more b bs) =
      map-append bare (preorder_directories place b) (all_listed (place + block_size b) bs)
      ∙ ap (λ (l : List DirectoryValue). l ++ map bare (all_listed (place + block_size b) bs)) (listed_bare place b)
      ∙ ap (λ (l : List DirectoryValue). preorder_directories place b ++ l) (all_listed_bare (place + block_size b) bs)

-- ---- the bytes after the blocks

names_behind : (bytes : List ℕ) (names : List (List ℕ)) (rest : List ℕ) → SpellNames bytes names rest
    → All IsByte bytes → All IsByte rest
names_behind bytes [] rest h k = subst (All IsByte) h k
names_behind bytes (name ∷ names) rest h k =
    let second : All IsByte (0 ∷ h.0) = bytes_behind name (0 ∷ h.0) (subst (All IsByte) h.1.parts k) in
    names_behind h.0 names rest h.2 (All-tail IsByte 0 h.0 second)

mutual
  block_behind : (limit : Option ℕ) (bytes : List ℕ) (b : Block) (rest : List ℕ) → IsBlock limit bytes b rest
      → All IsByte bytes → All IsByte rest
  block_behind limit bytes (block name untracked subs) rest p h =
      let s = p.2 in
      let first = bytes_behind s.first (s.second ++ (name ++ 0 ∷ p.0)) (subst (All IsByte) s.parts h) in
      let second = bytes_behind s.second (name ++ 0 ∷ p.0) first in
      let third = All-tail IsByte 0 p.0 (bytes_behind name (0 ∷ p.0) second) in
      blocks_behind limit p.1 subs rest p.4 (names_behind p.0 untracked p.1 p.3 third)

  blocks_behind : (limit : Option ℕ) (bytes : List ℕ) (bs : Blocks) (rest : List ℕ) → AreBlocks limit bytes bs rest
      → All IsByte bytes → All IsByte rest
  blocks_behind limit bytes none rest p h = subst (All IsByte) p h
  blocks_behind limit bytes (more b bs) rest p h =
      blocks_behind limit p.0 bs rest p.2 (block_behind limit bytes b p.0 p.1 h)

bitmap_behind : (bytes : List ℕ) (b : Bitmap) (rest : List ℕ) → IsBitmap bytes b rest → All IsByte bytes
    → All IsByte rest
bitmap_behind bytes b rest s h =
    let first = bytes_behind s.bits (s.len ++ (s.words ++ (s.last ++ rest))) (subst (All IsByte) s.parts h) in
    let second = bytes_behind s.len (s.words ++ (s.last ++ rest)) first in
    bytes_behind s.last rest (bytes_behind s.words (s.last ++ rest) second)

stats_pieces : (pieces : List (List ℕ)) → All IsByte (concat pieces) → All (λ piece. length piece ≡ 36) pieces
    → All IsStatPiece pieces
stats_pieces [] h k = All-nil IsStatPiece
stats_pieces (piece ∷ pieces) h k = All-cons IsStatPiece piece pieces
    (record {
      bytes = bytes_first piece (concat pieces) h;
      size = All-head (λ s. length s ≡ 36) piece pieces k;
    })
    (stats_pieces pieces (bytes_behind piece (concat pieces) h) (All-tail (λ s. length s ≡ 36) piece pieces k))

tail_known : (kind : Kind) (xs : List DirectoryValue) (bytes : List ℕ) (ds : List DirectoryValue) → All IsByte bytes
    → IsTail kind xs bytes ds → AllByRecursion (IsSpellableKnown kind) ds
tail_known kind xs bytes ds h s =
    let a = s.are_bitmaps in
    let first = bitmap_behind bytes a.is_valid.bitmap a.behind_valid a.is_valid.is_bitmap h in
    let second = bitmap_behind a.behind_valid a.is_check_only.bitmap a.behind_check_only a.is_check_only.is_bitmap first in
    let third = bitmap_behind a.behind_check_only a.is_hash_valid.bitmap s.behind_bitmaps a.is_hash_valid.is_bitmap
    second in
    let stats = bytes_first (concat s.stats) s.behind_stats (subst (All IsByte) s.are_stats.parts third) in
    subst (AllByRecursion (IsSpellableKnown kind)) (sym s.directories_are)
    (known_there kind s.bitmaps s.stats s.ids 0 xs (stats_pieces s.stats stats s.are_stats.sizes) s.are_ids.sizes)

-- ---- a cache

record IsReadNest (kind : Kind) (limit : Option ℕ) (count : ℕ) (ds : List DirectoryValue) : Type 0 where
  tree : AreOfBlock ds
  number : length ds ≡ count
  blocks : AllByRecursion (IsReadBlock limit) (map bare ds)
  known : AllByRecursion (IsSpellableKnown kind) ds

nest_read : (kind : Kind) (limit : Option ℕ) (count : ℕ) (bytes : List ℕ) (ds : List DirectoryValue)
    → All IsByte bytes → IsNest kind limit count bytes ds → IsReadNest kind limit count ds
nest_read kind limit count bytes ds h s =
    let t = s.is_tail in
    let all : List DirectoryValue = preorder_directories 0 s.root in
    let same : map bare ds ≡ all =
    ap (map bare) t.directories_are ∙ known_bare kind t.bitmaps t.stats t.ids 0 all ∙ listed_bare 0 s.root in
    record {
      tree = record { root = s.root; shallow = s.shallow; listed = same };
      number = sym (length-map ds bare) ∙ ap length same ∙ listed_len 0 s.root ∙ s.size;
      blocks = subst (AllByRecursion (IsReadBlock limit)) (sym same) (block_read limit 0 bytes s.root s.rest s.is_root);
      known = tail_known kind all s.rest ds (block_behind limit bytes s.root s.rest s.is_root h) t;
    }

-- what is asked of the directories
record AreSpellable (kind : Kind) (limit : Option ℕ) (count : ℕ) (ds : List DirectoryValue) : Type 0 where
  number : length ds ≡ count
  tree : AreOfBlocks ds
  blocks : AllByRecursion (IsSpellableBlock limit) ds
  known : AllByRecursion (IsSpellableKnown kind) ds

some_spellable : (kind : Kind) (limit : Option ℕ) (count : ℕ) (ds : List DirectoryValue)
    → list_all (λ d. list_all (λ name. not (length name == 0)) d.untracked) ds ≡ true
    → IsReadNest kind limit count ds → AreSpellable kind limit count ds
some_spellable kind limit count [] e n = record { number = n.number; tree = tt; blocks = tt; known = tt }
some_spellable kind limit count (d ∷ ds) e n = record {
  number = n.number;
  tree = n.tree;
  blocks = blocks_there limit (d ∷ ds) n.blocks e;
  known = n.known;
}

directories_spellable : (kind : Kind) (limit : Option ℕ) (count : ℕ) (bytes : List ℕ) (ds : List DirectoryValue)
    → All IsByte bytes → AreDirectories kind limit count bytes ds
    → list_all (λ d. list_all (λ name. not (length name == 0)) d.untracked) ds ≡ true
    → AreSpellable kind limit count ds
directories_spellable kind limit zero bytes ds h s e =
    subst (AreSpellable kind limit zero) (sym s.1) (record { number = refl; tree = tt; blocks = tt; known = tt })
directories_spellable kind limit (suc n) bytes ds h s e =
    some_spellable kind limit (suc n) ds e (nest_read kind limit (suc n) bytes ds h s)

preamble_behind : (kind : Kind) (bytes : List ℕ) (p : Preamble) (rest : List ℕ) → IsPreamble kind bytes p rest
    → All IsByte bytes → (length bytes < 2 ^ 32) → All IsByte rest × (length rest < 2 ^ 32)
preamble_behind kind bytes p rest s h lt =
    let g : List ℕ = p.exclude_filename ++ 0 ∷ rest in
    let f : List ℕ = s.excludes_id ++ g in
    let e : List ℕ = s.info_id ++ f in
    let d : List ℕ = s.flags ++ e in
    let c : List ℕ = s.excludes ++ d in
    let b : List ℕ = s.info ++ c in
    let a : List ℕ = p.identifier ++ b in
    let first = bytes_behind s.len a (subst (All IsByte) s.parts h) in
    let second = bytes_behind s.info c (bytes_behind p.identifier b first) in
    let third = bytes_behind s.flags e (bytes_behind s.excludes d second) in
    let fourth = bytes_behind s.excludes_id g (bytes_behind s.info_id f third) in (
      All-tail IsByte 0 rest (bytes_behind p.exclude_filename (0 ∷ rest) fourth),
      omega (
        arith,
        lt,
        ap length s.parts,
        length-append s.len a,
        length-append p.identifier b,
        length-append s.info c,
        length-append s.excludes d,
        length-append s.flags e,
        length-append s.info_id f,
        length-append s.excludes_id g,
        length-append p.exclude_filename (0 ∷ rest),
      ),
    )

pub cache_spellable : (kind : Kind) (limit : Option ℕ) (bytes : List ℕ) (c : Cache) → All (λ n. n < 256) bytes
    → length bytes < 2 ^ 32 → IsCache kind limit bytes c → names_are_some c ≡ true → IsSpellableCache kind limit c
cache_spellable kind limit bytes c h lt s e =
    let behind = preamble_behind kind bytes c.preamble s.rest s.is_preamble h lt in
    let blocks : All IsByte s.blocks = bytes_behind s.number s.blocks (subst (All IsByte) s.parts behind.0) in
    let d = directories_spellable kind limit s.count s.blocks c.directories blocks s.are_directories e in
    record {
      preamble = preamble_spellable kind bytes c.preamble s.rest h s.is_preamble;
      few = omega (arith, behind.1, ap length s.parts, length-append s.number s.blocks, s.room, d.number);
      within = subst (λ (n : ℕ). IsWithin limit (152 * n)) (sym d.number) s.within;
      tree = d.tree;
      blocks = d.blocks;
      known = d.known;
    }
