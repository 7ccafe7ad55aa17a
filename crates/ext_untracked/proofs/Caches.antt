-- What is read as a cache is spelled so, and what is spelled so is read; bytes are one cache, and the ids in it are of
-- one kind.
use Rattle.std.proofs.Common.{◌≡◌, ℕ, zero, suc, ◌+◌, ◌-◌, ◌*◌, ◌<◌, ◌≤◌, true, ltb, leb, eqb, List, [], ◌∷◌, ◌++◌}
use Rattle.std.proofs.Common.{length, take, get_or, Option, Some, None, refl, sym, ap, subst, ◌∙◌, arith}
use Rattle.std.specs.Prelude.{◌&&◌}
use Rattle.std.proofs.lemmas.Bool.{leb-true, le-leb, lt-ltb, ltb-true, eqb-true, and_parts, and_from}
use Rattle.std.proofs.lemmas.List.{length-append, take_all, take_more}
use Rattle.std.proofs.lemmas.Option.{same_Some}
use Rattle.std.proofs.Math.Seq.{get_or-append_seam}
use Rattle.index_parts.proofs.Offsets.{offset_takes, offset_again}
use Rattle.index_parts.proofs.Splits.{piece_takes, piece_again, split_takes, split_again}
use Rattle.index_parts.proofs.Steps.{bind_some, test_some}
use Rattle.index_parts.specs.Numbers.{be}
use Rattle.index_parts.specs.Id.{id_len}
use Rattle.index_parts.specs.Offset.{AreContinued, IsOffset, StartsWithOffset}
use Rattle.index_parts.specs.ReadingSteps.{piece_at, split_at_byte, offset_at}
use Rattle.index_parts.specs.declared.hash.Kind.{Kind}
use Rattle.ext_untracked.specs.Blocks.{Block, block, HasBlockHead, IsBlock, block_size, how_many_blocks}
use Rattle.ext_untracked.specs.Blocks.{DirectoryValue, preorder_directories}
use Rattle.index_parts.specs.Limit.{IsWithin, is_within}
use Rattle.ext_untracked.specs.CacheBitmaps.{IsTail}
use Rattle.ext_untracked.specs.Untracked.{oid_stat, Preamble, Cache, IsPreamble, IsNest, AreDirectories, IsCache}
use Rattle.ext_untracked.specs.Untracked.{HasFirstHead, HasStart}
use Rattle.ext_untracked.specs.CacheSteps.{ends_with_nul, preamble_at, directory_count_at}
use Rattle.index_extensions.proofs.Limits.{within_from, within_true}
use Rattle.ext_untracked.proofs.Nests.{one_block}
use Rattle.ext_untracked.proofs.Tails.{one_tail}

-- ---- the last byte

pub nul_takes : (bytes : List ℕ) → ends_with_nul bytes ≡ true → (before : List ℕ) × (bytes ≡ before ++ 0 ∷ [])
nul_takes bytes e =
    let p = and_parts (ltb 0 (length bytes)) (eqb (get_or bytes (length bytes - 1) 0) 0) e in
    let some : 0 < length bytes = ltb-true _ _ p.0 in
    let last : get_or bytes (length bytes - 1) 0 ≡ 0 = eqb-true _ _ p.1 in
    let whole : take (length bytes - 1 + 1) bytes ≡ bytes = take_all (length bytes - 1 + 1) bytes (omega arith) in
    let split = take_more bytes (length bytes - 1) 0 (omega arith) in
    (take (length bytes - 1) bytes, sym whole ∙ split ∙ ap (λ (b : ℕ). take (length bytes - 1) bytes ++ b ∷ []) last)

pub nul_again : (bytes before : List ℕ) → bytes ≡ before ++ 0 ∷ [] → ends_with_nul bytes ≡ true
nul_again bytes before e =
    let len : length bytes ≡ length before + 1 = ap length e ∙ length-append before (0 ∷ []) in
    let some : ltb 0 (length bytes) ≡ true = lt-ltb _ _ (omega arith) in
    let at : length bytes - 1 ≡ length before = omega arith in
    let last : get_or bytes (length bytes - 1) 0 ≡ 0 =
    ap (λ (n : ℕ). get_or bytes n 0) at ∙ ap (λ (l : List ℕ). get_or l (length before) 0) e
    ∙ get_or-append_seam before 0 [] 0 in
    rw (some, last) refl

-- ---- the preamble

parts_from : (bytes len r1 identifier r2 info r3 excludes r4 flags r5 info_id r6 excludes_id r7 name rest : List ℕ)
    → bytes ≡ len ++ r1 → r1 ≡ identifier ++ r2 → r2 ≡ info ++ r3 → r3 ≡ excludes ++ r4 → r4 ≡ flags ++ r5
    → r5 ≡ info_id ++ r6 → r6 ≡ excludes_id ++ r7 → r7 ≡ name ++ 0 ∷ rest
    → bytes ≡ len ++ (identifier ++ (info ++ (excludes ++ (flags ++ (info_id ++ (excludes_id ++ (name ++ 0 ∷ rest)))))))
parts_from bytes len r1 identifier r2 info r3 excludes r4 flags r5 info_id r6 excludes_id r7 name rest e1 e2 e3 e4 e5 e6
    e7 e8 = rw (e1, e2, e3, e4, e5, e6, e7, e8) refl

pub preamble_takes : (kind : Kind) (bytes : List ℕ) (x : Preamble × List ℕ) → preamble_at kind bytes ≡ Some x
    → IsPreamble kind bytes x.0 x.1
unfolding preamble_at
preamble_takes kind bytes x e =
    let a = bind_some (offset_at bytes) _ x e in
    let b = bind_some (piece_at a.0.0 a.0.1) _ x a.2 in
    let c = bind_some (piece_at 36 b.0.1) _ x b.2 in
    let d = bind_some (piece_at 36 c.0.1) _ x c.2 in
    let f = bind_some (piece_at 4 d.0.1) _ x d.2 in
    let g = bind_some (piece_at (id_len kind) f.0.1) _ x f.2 in
    let h = bind_some (piece_at (id_len kind) g.0.1) _ x g.2 in
    let n = bind_some (split_at_byte 0 h.0.1) _ x h.2 in
    let len = offset_takes bytes a.0 a.1 in
    let identifier = piece_takes a.0.0 a.0.1 b.0 b.1 in
    let info = piece_takes 36 b.0.1 c.0 c.1 in
    let excludes = piece_takes 36 c.0.1 d.0 d.1 in
    let flags = piece_takes 4 d.0.1 f.0 f.1 in
    let info_id = piece_takes (id_len kind) f.0.1 g.0 g.1 in
    let excludes_id = piece_takes (id_len kind) g.0.1 h.0 h.1 in
    let name = split_takes 0 h.0.1 n.0 n.1 in
    let made : Preamble = record {
      identifier = b.0.0;
      info_exclude = oid_stat kind c.0.0 g.0.0;
      excludes_file = oid_stat kind d.0.0 h.0.0;
      dir_flags = be f.0.0;
      exclude_filename = n.0.0;
    } in
    let is : ◌≡◌ {A = Preamble × List ℕ} (made, n.0.1) x = same_Some _ _ n.2 in
    subst (λ (y : Preamble × List ℕ). IsPreamble kind bytes y.0 y.1) is (record {
      len = len.spelling;
      info = c.0.0;
      excludes = d.0.0;
      flags = f.0.0;
      info_id = g.0.0;
      excludes_id = h.0.0;
      parts = parts_from bytes len.spelling a.0.1 b.0.0 b.0.1 c.0.0 c.0.1 d.0.0 d.0.1 f.0.0 f.0.1 g.0.0 g.0.1 h.0.0
          h.0.1 n.0.0 n.0.1 len.parts identifier.0 info.0 excludes.0 flags.0 info_id.0 excludes_id.0 name.parts;
      is_len = subst (IsOffset len.spelling) (sym identifier.1) len.is_offset;
      info_len = info.1;
      excludes_len = excludes.1;
      flags_len = flags.1;
      info_id_len = info_id.1;
      excludes_id_len = excludes_id.1;
      info_is = refl;
      excludes_is = refl;
      flags_are = refl;
      name_apart = name.apart;
    })

pub preamble_again : (kind : Kind) (bytes : List ℕ) (f : Preamble) (rest : List ℕ) → IsPreamble kind bytes f rest
    → 1 ≤ length rest → preamble_at kind bytes ≡ Some (f, rest)
unfolding preamble_at
preamble_again kind bytes f rest p some =
    let named : List ℕ = f.exclude_filename ++ 0 ∷ rest in
    let r6 : List ℕ = p.excludes_id ++ named in
    let r5 : List ℕ = p.info_id ++ r6 in
    let r4 : List ℕ = p.flags ++ r5 in
    let r3 : List ℕ = p.excludes ++ r4 in
    let r2 : List ℕ = p.info ++ r3 in
    let r1 : List ℕ = f.identifier ++ r2 in
    let one = offset_again (p.len ++ r1) (length f.identifier) r1
    (record { spelling = p.len; parts = refl; is_offset = p.is_len }) in
    let two = piece_again (length f.identifier) f.identifier r2 refl in
    let three = piece_again 36 p.info r3 p.info_len in
    let four = piece_again 36 p.excludes r4 p.excludes_len in
    let five = piece_again 4 p.flags r5 p.flags_len in
    let six = piece_again (id_len kind) p.info_id r6 p.info_id_len in
    let seven = piece_again (id_len kind) p.excludes_id named p.excludes_id_len in
    let enough : length named ≡ length f.exclude_filename + length (0 ∷ rest) =
    length-append f.exclude_filename (0 ∷ rest) in
    let eight = split_again 0 named f.exclude_filename rest
    (record { parts = refl; apart = p.name_apart; two = omega arith }) in
    rw (p.parts, one, two, three, four, five, six, seven, eight, p.info_is, p.excludes_is, p.flags_are) refl

-- ---- the number of directories

-- bytes are the number of directories, for which there is room, and the rest
pub record IsDirectoryCount (limit : Option ℕ) (bytes : List ℕ) (n : ℕ) (rest : List ℕ) : Type 0 where
  pub starts : StartsWithOffset bytes n rest
  pub room : n ≤ length rest
  pub within : IsWithin limit (152 * n)

pub directory_count_takes : (limit : Option ℕ) (bytes : List ℕ) (x : ℕ × List ℕ)
    → directory_count_at limit bytes ≡ Some x → IsDirectoryCount limit bytes x.0 x.1
unfolding directory_count_at
directory_count_takes limit bytes x e =
    let a = bind_some (offset_at bytes) _ x e in
    let t = test_some (leb a.0.0 (length a.0.1) && is_within limit (152 * a.0.0)) a.0 x a.2 in
    let p = and_parts (leb a.0.0 (length a.0.1)) (is_within limit (152 * a.0.0)) t.0 in
    subst (λ (y : ℕ × List ℕ). IsDirectoryCount limit bytes y.0 y.1) t.1
    (record { starts = offset_takes bytes a.0 a.1; room = leb-true _ _ p.0; within = within_from limit _ p.1 })

pub directory_count_again : (limit : Option ℕ) (bytes : List ℕ) (n : ℕ) (rest : List ℕ)
    → IsDirectoryCount limit bytes n rest → directory_count_at limit bytes ≡ Some (n, rest)
unfolding directory_count_at
directory_count_again limit bytes n rest p =
    let one = offset_again bytes n rest p.starts in
    let two : (leb n (length rest) && is_within limit (152 * n)) ≡ true =
    and_from _ _ (le-leb _ _ p.room) (within_true limit _ p.within) in
    rw (one, two) refl

-- ---- the directories

pub nest_is : (kind : Kind) (limit : Option ℕ) (count : ℕ) (bytes : List ℕ) (ds : List DirectoryValue) → (count ≡ 0 → ⊥)
    → IsNest kind limit count bytes ds → AreDirectories kind limit count bytes ds
nest_is kind limit zero bytes ds some p = absurd (some refl)
nest_is kind limit (suc n) bytes ds some p = p

pub nest_of : (kind : Kind) (limit : Option ℕ) (count : ℕ) (bytes : List ℕ) (ds : List DirectoryValue) → (count ≡ 0 → ⊥)
    → AreDirectories kind limit count bytes ds → IsNest kind limit count bytes ds
nest_of kind limit zero bytes ds some p = absurd (some refl)
nest_of kind limit (suc n) bytes ds some p = p

-- the nest whose root was read
pub record HasRoot (kind : Kind) (count : ℕ) (root : Block) (rest : List ℕ) (ds : List DirectoryValue) : Type 0 where
  pub size : block_size root ≡ count
  pub is_tail : IsTail kind (preorder_directories 0 root) rest ds

pub root_of : (kind : Kind) (limit : Option ℕ) (count : ℕ) (bytes : List ℕ) (root : Block) (rest : List ℕ)
    (ds : List DirectoryValue) → IsBlock limit bytes root rest → IsNest kind limit count bytes ds
    → HasRoot kind count root rest ds
root_of kind limit count bytes root rest ds b p =
    let same = one_block limit p.root root bytes p.rest rest p.is_root b in
    let tail : IsTail kind (preorder_directories 0 root) p.rest ds =
    subst (λ (t : Block). IsTail kind (preorder_directories 0 t) p.rest ds) same.0 p.is_tail in
    record {
      size = subst (λ (t : Block). block_size t ≡ count) same.0 p.size;
      is_tail = subst (λ (l : List ℕ). IsTail kind (preorder_directories 0 root) l ds) same.1 tail;
    }

one_nest : (kind : Kind) (limit : Option ℕ) (count : ℕ) (bytes : List ℕ) (a b : List DirectoryValue)
    → IsNest kind limit count bytes a → IsNest kind limit count bytes b → a ≡ b
one_nest kind limit count bytes a b p q =
    let h = root_of kind limit count bytes p.root p.rest b p.is_root q in
    one_tail kind (preorder_directories 0 p.root) p.rest a b p.is_tail h.is_tail

one_list : (kind : Kind) (limit : Option ℕ) (count : ℕ) (bytes : List ℕ) (a b : List DirectoryValue)
    → AreDirectories kind limit count bytes a → AreDirectories kind limit count bytes b → a ≡ b
one_list kind limit zero bytes a b p q = p.1 ∙ sym q.1
one_list kind limit (suc n) bytes a b p q = one_nest kind limit (suc n) bytes a b p q

-- ---- the cache

some_digit : (bytes : List ℕ) → AreContinued bytes → 1 ≤ length bytes
some_digit [] m = absurd m
some_digit (b ∷ bytes) m = omega arith

module _ (kind : Kind) (limit : Option ℕ) (bytes : List ℕ) (c : Cache) (p : IsCache kind limit bytes c) where
  pub preamble_read : preamble_at kind bytes ≡ Some (c.preamble, p.rest)
  preamble_read = preamble_again kind bytes c.preamble p.rest p.is_preamble
      (omega (arith, ap length p.parts, length-append p.number p.blocks, some_digit p.number p.is_number.continued))

  pub directory_count_read : directory_count_at limit p.rest ≡ Some (p.count, p.blocks)
  directory_count_read = directory_count_again limit p.rest p.count p.blocks (record {
    starts =
        record { spelling = p.number; parts = p.parts; is_offset = p.is_number };
    room = p.room;
    within = p.within;
  })

-- the preamble that was read, and the number after it
pub record Agrees (kind : Kind) (limit : Option ℕ) (c : Cache) (f : Preamble) (count : ℕ)
    (blocks : List ℕ) : Type 0 where
  pub preamble : c.preamble ≡ f
  pub are_directories : AreDirectories kind limit count blocks c.directories

pub rest_is : (kind : Kind) (limit : Option ℕ) (bytes : List ℕ) (c : Cache) (f : Preamble) (rest : List ℕ)
    → preamble_at kind bytes ≡ Some (f, rest) → (p : IsCache kind limit bytes c) → (c.preamble ≡ f) × (p.rest ≡ rest)
rest_is kind limit bytes c f rest e p =
    let same = same_Some {A = Preamble × List ℕ} (c.preamble, p.rest) (f, rest)
    (sym (preamble_read kind limit bytes c p) ∙ e) in
    (ap (λ (x : Preamble × List ℕ). x.0) same, ap (λ (x : Preamble × List ℕ). x.1) same)

pub agrees : (kind : Kind) (limit : Option ℕ) (bytes : List ℕ) (c : Cache) (f : Preamble) (rest : List ℕ) (count : ℕ)
    (blocks : List ℕ) → preamble_at kind bytes ≡ Some (f, rest) → directory_count_at limit rest ≡ Some (count, blocks)
    → IsCache kind limit bytes c → Agrees kind limit c f count blocks
agrees kind limit bytes c f rest count blocks e g p =
    let preamble = rest_is kind limit bytes c f rest e p in
    let same = same_Some {A = ℕ × List ℕ} (p.count, p.blocks) (count, blocks)
    (sym (directory_count_read kind limit bytes c p) ∙ ap (directory_count_at limit) preamble.1 ∙ g) in
    record {
      preamble = preamble.0;
      are_directories =
          subst (λ (x : ℕ × List ℕ). AreDirectories kind limit x.0 x.1 c.directories) same p.are_directories;
    }

pub no_count : (kind : Kind) (limit : Option ℕ) (bytes : List ℕ) (c : Cache) (f : Preamble) (rest : List ℕ)
    → preamble_at kind bytes ≡ Some (f, rest) → directory_count_at limit rest ≡ None → IsCache kind limit bytes c → ⊥
no_count kind limit bytes c f rest e g p =
    let preamble = rest_is kind limit bytes c f rest e p in
    let read : directory_count_at limit rest ≡ Some (p.count, p.blocks) =
    ap (directory_count_at limit) (sym preamble.1) ∙ directory_count_read kind limit bytes c p in
    let clash : ◌≡◌ {A = Option (ℕ × List ℕ)} None (Some (p.count, p.blocks)) = sym g ∙ read in
    absurd cc

pub cache_from : (kind : Kind) (limit : Option ℕ) (bytes : List ℕ) (f : Preamble) (rest : List ℕ) (count : ℕ)
    (blocks : List ℕ) (ds : List DirectoryValue) → ends_with_nul bytes ≡ true → preamble_at kind bytes ≡ Some (f, rest)
    → directory_count_at limit rest ≡ Some (count, blocks) → AreDirectories kind limit count blocks ds
    → IsCache kind limit bytes (record { preamble = f; directories = ds })
cache_from kind limit bytes f rest count blocks ds last e g d =
    let nul = nul_takes bytes last in
    let number = directory_count_takes limit rest (count, blocks) g in
    record {
      rest = rest;
      number = number.starts.spelling;
      blocks = blocks;
      count = count;
      before = nul.0;
      is_preamble = preamble_takes kind bytes (f, rest) e;
      parts = number.starts.parts;
      is_number = number.starts.is_offset;
      room = number.room;
      within = number.within;
      are_directories = d;
      last = nul.1;
    }

pub start_from : (kind : Kind) (limit : Option ℕ) (bytes : List ℕ) (f : Preamble) (rest : List ℕ) (count : ℕ)
    (blocks : List ℕ) → ends_with_nul bytes ≡ true → preamble_at kind bytes ≡ Some (f, rest)
    → directory_count_at limit rest ≡ Some (count, blocks) → HasFirstHead limit count blocks → HasStart kind limit bytes
start_from kind limit bytes f rest count blocks last e g first =
    let nul = nul_takes bytes last in
    let number = directory_count_takes limit rest (count, blocks) g in
    record {
      preamble = f;
      rest = rest;
      number = number.starts.spelling;
      blocks = blocks;
      count = count;
      before = nul.0;
      is_preamble = preamble_takes kind bytes (f, rest) e;
      parts = number.starts.parts;
      is_number = number.starts.is_offset;
      room = number.room;
      within = number.within;
      has_first = first;
      last = nul.1;
    }

-- a block begins with a head
block_head : (limit : Option ℕ) (bytes : List ℕ) (b : Block) (rest : List ℕ) → IsBlock limit bytes b rest
    → HasBlockHead limit bytes
block_head limit bytes (block name untracked subs) rest p = record {
  head =
      record { untracked = length untracked; subs = how_many_blocks subs; name = name };
  rest = p.0;
  is_head = p.2;
}

-- the first head, if directories are declared
pub first_from : (limit : Option ℕ) (count : ℕ) (bytes : List ℕ) → (count ≡ 0 → ⊥) → HasBlockHead limit bytes
    → HasFirstHead limit count bytes
first_from limit zero bytes some h = absurd (some refl)
first_from limit (suc n) bytes some h = h

pub first_block : (limit : Option ℕ) (count : ℕ) (bytes : List ℕ) (b : Block) (rest : List ℕ) → (count ≡ 0 → ⊥)
    → IsBlock limit bytes b rest → HasFirstHead limit count bytes
first_block limit count bytes b rest some p = first_from limit count bytes some (block_head limit bytes b rest p)

pub first_there : (kind : Kind) (limit : Option ℕ) (count : ℕ) (bytes : List ℕ) (ds : List DirectoryValue)
    → AreDirectories kind limit count bytes ds → HasFirstHead limit count bytes
first_there kind limit zero bytes ds p = p.0
first_there kind limit (suc n) bytes ds p = block_head limit bytes p.root p.rest p.is_root

-- bytes are one cache
pub one_cache : (kind : Kind) (limit : Option ℕ) (bytes : List ℕ) (a b : Cache) → IsCache kind limit bytes a
    → IsCache kind limit bytes b → a ≡ b
one_cache kind limit bytes a b p q =
    let same = agrees kind limit bytes b a.preamble p.rest p.count p.blocks (preamble_read kind limit bytes a p)
    (directory_count_read kind limit bytes a p) q in
    let directories : a.directories ≡ b.directories =
    one_list kind limit p.count p.blocks a.directories b.directories p.are_directories same.are_directories in
    ap (λ (f : Preamble). record { preamble = f; directories = a.directories }) (sym same.preamble)
    ∙ ap (λ (d : List DirectoryValue). record { preamble = b.preamble; directories = d }) directories
