-- Bytes are one block with all that is in it; and a row of blocks, one more at its end, and the first taken off.
use Rattle.std.proofs.Common.{◌≡◌, ℕ, ◌+◌, ◌-◌, ◌<◌, ◌≤◌, max, List, [], ◌∷◌, ◌++◌, length, map, Option, Some, None}
use Rattle.std.proofs.Common.{refl, sym, ap, subst, ◌∙◌, arith, append_assoc, length-append}
use Rattle.std.specs.List.{AllByRecursion}
use Rattle.std.proofs.lemmas.List.{append-nil, length-map}
use Rattle.ext_untracked.specs.Blocks.{Block, Blocks, block, none, more, how_many_blocks, IsBlockHead, IsBlock}
use Rattle.ext_untracked.specs.Blocks.{AreBlocks, block_depth, blocks_depth, block_size, blocks_size, DirectoryValue}
use Rattle.ext_untracked.specs.Blocks.{directory_value, bare_directory, places_from, preorder_directories, all_listed}
use Rattle.ext_untracked.specs.BitmapSteps.{changed_directory, with_subs, IsBare}
use Rattle.ext_untracked.specs.CacheSteps.{Start, start_at}
use Rattle.ext_untracked.specs.declared.Directory.{Directory}
use Rattle.ext_untracked.proofs.BlockHeads.{IsStart, start_takes, start_again, one_start}
use Rattle.ext_untracked.proofs.Marking.{change_at}

abbrev pub blocks_from : List Block → Blocks
blocks_from [] = none
blocks_from (b ∷ bs) = more b (blocks_from bs)

abbrev start_of : List ℕ → List (List ℕ) → Blocks → Start
start_of name untracked subs = record { name = name; untracked = untracked; subs = how_many_blocks subs }

module _ (limit : Option ℕ) where
  starts : (bytes : List ℕ) (name : List ℕ) (untracked : List (List ℕ)) (subs : Blocks) (rest : List ℕ)
      (p : IsBlock limit bytes (block name untracked subs) rest)
      → IsStart limit bytes (start_of name untracked subs) p.1
  starts bytes name untracked subs rest p = record { names = p.0; is_head = p.2; are_names = p.3 }

  mutual
    pub one_block : (t u : Block) (bytes rest end : List ℕ) → IsBlock limit bytes t rest → IsBlock limit bytes u end
        → (t ≡ u) × (rest ≡ end)
    one_block (block n x ts) (block m y us) bytes rest end p q =
        let same = one_start limit bytes (start_of n x ts) (start_of m y us) p.1 q.1 (starts bytes n x ts rest p)
        (starts bytes m y us end q) in
        let name : n ≡ m = ap (λ (s : Start). s.name) same.0 in
        let untracked : x ≡ y = ap (λ (s : Start). s.untracked) same.0 in
        let number : how_many_blocks ts ≡ how_many_blocks us = ap (λ (s : Start). s.subs) same.0 in
        let others : AreBlocks limit p.1 us end = subst (λ (l : List ℕ). AreBlocks limit l us end) (sym same.1) q.4 in
        let below = one_block_row ts us p.1 rest end number p.4 others in
        let subs : ts ≡ us = below.0 in
        (rw (name, untracked, subs) refl, below.1)

    pub one_block_row : (ts us : Blocks) (bytes rest end : List ℕ) → how_many_blocks ts ≡ how_many_blocks us
        → AreBlocks limit bytes ts rest → AreBlocks limit bytes us end → (ts ≡ us) × (rest ≡ end)
    one_block_row none none bytes rest end e p q = (refl, sym p ∙ q)
    one_block_row none (more u us) bytes rest end e p q = absurd (omega arith)
    one_block_row (more t ts) none bytes rest end e p q = absurd (omega arith)
    one_block_row (more t ts) (more u us) bytes rest end e p q =
        let first = one_block t u bytes p.0 q.0 p.1 q.1 in
        let others : AreBlocks limit p.0 us end = subst (λ (l : List ℕ). AreBlocks limit l us end) (sym first.1) q.2 in
        let behind = one_block_row ts us p.0 rest end (omega arith) p.2 others in
        let block_is : t ≡ u = first.0 in
        let blocks_are : ts ≡ us = behind.0 in
        (rw (block_is, blocks_are) refl, behind.1)

  -- ---- a row that is read

  -- the others follow blocks that were read
  pub after_row : (us : List Block) (ts : Blocks) (bytes rest end : List ℕ)
      → AreBlocks limit bytes (blocks_from us) rest → AreBlocks limit bytes ts end → length us ≤ how_many_blocks ts
      → (vs : Blocks) × AreBlocks limit rest vs end × (how_many_blocks vs ≡ how_many_blocks ts - length us)
      × (blocks_depth vs ≤ blocks_depth ts)
  after_row [] ts bytes rest end p q le =
      (ts, subst (λ (l : List ℕ). AreBlocks limit l ts end) p q, omega arith, omega arith)
  after_row (u ∷ us) none bytes rest end p q le = absurd (omega arith)
  after_row (u ∷ us) (more t ts) bytes rest end p q le =
      let first = one_block u t bytes p.0 q.0 p.1 q.1 in
      let others : AreBlocks limit p.0 ts end = subst (λ (l : List ℕ). AreBlocks limit l ts end) (sym first.1) q.2 in
      let behind = after_row us ts p.0 rest end p.2 others (omega arith) in
      (behind.0, behind.1, omega (arith, behind.2), omega (arith, behind.3))

  pub record HasFirstBlock (levels : ℕ) (bytes : List ℕ) : Type 0 where
    pub first : Block
    pub after : List ℕ
    pub level : 0 < levels
    pub is_first : IsBlock limit bytes first after
    pub shallow : block_depth first ≤ levels - 1

  first_by : (vs : Blocks) (levels : ℕ) (bytes end : List ℕ) → 0 < how_many_blocks vs → AreBlocks limit bytes vs end
      → blocks_depth vs ≤ levels → HasFirstBlock levels bytes
  first_by none levels bytes end some p d = absurd (omega arith)
  first_by (more t ts) levels bytes end some p d =
      record { first = t; after = p.0; level = omega arith; is_first = p.1; shallow = omega arith }

  -- the block whose start was read has blocks after those of its blocks that were read
  pub next_block : (s : Start) (tail rest end bytes : List ℕ) (us : List Block) (b : Block) (levels : ℕ)
      → start_at limit bytes ≡ Some (s, tail) → IsBlock limit bytes b end → block_depth b ≤ levels
      → AreBlocks limit tail (blocks_from us) rest → length us < s.subs → HasFirstBlock levels rest
  next_block s tail rest end bytes us (block n x ts) levels e p d q lt =
      let same = one_start limit bytes (start_of n x ts) s p.1 tail (starts bytes n x ts end p)
      (start_takes limit bytes (s, tail) e) in
      let number : how_many_blocks ts ≡ s.subs = ap (λ (t : Start). t.subs) same.0 in
      let here : AreBlocks limit tail ts end = subst (λ (l : List ℕ). AreBlocks limit l ts end) same.1 p.4 in
      let behind = after_row us ts tail rest end q here (omega arith) in
      first_by behind.0 levels rest end (omega (arith, behind.2)) behind.1 (omega (arith, behind.3))

  -- if no start is read, there is no block
  pub no_block : (b : Block) (bytes rest : List ℕ) → start_at limit bytes ≡ None → IsBlock limit bytes b rest → ⊥
  no_block (block n x ts) bytes rest e p =
      let found = start_again limit bytes (start_of n x ts) p.1 (starts bytes n x ts rest p) in
      cc

  -- the block of a start that was read, with these blocks in it
  pub block_from : (s : Start) (tail rest bytes : List ℕ) (us : List Block) → start_at limit bytes ≡ Some (s, tail)
      → AreBlocks limit tail (blocks_from us) rest → how_many_blocks (blocks_from us) ≡ s.subs
      → IsBlock limit bytes (block s.name s.untracked (blocks_from us)) rest
  block_from s tail rest bytes us e p number =
      let start = start_takes limit bytes (s, tail) e in (
        start.names,
        tail,
        subst (λ (n : ℕ). IsBlockHead limit bytes (record {
          untracked = length s.untracked;
          subs = n;
          name = s.name;
        }) start.names) (sym number) start.is_head,
        start.are_names,
        p,
      )

  pub block_row_push : (us : List Block) (b : Block) (bytes middle rest : List ℕ)
      → AreBlocks limit bytes (blocks_from us) middle → IsBlock limit middle b rest
      → AreBlocks limit bytes (blocks_from (us ++ b ∷ [])) rest
  block_row_push [] b bytes middle rest p q = (rest, subst (λ (l : List ℕ). IsBlock limit l b rest) (sym p) q, refl)
  block_row_push (u ∷ us) b bytes middle rest p q = (p.0, p.1, block_row_push us b p.0 middle rest p.2 q)

-- ---- one more block

pub number_of_row : (us : List Block) → how_many_blocks (blocks_from us) ≡ length us
number_of_row [] = refl
number_of_row (u ∷ us) = omega (arith, number_of_row us)

pub block_depth_push : (us : List Block) (b : Block)
    → blocks_depth (blocks_from (us ++ b ∷ [])) ≡ max (blocks_depth (blocks_from us)) (block_depth b + 1)
block_depth_push [] b = omega arith
block_depth_push (u ∷ us) b = omega (arith, block_depth_push us b)

pub places_push : (place : ℕ) (us : List Block) (b : Block) → places_from place (blocks_from (us ++ b ∷ []))
    ≡ places_from place (blocks_from us) ++ (place + blocks_size (blocks_from us)) ∷ []
places_push place [] b = let e : place + 0 ≡ place = omega arith in rw e refl
places_push place (u ∷ us) b =
    let e : place + block_size u + blocks_size (blocks_from us)
    ≡ place + (block_size u + blocks_size (blocks_from us)) = omega arith in
    ap (λ (l : List ℕ). place ∷ l) (places_push (place + block_size u) us b
    ∙ ap (λ (n : ℕ). places_from (place + block_size u) (blocks_from us) ++ n ∷ []) e)

listed_push : (place : ℕ) (us : List Block) (b : Block) → all_listed place (blocks_from (us ++ b ∷ []))
    ≡ all_listed place (blocks_from us) ++ preorder_directories (place + blocks_size (blocks_from us)) b
listed_push place [] b = let e : place + 0 ≡ place = omega arith in rw (e, append-nil (preorder_directories place b))
    refl
listed_push place (u ∷ us) b =
    let e : place + block_size u + blocks_size (blocks_from us)
    ≡ place + (block_size u + blocks_size (blocks_from us)) = omega arith in
    ap (λ (l : List DirectoryValue). preorder_directories place u ++ l) (listed_push (place + block_size u) us b
    ∙ ap (λ (n : ℕ). all_listed (place + block_size u) (blocks_from us) ++ preorder_directories n b) e)
    ∙ sym (append_assoc (preorder_directories place u) (all_listed (place + block_size u) (blocks_from us))
    (preorder_directories (place + (block_size u + blocks_size (blocks_from us))) b))

mutual
  pub listed_len : (place : ℕ) (b : Block) → length (preorder_directories place b) ≡ block_size b
  listed_len place (block n x ts) = omega (arith, all_listed_len (place + 1) ts)

  pub all_listed_len : (place : ℕ) (bs : Blocks) → length (all_listed place bs) ≡ blocks_size bs
  all_listed_len place none = refl
  all_listed_len place (more b bs) =
      omega (
        arith,
        length-append (preorder_directories place b) (all_listed (place + block_size b) bs),
        listed_len place b,
        all_listed_len (place + block_size b) bs,
      )

-- ---- the directories read so far

pub directories_len : (xs ys : List Directory) (place : ℕ) (bs : Blocks)
    → map directory_value xs ≡ map directory_value ys ++ all_listed (place + 1) bs → length ys ≡ place + 1
    → length xs ≡ place + 1 + blocks_size bs
directories_len xs ys place bs e n =
    omega (
      arith,
      length-map xs directory_value,
      length-map ys directory_value,
      ap length e,
      length-append (map directory_value ys) (all_listed (place + 1) bs),
      all_listed_len (place + 1) bs,
    )

pub directories_push : (after : List DirectoryValue) (xs ys : List Directory) (place n : ℕ) (us : List Block)
    (b : Block) → after ≡ map directory_value xs ++ preorder_directories n b
    → n ≡ place + 1 + blocks_size (blocks_from us)
    → map directory_value xs ≡ map directory_value ys ++ all_listed (place + 1) (blocks_from us)
    → after ≡ map directory_value ys ++ all_listed (place + 1) (blocks_from (us ++ b ∷ []))
directories_push after xs ys place n us b e k f =
    e ∙ ap (λ (l : List DirectoryValue). l ++ preorder_directories n b) f
    ∙ append_assoc (map directory_value ys) (all_listed (place + 1) (blocks_from us)) (preorder_directories n b)
    ∙ ap (λ (m : ℕ). map directory_value ys ++ (all_listed (place + 1) (blocks_from us) ++ preorder_directories m b)) k
    ∙ ap (λ (l : List DirectoryValue). map directory_value ys ++ l) (sym (listed_push (place + 1) us b))

-- the directories of a block, once the places of those in it are set
pub directories_done : (new : List DirectoryValue) (xs pushed old : List Directory) (place : ℕ) (name : List ℕ)
    (untracked : List (List ℕ)) (subs : List ℕ) (bs : Blocks)
    → new ≡ changed_directory (with_subs subs) place (map directory_value xs)
    → map directory_value xs ≡ map directory_value pushed ++ all_listed (place + 1) bs
    → map directory_value pushed ≡ map directory_value old ++ bare_directory name untracked [] ∷ []
    → subs ≡ places_from (place + 1) bs → place ≡ length old
    → new ≡ map directory_value old ++ preorder_directories (length old) (block name untracked bs)
directories_done new xs pushed old place name untracked subs bs e f g h k =
    let at : place ≡ length (map directory_value old) = k ∙ sym (length-map old directory_value) in
    let behind : List DirectoryValue = all_listed (place + 1) bs in
    let split : map directory_value xs ≡ map directory_value old ++ bare_directory name untracked [] ∷ behind =
    f ∙ ap (λ (l : List DirectoryValue). l ++ behind) g
    ∙ append_assoc (map directory_value old) (bare_directory name untracked [] ∷ []) behind in
    e ∙ ap (changed_directory (with_subs subs) place) split
    ∙ change_at (with_subs subs) place (map directory_value old) (bare_directory name untracked []) behind at
    ∙ ap (λ (s : List ℕ). map directory_value old ++ bare_directory name untracked s ∷ behind) h
    ∙ ap (λ (n : ℕ). map directory_value old ++ preorder_directories n (block name untracked bs)) k

-- ---- nothing else is known of them

unmarked_append : (xs ys : List DirectoryValue) → AllByRecursion IsBare xs → AllByRecursion IsBare ys
    → AllByRecursion IsBare (xs ++ ys)
unmarked_append [] ys a b = b
unmarked_append (x ∷ xs) ys a b = (a.0, unmarked_append xs ys a.1 b)

mutual
  pub listed_unmarked : (place : ℕ) (b : Block) → AllByRecursion IsBare (preorder_directories place b)
  listed_unmarked place (block n x ts) = ((refl, refl, refl), all_unmarked (place + 1) ts)

  all_unmarked : (place : ℕ) (bs : Blocks) → AllByRecursion IsBare (all_listed place bs)
  all_unmarked place none = tt
  all_unmarked place (more b bs) = unmarked_append (preorder_directories place b) (all_listed (place + block_size b) bs)
      (listed_unmarked place b) (all_unmarked (place + block_size b) bs)
