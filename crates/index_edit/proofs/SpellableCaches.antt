-- A cache that can be encoded still can be after a path is invalidated.
use Rattle.std.proofs.Common.{◌≡◌, ℕ, ◌+◌, Bool, true, false, cond, eqb, List, [], ◌∷◌, ◌++◌, length, map}
use Rattle.std.proofs.Common.{Option, Some, None, refl, sym, ap, subst, ◌∙◌, arith}
use Rattle.std.specs.Prelude.{◌≤◌, ◌<◌, ◌*◌, ◌^◌}
use Rattle.std.specs.List.{enumerate_from, list_any}
use Rattle.std.proofs.lemmas.List.{length-map}
use Rattle.std.proofs.lemmas.List.FromFn.{length-enumerate_from}
use Rattle.index_parts.specs.Limit.{IsWithin}
use Rattle.index_parts.specs.declared.hash.Kind.{Kind}
use Rattle.ext_untracked.specs.Blocks.{Block, Blocks, block, none, more, DirectoryValue, all_listed, bare_directory}
use Rattle.ext_untracked.specs.Blocks.{block_depth, block_size, blocks_depth, blocks_size, preorder_directories}
use Rattle.ext_untracked.specs.Blocks.{places_from}
use Rattle.ext_untracked.specs.Untracked.{Cache}
use Rattle.ext_untracked.specs.UntrackedEdits.{concerned, folders_of, path_invalidated, tells_directories}
use Rattle.ext_untracked.specs.UntrackedEdits.{invalidated_directory}
use Rattle.ext_untracked.specs.UntrackedEdits.{unlisted_at, way}
use Rattle.ext_untracked.proofs.Invalidating.{stays}
use Rattle.ext_untracked.proofs.Nests.{listed_len}
use Rattle.ext_encode.specs.SpellableCache.{AreOfBlocks, IsSpellableBlock, IsSpellableCache}
use Rattle.ext_encode.specs.SpellableCache.{IsSpellableKnown, bare}

-- no smaller number passes a limit
within_less : (limit : Option ℕ) (size : ℕ) → IsWithin limit (24 * size) → IsWithin limit (24 * 0)
within_less None size h = tt
within_less (Some most) size h = omega arith

module _ (places : List ℕ) where
  abbrev from : ℕ → List DirectoryValue → List DirectoryValue
  from n ds = map (λ x. cond (list_any (λ p. eqb p x.0) places) (invalidated_directory x.1) x.1) (enumerate_from n ds)

  from_append : (n : ℕ) (xs ys : List DirectoryValue) → from n (xs ++ ys) ≡ from n xs ++ from (n + length xs) ys
  from_append n [] ys = let same : n ≡ n + 0 = omega arith in ap (λ m. from m ys) same
  from_append n (x ∷ xs) ys =
      let first = cond (list_any (λ p. eqb p n) places) (invalidated_directory x) x in
      let same : n + 1 + length xs ≡ n + length (x ∷ xs) = omega arith in
      ap (λ (l : List DirectoryValue). first ∷ l) (from_append (n + 1) xs ys)
      ∙ ap (λ m. first ∷ (from (n + 1) xs ++ from m ys)) same

  bare_one : (b : Bool) (d : DirectoryValue)
      → bare (cond b (invalidated_directory d) d) ≡ cond b (invalidated_directory (bare d)) (bare d)
  bare_one true d = refl
  bare_one false d = refl

  bare_from : (n : ℕ) (ds : List DirectoryValue) → map bare (from n ds) ≡ from n (map bare ds)
  bare_from n [] = refl
  bare_from n (d ∷ ds) = rw (bare_one (list_any (λ p. eqb p n) places) d, bare_from (n + 1) ds) refl

  -- ---- the blocks of which those at these places have no untracked names

  abbrev mutual
    off : ℕ → Block → Block
    off n (block name untracked subs) =
        block name (cond (list_any (λ p. eqb p n) places) [] untracked) (all_off (n + 1) subs)

    all_off : ℕ → Blocks → Blocks
    all_off n none = none
    all_off n (more b bs) = more (off n b) (all_off (n + block_size b) bs)

  mutual
    size_same : (n : ℕ) (b : Block) → block_size (off n b) ≡ block_size b
    size_same n (block name untracked subs) = ap (λ s. 1 + s) (sizes_same (n + 1) subs)

    sizes_same : (n : ℕ) (bs : Blocks) → blocks_size (all_off n bs) ≡ blocks_size bs
    sizes_same n none = refl
    sizes_same n (more b bs) = rw (size_same n b, sizes_same (n + block_size b) bs) refl

  mutual
    depth_same : (n : ℕ) (b : Block) → block_depth (off n b) ≡ block_depth b
    depth_same n (block name untracked subs) = depths_same (n + 1) subs

    depths_same : (n : ℕ) (bs : Blocks) → blocks_depth (all_off n bs) ≡ blocks_depth bs
    depths_same n none = refl
    depths_same n (more b bs) = rw (depth_same n b, depths_same (n + block_size b) bs) refl

  places_same : (m n : ℕ) (bs : Blocks) → places_from m (all_off n bs) ≡ places_from m bs
  places_same m n none = refl
  places_same m n (more b bs) =
      ap (λ s. m ∷ places_from (m + s) (all_off (n + block_size b) bs)) (size_same n b)
      ∙ ap (λ l. m ∷ l) (places_same (m + block_size b) (n + block_size b) bs)

  bare_off : (b : Bool) (name : List ℕ) (untracked : List (List ℕ)) (subs : List ℕ)
      → cond b (invalidated_directory (bare_directory name untracked subs)) (bare_directory name untracked subs)
      ≡ bare_directory name (cond b [] untracked) subs
  bare_off true name untracked subs = refl
  bare_off false name untracked subs = refl

  mutual
    listed_off : (n : ℕ) (b : Block) → from n (preorder_directories n b) ≡ preorder_directories n (off n b)
    listed_off n (block name untracked subs) =
        let b = list_any (λ p. eqb p n) places in
        rw (
          bare_off b name untracked (places_from (n + 1) subs),
          all_listed_off (n + 1) subs,
          places_same (n + 1) (n + 1) subs,
        ) refl

    all_listed_off : (n : ℕ) (bs : Blocks) → from n (all_listed n bs) ≡ all_listed n (all_off n bs)
    all_listed_off n none = refl
    all_listed_off n (more b bs) =
        let s = block_size b in
        from_append n (preorder_directories n b) (all_listed (n + s) bs)
        ∙ ap (λ l. from n (preorder_directories n b) ++ from (n + l) (all_listed (n + s) bs)) (listed_len n b)
        ∙ ap (λ l. l ++ from (n + s) (all_listed (n + s) bs)) (listed_off n b)
        ∙ ap (λ l. preorder_directories n (off n b) ++ l) (all_listed_off (n + s) bs)
        ∙ ap (λ t. preorder_directories n (off n b) ++ all_listed (n + t) (all_off (n + s) bs)) (sym (size_same n b))

  tree_stays : (ds : List DirectoryValue) → AreOfBlocks ds → AreOfBlocks (unlisted_at places ds)
  tree_stays [] h = tt
  tree_stays (d ∷ ds) h = record {
    root = off 0 h.root;
    shallow = subst (λ n. n ≤ 2048) (sym (depth_same 0 h.root)) h.shallow;
    listed = bare_from 0 (d ∷ ds) ∙ ap (from 0) h.listed ∙ listed_off 0 h.root;
  }

  len_same : (ds : List DirectoryValue) → length (unlisted_at places ds) ≡ length ds
  len_same ds =
      length-map (enumerate_from 0 ds) (λ x. cond (list_any (λ p. eqb p x.0) places) (invalidated_directory x.1) x.1)
      ∙ length-enumerate_from 0 ds

pub spellable_stays : (kind : Kind) (limit : Option ℕ) (path : List ℕ) (c : Cache) → IsSpellableCache kind limit c
    → IsSpellableCache kind limit (path_invalidated path c)
spellable_stays kind limit path c h =
    let ds = c.directories in
    let places = concerned (tells_directories c.preamble.dir_flags) (folders_of path) (way ds (folders_of path) 0) in
    record {
      preamble = h.preamble;
      few = subst (λ n. n < 2 ^ 32) (sym (len_same places ds)) h.few;
      within = subst (λ n. IsWithin limit (152 * n)) (sym (len_same places ds)) h.within;
      tree = tree_stays places ds h.tree;
      blocks = stays (IsSpellableBlock limit) (λ d b. record {
        name = b.name;
        names = tt;
        untracked = omega arith;
        subs = b.subs;
        untracked_within = within_less limit (length d.untracked) b.untracked_within;
        subs_within = b.subs_within;
      }) places ds h.blocks;
      known = stays (IsSpellableKnown kind) (λ d k. record { stat = tt; exclude = k.exclude }) places ds h.known;
    }
