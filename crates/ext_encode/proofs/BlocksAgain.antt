-- Directory blocks that were written are read again.
use Rattle.std.proofs.Common.{◌≡◌, ℕ, ◌+◌, ◌*◌, ◌≤◌, List, [], ◌∷◌, ◌++◌, length, All}
use Rattle.std.proofs.Common.{Option, refl, sym, ap, subst, ◌∙◌, arith, append_assoc, length-append}
use Rattle.std.specs.Prelude.{◌≢◌}
use Rattle.std.specs.List.{AllByRecursion, flat_map}
use Rattle.std.proofs.lemmas.Grind.{flat_map-append}
use Rattle.index_parts.proofs.Encodings.{offset_is, offset_some}
use Rattle.index_parts.specs.Limit.{IsWithin}
use Rattle.index_parts.specs.Numbers.{IsUpTo}
use Rattle.index_parts.specs.Offset.{offset_bytes}
use Rattle.ext_untracked.specs.Blocks.{Block, block, Blocks, none, more, how_many_blocks}
use Rattle.ext_untracked.specs.Blocks.{SpellNames, IsBlock, AreBlocks, block_size, DirectoryValue, bare_directory}
use Rattle.ext_untracked.specs.Blocks.{places_from, preorder_directories, all_listed}
use Rattle.ext_encode.specs.UntrackedImage.{names_bytes, start_bytes, untracked_directory_bytes}
use Rattle.ext_encode.specs.SpellableCache.{IsName, IsSpellableBlock}

-- ---- names

up_to_there : (name later : List ℕ) → All (λ b. b ≢ 0) name → 1 ≤ length name + length later
    → IsUpTo 0 (name ++ 0 ∷ later) name later
up_to_there name later apart some =
    record { parts = refl; apart = apart; two = omega (arith, length-append name (0 ∷ later), some) }

names_there : (names : List (List ℕ)) (rest : List ℕ) → AllByRecursion IsName names
    → SpellNames (names_bytes names ++ rest) names rest
names_there [] rest h = refl
names_there (name ∷ names) rest h =
    let later : List ℕ = names_bytes names ++ rest in
    let parts : names_bytes (name ∷ names) ++ rest ≡ name ++ 0 ∷ later =
    append_assoc (name ++ 0 ∷ []) (names_bytes names) rest ∙ append_assoc name (0 ∷ []) later in (
      later,
      subst (λ (l : List ℕ). IsUpTo 0 l name later) (sym parts)
          (up_to_there name later h.0.apart (omega (arith, h.0.some))),
      names_there names rest h.1,
    )

names_len : (names : List (List ℕ)) → AllByRecursion IsName names → 2 * length names ≤ length (names_bytes names)
names_len [] h = omega arith
names_len (name ∷ names) h = omega (
  arith,
  length-append (name ++ 0 ∷ []) (names_bytes names),
  length-append name (0 ∷ []),
  h.0.some,
  names_len names h.1,
)

-- ---- blocks

pub places_len : (place : ℕ) (bs : Blocks) → length (places_from place bs) ≡ how_many_blocks bs
places_len place none = refl
places_len place (more b bs) = omega (arith, places_len (place + block_size b) bs)

pub directory_len : (d : DirectoryValue) → 3 ≤ length (untracked_directory_bytes d)
unfolding untracked_directory_bytes start_bytes
directory_len d = omega (
  arith,
  length-append (offset_bytes (length d.untracked) ++ (offset_bytes (length d.subs) ++ (d.name ++ 0 ∷ [])))
      (names_bytes d.untracked),
  length-append (offset_bytes (length d.untracked)) (offset_bytes (length d.subs) ++ (d.name ++ 0 ∷ [])),
  length-append (offset_bytes (length d.subs)) (d.name ++ 0 ∷ []),
  length-append d.name (0 ∷ []),
  offset_some (length d.untracked),
  offset_some (length d.subs),
)

pub directories_len : (ds : List DirectoryValue) → 3 * length ds ≤ length (flat_map untracked_directory_bytes ds)
directories_len [] = omega arith
directories_len (d ∷ ds) = omega (
  arith,
  length-append (untracked_directory_bytes d) (flat_map untracked_directory_bytes ds),
  directory_len d,
  directories_len ds,
)

many_listed : (place : ℕ) (bs : Blocks) → how_many_blocks bs ≤ length (all_listed place bs)
many_listed place none = omega arith
many_listed place (more (block name untracked subs) bs) = omega (
  arith,
  many_listed (place + block_size (block name untracked subs)) bs,
  length-append (preorder_directories place (block name untracked subs)) (all_listed (place + block_size (block name untracked subs)) bs),
)

directory_parts : (d : DirectoryValue) (rest : List ℕ)
    → untracked_directory_bytes d ++ rest ≡ offset_bytes (length d.untracked)
    ++ (offset_bytes (length d.subs) ++ (d.name ++ 0 ∷ (names_bytes d.untracked ++ rest)))
unfolding untracked_directory_bytes start_bytes
directory_parts d rest =
    append_assoc (offset_bytes (length d.untracked) ++ (offset_bytes (length d.subs) ++ (d.name ++ 0 ∷ [])))
    (names_bytes d.untracked) rest
    ∙ append_assoc (offset_bytes (length d.untracked)) (offset_bytes (length d.subs) ++ (d.name ++ 0 ∷ []))
    (names_bytes d.untracked ++ rest)
    ∙ ap (λ (l : List ℕ). offset_bytes (length d.untracked) ++ l)
    (append_assoc (offset_bytes (length d.subs)) (d.name ++ 0 ∷ []) (names_bytes d.untracked ++ rest)
    ∙ ap (λ (l : List ℕ). offset_bytes (length d.subs) ++ l)
    (append_assoc d.name (0 ∷ []) (names_bytes d.untracked ++ rest)))

all_first : {X : Type 0} (P : X → Type 0) (xs ys : List X) → AllByRecursion P (xs ++ ys) → AllByRecursion P xs
all_first P [] ys h = tt
all_first P (x ∷ xs) ys h = (h.0, all_first P xs ys h.1)

all_behind : {X : Type 0} (P : X → Type 0) (xs ys : List X) → AllByRecursion P (xs ++ ys) → AllByRecursion P ys
all_behind P [] ys h = h
all_behind P (x ∷ xs) ys h = all_behind P xs ys h.1

mutual
  pub block_there : (limit : Option ℕ) (place : ℕ) (b : Block) (rest : List ℕ) → 1 ≤ length rest
      → AllByRecursion (IsSpellableBlock limit) (preorder_directories place b)
      → IsBlock limit (flat_map untracked_directory_bytes (preorder_directories place b) ++ rest) b rest
  block_there limit place (block name untracked subs) rest some h =
      let d : DirectoryValue = bare_directory name untracked (places_from (place + 1) subs) in
      let later : List DirectoryValue = all_listed (place + 1) subs in
      let nested : List ℕ = flat_map untracked_directory_bytes later ++ rest in
      let names : List ℕ = names_bytes untracked ++ nested in
      let count : length (places_from (place + 1) subs) ≡ how_many_blocks subs = places_len (place + 1) subs in
      let parts : flat_map untracked_directory_bytes (d ∷ later) ++ rest ≡ offset_bytes (length untracked)
      ++ (offset_bytes (how_many_blocks subs) ++ (name ++ 0 ∷ names)) =
      append_assoc (untracked_directory_bytes d) (flat_map untracked_directory_bytes later) rest
      ∙ directory_parts d nested
      ∙ ap (λ (n : ℕ). offset_bytes (length untracked) ++ (offset_bytes n ++ (name ++ 0 ∷ names))) count in
      let long : 2 * length untracked + 3 * length later + 1 ≤ length names = omega (
        arith,
        length-append (names_bytes untracked) nested,
        length-append (flat_map untracked_directory_bytes later) rest,
        names_len untracked h.0.names,
        directories_len later,
        some,
      ) in
      let many : how_many_blocks subs ≤ length later = many_listed (place + 1) subs in (
        names,
        nested,
        record {
          first = offset_bytes (length untracked);
          second = offset_bytes (how_many_blocks subs);
          parts = parts;
          is_untracked = offset_is (length untracked) h.0.untracked;
          is_subs = offset_is (how_many_blocks subs) (omega (arith, count, h.0.subs));
          is_name = up_to_there name names h.0.name (omega (arith, long));
          room_for_untracked = omega (arith, long);
          room_for_subs = omega (arith, long, many);
          untracked_within = h.0.untracked_within;
          subs_within = subst (λ (n : ℕ). IsWithin limit (8 * n)) count h.0.subs_within;
        },
        names_there untracked nested h.0.names,
        blocks_there limit (place + 1) subs rest some h.1,
      )

  blocks_there : (limit : Option ℕ) (place : ℕ) (bs : Blocks) (rest : List ℕ) → 1 ≤ length rest
      → AllByRecursion (IsSpellableBlock limit) (all_listed place bs)
      → AreBlocks limit (flat_map untracked_directory_bytes (all_listed place bs) ++ rest) bs rest
  blocks_there limit place none rest some h = refl
  blocks_there limit place (more b bs) rest some h =
      let first : List DirectoryValue = preorder_directories place b in
      let later : List DirectoryValue = all_listed (place + block_size b) bs in
      let after : List ℕ = flat_map untracked_directory_bytes later ++ rest in
      let parts : flat_map untracked_directory_bytes (first ++ later) ++ rest ≡ flat_map untracked_directory_bytes
      first ++ after =
      ap (λ (l : List ℕ). l ++ rest) (flat_map-append untracked_directory_bytes first later)
      ∙ append_assoc (flat_map untracked_directory_bytes first) (flat_map untracked_directory_bytes later) rest in (
        after,
        subst (λ (l : List ℕ). IsBlock limit l b after) (sym parts)
            (block_there limit place b after (omega (
              arith,
              some,
              length-append (flat_map untracked_directory_bytes
                  later) rest,
            ))
            (all_first (IsSpellableBlock limit) first later h)),
        blocks_there limit (place + block_size b) bs rest some (all_behind (IsSpellableBlock limit) first later h),
      )
