-- Bytes are those after the blocks of an untracked cache, or aren't.
use Rattle.std.proofs.Common.{◌≡◌, ℕ, zero, suc, ◌+◌, ◌*◌, ◌<◌, ◌≤◌, ◌⊎◌, inl, inr, List, [], ◌∷◌, ◌++◌, length, map}
use Rattle.std.proofs.Common.{take, drop, All, Result, Ok, Err, refl, sym, ap, subst, ◌∙◌, arith}
use Rattle.std.specs.List.{enumerate_from}
use Rattle.std.proofs.lemmas.List.{take-append-drop, length-take}
use Rattle.std.proofs.lemmas.List.Elements.{All-nil, All-cons, All-head, All-tail}
use Rattle.ext_bitmap.specs.Bitmap.{Bitmap, IsBitmap, HasBitmap}
use Rattle.ext_bitmap.specs.Bits.{places}
use Rattle.index_parts.specs.Id.{id_len}
use Rattle.ext_bitmap.specs.UnpackingSteps.{unpacked}
use Rattle.ext_bitmap.specs.declared.ewah.iter.Malformed.{Malformed}
use Rattle.index_parts.specs.declared.hash.Kind.{Kind}
use Rattle.ext_bitmap.proofs.BitmapFaults.{bitmap_or_fault, no_fault}
use Rattle.ext_bitmap.proofs.Unpackings.{le_or_lt, stand_for_unpacked, one_unpacking}
use Rattle.ext_untracked.specs.Blocks.{DirectoryValue}
use Rattle.ext_untracked.specs.CacheBitmaps.{ListsBelow, DirectoryBitmaps, AreBitmaps, ArePieces, with_bitmaps}
use Rattle.ext_untracked.specs.CacheBitmaps.{IsTail}
use Rattle.ext_untracked.proofs.BitmapPlaces.{oks, one_list, Lists, bitmap_is}
use Rattle.ext_untracked.proofs.BlockReadings.{decided_by}
use Rattle.ext_untracked.proofs.EqualPieces.{no_pieces, pieces_push, pieces_len}
use Rattle.index_extensions.proofs.Readings.{Decided, same_or_not}
use Rattle.ext_untracked.proofs.Tails.{tail_from, pieces_of, few_stats, few_ids, one_left}

module _ (count : ℕ) where
  -- ---- the places of a bitmap

  -- items are these places, each of which is a directory's
  record AreBelow (items : List (Result ℕ Malformed)) (ps : List ℕ) : Type 0 where
    are : oks ps ≡ items
    below : All (λ place. place < count) ps

  not_err : (fault : Malformed) (items : List (Result ℕ Malformed)) (ps : List ℕ) → AreBelow (Err fault ∷ items) ps → ⊥
  not_err fault items [] h = let e : oks [] ≡ Err fault ∷ items = h.are in absurd cc
  not_err fault items (p ∷ ps) h = let e : oks (p ∷ ps) ≡ Err fault ∷ items = h.are in absurd cc

  first_place : (place : ℕ) (items : List (Result ℕ Malformed)) (ps : List ℕ) → AreBelow (Ok place ∷ items) ps
      → (place < count) × ((qs : List ℕ) × AreBelow items qs)
  first_place place items [] h = let e : oks [] ≡ Ok place ∷ items = h.are in absurd cc
  first_place place items (p ∷ ps) h =
      let e : oks (p ∷ ps) ≡ Ok place ∷ items = h.are in
      let is : p ≡ place = cc in
      let others : oks ps ≡ items = cc in (
        subst (λ (n : ℕ). n < count) is (All-head (λ n. n < count) p ps h.below),
        (ps, record { are = others; below = All-tail (λ n. n < count) p ps h.below }),
      )

  next_place : (place : ℕ) (items : List (Result ℕ Malformed)) → (count ≤ place) ⊎ (place < count)
      → Decided (AreBelow items) → Decided (AreBelow (Ok place ∷ items))
  next_place place items (inl above) others =
      inr (λ ps h. let low : place < count = (first_place place items ps h).0 in omega (arith, above, low))
  next_place place items (inr low) others =
      decided_by (AreBelow items) (AreBelow (Ok place ∷ items)) others
      (λ ps h. inl (
        place ∷ ps,
        record {
          are = ap (λ (l : List (Result ℕ Malformed)). Ok place ∷ l) h.are;
          below = All-cons (λ n. n < count) place ps low h.below;
        },
      ))
      (λ ps h. (first_place place items ps h).1)

  places_reading : (items : List (Result ℕ Malformed)) → Decided (AreBelow items)
  places_reading [] = inl ([], record { are = refl; below = All-nil (λ n. n < count) })
  places_reading (Err fault ∷ items) = inr (λ ps h. not_err fault items ps h)
  places_reading (Ok place ∷ items) = next_place place items (le_or_lt count place) (places_reading items)

  -- ---- a bitmap

  -- the places that the words of a bitmap list
  below_of : (b : Bitmap) (ps : List ℕ) → Lists count b ps → AreBelow (places 0 (unpacked b.words)) ps
  below_of b ps h = record {
    are = h.listed.listed ∙ ap (places 0) (one_unpacking b.words h.listed.bits
        (unpacked b.words) h.listed.stand_for (stand_for_unpacked b.words));
    below = h.below;
  }

  list_with : (bytes rest : List ℕ) (b : Bitmap) → IsBitmap bytes b rest → b.num_bits ≤ count → (ps : List ℕ)
      → AreBelow (places 0 (unpacked b.words)) ps → ListsBelow count bytes ps rest
  list_with bytes rest b p few ps h = record {
    bitmap = b;
    is_bitmap = p;
    few = few;
    listed = record { bits = unpacked b.words; stand_for = stand_for_unpacked b.words; listed = h.are };
    below = h.below;
  }

  abbrev ListAt : List ℕ → Type 0
  ListAt bytes = Decided (λ (x : List ℕ × List ℕ). ListsBelow count bytes x.0 x.1)

  list_by : (bytes : List ℕ) (h : HasBitmap bytes) → (h.value.num_bits ≤ count) ⊎ (count < h.value.num_bits)
      → ListAt bytes
  list_by bytes h (inl few) =
      decided_by (AreBelow (places 0 (unpacked h.value.words)))
      (λ (x : List ℕ × List ℕ). ListsBelow count bytes x.0 x.1) (places_reading (places 0 (unpacked h.value.words)))
      (λ ps p. inl ((ps, h.rest), list_with bytes h.rest h.value h.is_bitmap few ps p))
      (λ x q. (x.0, below_of h.value x.0 (bitmap_is count bytes h.value h.rest x.0 x.1 h.is_bitmap q)))
  list_by bytes h (inr many) =
      inr (λ x q. let l = bitmap_is count bytes h.value h.rest x.0 x.1 h.is_bitmap q in omega (arith, l.few, many))

  list_reading : (bytes : List ℕ) → ListAt bytes
  list_reading bytes = elim (bitmap_or_fault bytes) [
    | inl h ↦ list_by bytes h (le_or_lt h.value.num_bits count)
    | inr fault ↦
        inr (λ x q. no_fault bytes fault.0 (record { value = q.bitmap; rest = x.1; is_bitmap = q.is_bitmap }) fault.1)
  ]

  -- ---- three bitmaps

  abbrev BitmapsAt : List ℕ → Type 0
  BitmapsAt bytes = Decided (λ (x : DirectoryBitmaps × List ℕ). AreBitmaps count bytes x.0 x.1)

  second_of : (bytes middle rest vs : List ℕ) (m : DirectoryBitmaps) → ListsBelow count bytes vs middle
      → (q : AreBitmaps count bytes m rest) → ListsBelow count middle m.check_only q.behind_check_only
  second_of bytes middle rest vs m p q = subst (λ (l : List ℕ). ListsBelow count l m.check_only q.behind_check_only)
      (one_list count bytes m.valid vs q.behind_valid middle q.is_valid p).1 q.is_check_only

  third_of : (bytes middle after rest vs cs : List ℕ) (m : DirectoryBitmaps) → ListsBelow count bytes vs middle
      → ListsBelow count middle cs after → AreBitmaps count bytes m rest → ListsBelow count after m.hash_valid rest
  third_of bytes middle after rest vs cs m p h q =
      let second = second_of bytes middle rest vs m p q in
      subst (λ (l : List ℕ). ListsBelow count l m.hash_valid rest)
      (one_list count middle m.check_only cs q.behind_check_only after second h).1 q.is_hash_valid

  bitmaps_third : (bytes middle after vs cs : List ℕ) → ListsBelow count bytes vs middle
      → ListsBelow count middle cs after → BitmapsAt bytes
  bitmaps_third bytes middle after vs cs p h =
      decided_by (λ (x : List ℕ × List ℕ). ListsBelow count after x.0 x.1)
      (λ (x : DirectoryBitmaps × List ℕ). AreBitmaps count bytes x.0 x.1) (list_reading after)
      (λ x i. inl (
        (record { valid = vs; check_only = cs; hash_valid = x.0 }, x.1),
        record {
          behind_valid = middle;
          behind_check_only = after;
          is_valid = p;
          is_check_only = h;
          is_hash_valid = i;
        },
      ))
      (λ y q. ((y.0.hash_valid, y.1), third_of bytes middle after y.1 vs cs y.0 p h q))

  bitmaps_second : (bytes middle vs : List ℕ) → ListsBelow count bytes vs middle → BitmapsAt bytes
  bitmaps_second bytes middle vs p =
      decided_by (λ (x : List ℕ × List ℕ). ListsBelow count middle x.0 x.1)
      (λ (x : DirectoryBitmaps × List ℕ). AreBitmaps count bytes x.0 x.1) (list_reading middle)
      (λ x h. bitmaps_third bytes middle x.1 vs x.0 p h)
      (λ y q. ((y.0.check_only, q.behind_check_only), second_of bytes middle y.1 vs y.0 p q))

  pub bitmaps_reading : (bytes : List ℕ) → Decided (λ (x : DirectoryBitmaps × List ℕ). AreBitmaps count bytes x.0 x.1)
  bitmaps_reading bytes =
      decided_by (λ (x : List ℕ × List ℕ). ListsBelow count bytes x.0 x.1)
      (λ (x : DirectoryBitmaps × List ℕ). AreBitmaps count bytes x.0 x.1) (list_reading bytes)
      (λ x p. bitmaps_second bytes x.1 x.0 p)
      (λ y q. ((y.0.valid, q.behind_valid), q.is_valid))

-- ---- pieces

-- one more of them after pieces
next_piece : (size n : ℕ) (bytes : List ℕ) (pieces : List (List ℕ)) (rest : List ℕ) → ArePieces size n bytes pieces rest
    → size ≤ length rest → ArePieces size (suc n) bytes (pieces ++ take size rest ∷ []) (drop size rest)
next_piece size n bytes pieces rest p enough =
    let len : length (take size rest) ≡ size = omega (arith, enough, length-take size rest) in
    let cut : rest ≡ take size rest ++ drop size rest = sym (take-append-drop size rest) in
    let number : n + 1 ≡ suc n = omega arith in
    subst (λ (k : ℕ). ArePieces size k bytes (pieces ++ take size rest ∷ []) (drop size rest)) number
    (pieces_push size n bytes pieces rest (take size rest) (drop size rest) p cut len)

-- if there are enough bytes, they are `n` pieces
some_pieces : (size n : ℕ) (bytes : List ℕ) → size * n ≤ length bytes
    → (x : List (List ℕ) × List ℕ) × ArePieces size n bytes x.0 x.1
some_pieces size zero bytes room = (([], bytes), no_pieces size bytes)
some_pieces size (suc n) bytes room =
    let more : size * suc n ≡ size * n + size = omega arith in
    let p = some_pieces size n bytes (omega (arith, more, room)) in
    let enough : size ≤ length p.0.1 = omega (arith, more, room, pieces_len size n bytes p.0.0 p.0.1 p.1) in
    ((p.0.0 ++ take size p.0.1 ∷ [], drop size p.0.1), next_piece size n bytes p.0.0 p.0.1 p.1 enough)

-- ---- the tail

module _ (kind : Kind) (bare : List DirectoryValue) (bytes : List ℕ) where
  abbrev TailAt : Type 0
  TailAt = Decided (IsTail kind bare bytes)

  module _ (m : DirectoryBitmaps) (behind : List ℕ) (are_bitmaps : AreBitmaps (length bare) bytes m behind) where
    last_by : (stats : List (List ℕ)) (after : List ℕ) (ids : List (List ℕ)) (rest : List ℕ)
        → ArePieces 36 (length m.valid) behind stats after
        → ArePieces (id_len kind) (length m.hash_valid) after ids rest → (length rest ≡ 1) ⊎ (length rest ≡ 1 → ⊥)
        → TailAt
    last_by stats after ids rest s i (inl one) =
        let ds : List DirectoryValue = map (λ x. with_bitmaps kind m stats ids x.0 x.1) (enumerate_from 0 bare) in
        inl (ds, tail_from kind bare bytes m behind stats after ids rest ds are_bitmaps s i one refl)
    last_by stats after ids rest s i (inr other) = inr (λ ds t. other (one_left kind bare bytes m behind stats after ids
        rest (pieces_of kind bare bytes m behind ds are_bitmaps t) s i))

    ids_by : (stats : List (List ℕ)) (after : List ℕ) → ArePieces 36 (length m.valid) behind stats after
        → (id_len kind * length m.hash_valid ≤ length after) ⊎ (length after < id_len kind * length m.hash_valid)
        → TailAt
    ids_by stats after s (inl room) =
        let i = some_pieces (id_len kind) (length m.hash_valid) after room in
        last_by stats after i.0.0 i.0.1 s i.1 (same_or_not (length i.0.1) 1)
    ids_by stats after s (inr few) = inr (λ ds t.
        few_ids kind bare bytes m behind stats after (pieces_of kind bare bytes m behind ds are_bitmaps t) s few)

    stats_by : (36 * length m.valid ≤ length behind) ⊎ (length behind < 36 * length m.valid) → TailAt
    stats_by (inl room) =
        let s = some_pieces 36 (length m.valid) behind room in
        ids_by s.0.0 s.0.1 s.1 (le_or_lt (id_len kind * length m.hash_valid) (length s.0.1))
    stats_by (inr few) =
        inr (λ ds t. few_stats kind bare bytes m behind (pieces_of kind bare bytes m behind ds are_bitmaps t) few)

  -- bytes are read as those after blocks, or not
  pub tail_reading : Decided (IsTail kind bare bytes)
  tail_reading =
      decided_by (λ (x : DirectoryBitmaps × List ℕ). AreBitmaps (length bare) bytes x.0 x.1) (IsTail kind bare bytes)
      (bitmaps_reading (length bare) bytes)
      (λ x p. stats_by x.0 x.1 p (le_or_lt (36 * length x.0.valid) (length x.1)))
      (λ ds t. ((t.bitmaps, t.behind_bitmaps), t.are_bitmaps))
