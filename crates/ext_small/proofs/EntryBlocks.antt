-- Blocks of the offset table, one after another, and the table that they make.
use Rattle.std.proofs.Common.{◌≡◌, ℕ, zero, suc, ◌+◌, ◌-◌, ◌/◌, take, drop, ◌*◌, ◌%◌, ◌<◌, List, [], ◌∷◌, ◌++◌, length}
use Rattle.std.proofs.Common.{refl, sym, ap, subst, ◌∙◌, arith}
use Rattle.std.specs.Prelude.{◌≢◌}
use Rattle.std.proofs.lemmas.List.{length-append, length-drop, length-take-le, nil_from_length, take-append-drop}
use Rattle.std.proofs.lemmas.Option.{same_Some}
use Rattle.index_parts.proofs.Splits.{piece_again}
use Rattle.index_parts.specs.Numbers.{be, StartsWithNumber}
use Rattle.index_parts.specs.ReadingSteps.{piece_at}
use Rattle.ext_small.specs.OffsetTable.{IsEntryBlock, AreEntryBlocks, IsTable}
use Rattle.ext_small.specs.declared.index_entry_offset_table.Offset.{Offset}

-- pieces of one length at the front of the same bytes are one
same_fronts : (a b c d : List ℕ) → a ++ b ≡ c ++ d → length a ≡ length c → ◌≡◌ {A = List ℕ × List ℕ} (a, b) (c, d)
same_fronts a b c d e len =
    same_Some _ _ (sym (piece_again (length c) a b len) ∙ ap (piece_at (length c)) e ∙ piece_again (length c) c d refl)

pub same_front : (a b c d : List ℕ) → a ++ b ≡ c ++ d → length a ≡ length c → a ≡ c
same_front a b c d e len = ap (λ (p : List ℕ × List ℕ). p.0) (same_fronts a b c d e len)

pub same_back : (a b c d : List ℕ) → a ++ b ≡ c ++ d → length a ≡ length c → b ≡ d
same_back a b c d e len = ap (λ (p : List ℕ × List ℕ). p.1) (same_fronts a b c d e len)

-- ---- blocks

pub block_len : (bytes : List ℕ) (o : Offset) (rest : List ℕ) → IsEntryBlock bytes o rest
    → length bytes ≡ 8 + length rest
block_len bytes o rest h = omega (
  arith,
  ap length h.parts,
  length-append h.place (h.count ++ rest),
  length-append h.count rest,
  h.place_len,
  h.count_len,
)

pub blocks_push : (bytes : List ℕ) (blocks : List Offset) (o : Offset) (middle rest : List ℕ)
    → AreEntryBlocks bytes blocks middle → IsEntryBlock middle o rest → AreEntryBlocks bytes (blocks ++ o ∷ []) rest
blocks_push bytes [] o middle rest h e = (rest, subst (λ (l : List ℕ). IsEntryBlock l o rest) (sym h) e, refl)
blocks_push bytes (x ∷ blocks) o middle rest h e = (h.0, h.1, blocks_push h.0 blocks o middle rest h.2 e)

pub blocks_len : (bytes : List ℕ) (blocks : List Offset) (rest : List ℕ) → AreEntryBlocks bytes blocks rest
    → length bytes ≡ 8 * length blocks + length rest
blocks_len bytes [] rest h = omega (arith, ap length h)
blocks_len bytes (o ∷ blocks) rest h = omega (arith, block_len bytes o h.0 h.1, blocks_len h.0 blocks rest h.2)

-- if the bytes are complete blocks, and are fewer than a block has, there are no blocks
pub blocks_all : (bytes : List ℕ) (blocks : List Offset) (rest : List ℕ) → AreEntryBlocks bytes blocks rest
    → length bytes % 8 ≡ 0 → length rest < 8 → AreEntryBlocks bytes blocks []
blocks_all bytes blocks rest h whole lt = subst (λ (r : List ℕ). AreEntryBlocks bytes blocks r)
    (nil_from_length rest (omega (arith, blocks_len bytes blocks rest h))) h

-- bytes of another number are no blocks
pub blocks_whole : (bytes : List ℕ) (blocks : List Offset) → AreEntryBlocks bytes blocks [] → length bytes % 8 ≡ 0
blocks_whole bytes blocks h = omega (arith, blocks_len bytes blocks [] h)

-- bytes of such a number are blocks
pub blocks_of_len : (n : ℕ) (bytes : List ℕ) → length bytes ≡ 8 * n
    → (blocks : List Offset) × AreEntryBlocks bytes blocks []
blocks_of_len zero bytes len = ([], nil_from_length bytes (omega (arith, len)))
blocks_of_len (suc n) bytes len =
    let behind : List ℕ = drop 4 bytes in
    let rest : List ℕ = drop 4 behind in
    let o : Offset = record { from_beginning_of_file = be (take 4 bytes); num_entries = be (take 4 behind) } in
    let left : length behind ≡ length bytes - 4 = length-drop 4 bytes in
    let fewer : length rest ≡ length behind - 4 = length-drop 4 behind in
    let block : IsEntryBlock bytes o rest = record {
      place = take 4 bytes;
      count = take 4 behind;
      parts = sym (ap (λ (l : List ℕ). take 4 bytes ++ l) (take-append-drop 4 behind) ∙ take-append-drop 4 bytes);
      place_len = length-take-le 4 bytes (omega (arith, len));
      count_len = length-take-le 4 behind (omega (arith, len, left));
      is_place = refl;
      is_count = refl;
    } in
    let others = blocks_of_len n rest (omega (arith, len, left, fewer)) in
    (o ∷ others.0, (rest, block, others.1))

pub blocks_there : (bytes : List ℕ) → length bytes % 8 ≡ 0 → (blocks : List Offset) × AreEntryBlocks bytes blocks []
blocks_there bytes whole = blocks_of_len (length bytes / 8) bytes (omega (arith, whole))

-- ---- the table

-- what a table implies about its first four bytes and about the others
pub table_parts : (bytes : List ℕ) (blocks : List Offset) (n : ℕ) (rest : List ℕ) → IsTable bytes blocks
    → StartsWithNumber 4 bytes n rest → (n ≡ 1) × AreEntryBlocks rest blocks [] × (length rest ≡ 0 → ⊥)
table_parts bytes blocks n rest h s =
    let e : s.spelling ++ rest ≡ h.version ++ h.rest = sym s.parts ∙ h.parts in
    let len : length s.spelling ≡ length h.version = s.size ∙ sym h.version_len in
    let version : s.spelling ≡ h.version = same_front s.spelling rest h.version h.rest e len in
    let after : h.rest ≡ rest = sym (same_back s.spelling rest h.version h.rest e len) in
    let are : AreEntryBlocks rest blocks [] = subst (λ (r : List ℕ). AreEntryBlocks r blocks []) after h.are_blocks in
    (s.value ∙ ap be version ∙ h.version_is, are, some_left rest blocks are h.some)
  where
    some_left : (rest : List ℕ) (bs : List Offset) → AreEntryBlocks rest bs [] → bs ≢ [] → length rest ≡ 0 → ⊥
    some_left rest [] k n z = n refl
    some_left rest (b ∷ bs) k n z = absurd (omega (arith, block_len rest b k.0 k.1))

pub table_from : (bytes : List ℕ) (blocks : List Offset) (n : ℕ) (rest : List ℕ) → StartsWithNumber 4 bytes n rest
    → n ≡ 1 → (length rest ≡ 0 → ⊥) → AreEntryBlocks rest blocks [] → IsTable bytes blocks
table_from bytes blocks n rest s one left are = record {
  version = s.spelling;
  rest = rest;
  parts = s.parts;
  version_len = s.size;
  version_is = sym s.value ∙ one;
  some = some_blocks blocks are;
  are_blocks = are;
}
  where
    some_blocks : (bs : List Offset) → AreEntryBlocks rest bs [] → bs ≢ []
    some_blocks [] k = λ _. left (ap length k)
    some_blocks (b ∷ bs) k = λ e. absurd cc
