-- All bytes are an offset table or are none, and are one at most; and so for the first table among the extensions.
use Rattle.std.proofs.Common.{◌≡◌, ℕ, ◌+◌, ◌-◌, ◌%◌, ◌<◌, ◌≤◌, ◌⊎◌, inl, inr, List, [], ◌∷◌, ◌++◌, length, take, drop}
use Rattle.std.proofs.Common.{Option, Some, None, refl, sym, ap, subst, ◌∙◌, arith}
use Rattle.std.specs.Prelude.{codes}
use Rattle.std.proofs.lemmas.List.{length-append, length-drop, take-append-drop}
use Rattle.index_parts.proofs.Readers.{number_takes, number_again}
use Rattle.ext_bitmap.proofs.Unpackings.{le_or_lt}
use Rattle.index_parts.specs.Numbers.{be, StartsWithNumber}
use Rattle.index_parts.specs.Id.{id_len}
use Rattle.index_parts.specs.ReadingSteps.{number_at}
use Rattle.index_parts.specs.declared.hash.Kind.{Kind}
use Rattle.index_extensions.specs.ExtensionValue.{first_content, IsRead, IsValue}
use Rattle.ext_small.specs.OffsetTable.{IsEntryBlock, AreEntryBlocks, IsTable, IsOffsetTable, short, walked}
use Rattle.index_extensions.specs.Walk.{IsWalk}
use Rattle.ext_small.specs.declared.index_entry_offset_table.Offset.{Offset}
use Rattle.ext_small.proofs.EntryBlocks.{same_front, same_back, block_len, blocks_there, blocks_whole}
use Rattle.ext_small.proofs.EntryBlocks.{table_parts, table_from}
use Rattle.index_extensions.proofs.Readings.{Decided, read_of, one_read, value_reading, one_value, same_or_not}
use Rattle.index_extensions.proofs.Walks.{walk_of, walk_one}

-- ---- one table

one_entry_block : (bytes : List ℕ) (o p : Offset) (rest end : List ℕ) → IsEntryBlock bytes o rest
    → IsEntryBlock bytes p end → (o ≡ p) × (rest ≡ end)
one_entry_block bytes o p rest end h k =
    let whole : h.place ++ (h.count ++ rest) ≡ k.place ++ (k.count ++ end) = sym h.parts ∙ k.parts in
    let places : length h.place ≡ length k.place = h.place_len ∙ sym k.place_len in
    let counts : length h.count ≡ length k.count = h.count_len ∙ sym k.count_len in
    let behind : h.count ++ rest ≡ k.count ++ end =
    same_back h.place (h.count ++ rest) k.place (k.count ++ end) whole places in
    let place : o.from_beginning_of_file ≡ p.from_beginning_of_file = h.is_place
    ∙ ap be (same_front h.place (h.count ++ rest) k.place (k.count ++ end) whole places) ∙ sym k.is_place in
    let count : o.num_entries ≡ p.num_entries =
    h.is_count ∙ ap be (same_front h.count rest k.count end behind counts) ∙ sym k.is_count in
    let with_place : ℕ → Offset = λ n. record { from_beginning_of_file = n; num_entries = o.num_entries } in
    let with_count : ℕ → Offset = λ n. record { from_beginning_of_file = p.from_beginning_of_file; num_entries = n } in
    (ap with_place place ∙ ap with_count count, same_back h.count rest k.count end behind counts)

one_row_of_entry_blocks : (bytes : List ℕ) (xs ys : List Offset) → AreEntryBlocks bytes xs []
    → AreEntryBlocks bytes ys [] → xs ≡ ys
one_row_of_entry_blocks bytes [] [] h k = refl
one_row_of_entry_blocks bytes [] (y ∷ ys) h k = absurd (omega (arith, ap length h, block_len bytes y k.0 k.1))
one_row_of_entry_blocks bytes (x ∷ xs) [] h k = absurd (omega (arith, ap length k, block_len bytes x h.0 h.1))
one_row_of_entry_blocks bytes (x ∷ xs) (y ∷ ys) h k =
    let first = one_entry_block bytes x y h.0 k.0 h.1 k.1 in
    let block : x ≡ y = first.0 in
    let others : xs ≡ ys =
    one_row_of_entry_blocks h.0 xs ys h.2 (subst (λ (l : List ℕ). AreEntryBlocks l ys []) (sym first.1) k.2) in
    rw (block, others) refl

pub one_table : (bytes : List ℕ) (xs ys : List Offset) → IsTable bytes xs → IsTable bytes ys → xs ≡ ys
one_table bytes xs ys h k =
    let version : StartsWithNumber 4 bytes 1 h.rest =
    record { spelling = h.version; parts = h.parts; size = h.version_len; value = sym h.version_is } in
    one_row_of_entry_blocks h.rest xs ys h.are_blocks (table_parts bytes ys 1 h.rest k version).1

-- ---- a table or none

module _ (bytes : List ℕ) (n : ℕ) (rest : List ℕ) (starts : StartsWithNumber 4 bytes n rest) where
  blocks_by : n ≡ 1 → (length rest ≡ 0 → ⊥) → (length rest % 8 ≡ 0) ⊎ (length rest % 8 ≡ 0 → ⊥)
      → Decided (IsTable bytes)
  blocks_by one some (inl whole) =
      let b = blocks_there rest whole in
      inl (b.0, table_from bytes b.0 n rest starts one some b.1)
  blocks_by one some (inr cut) =
      inr (λ blocks t. cut (blocks_whole rest blocks (table_parts bytes blocks n rest t starts).1))

  rest_by : n ≡ 1 → (length rest ≡ 0) ⊎ (length rest ≡ 0 → ⊥) → Decided (IsTable bytes)
  rest_by one (inl none) = inr (λ blocks t. (table_parts bytes blocks n rest t starts).2 none)
  rest_by one (inr some) = blocks_by one some (same_or_not (length rest % 8) 0)

  version_by : (n ≡ 1) ⊎ (n ≡ 1 → ⊥) → Decided (IsTable bytes)
  version_by (inl one) = rest_by one (same_or_not (length rest) 0)
  version_by (inr other) = inr (λ blocks t. other (table_parts bytes blocks n rest t starts).0)

number_by : (bytes : List ℕ) (o : Option (ℕ × List ℕ)) → number_at 4 bytes ≡ o → Decided (IsTable bytes)
number_by bytes None e = inr (λ blocks t.
    let found = number_again 4 bytes 1 t.rest
    (record { spelling = t.version; parts = t.parts; size = t.version_len; value = sym t.version_is }) in
    absurd (cc (found, e)))
number_by bytes (Some x) e = version_by bytes x.0 x.1 (number_takes 4 bytes x e) (same_or_not x.0 1)

pub table_reading : (bytes : List ℕ) → (v : Option (List Offset)) × IsRead IsTable bytes v
table_reading bytes = read_of IsTable bytes (number_by bytes (number_at 4 bytes) refl)

pub table_reading_one : (bytes : List ℕ) (v w : Option (List Offset)) → IsRead IsTable bytes v → IsRead IsTable bytes w
    → v ≡ w
table_reading_one bytes = one_read IsTable bytes (one_table bytes)

-- ---- the first table among extensions

found_by : (kind : Kind) (bytes : List ℕ) → (id_len kind ≤ length bytes) ⊎ (length bytes < id_len kind)
    → (v : Option (List Offset)) × IsOffsetTable kind bytes v
found_by kind bytes (inr few) = (None, short few refl)
found_by kind bytes (inl enough) =
    let n : ℕ = length bytes - id_len kind in
    let trailer_len : length (drop n bytes) ≡ id_len kind = omega (arith, enough, length-drop n bytes) in
    let w = walk_of (take n bytes) in
    let r = value_reading IsTable table_reading (first_content (codes "IEOT") w.0) in
    (r.0, walked (take n bytes) (drop n bytes) w.0 w.1 (sym (take-append-drop n bytes)) trailer_len w.2 r.1)

pub found_reading : (kind : Kind) (bytes : List ℕ) → (v : Option (List Offset)) × IsOffsetTable kind bytes v
found_reading kind bytes = found_by kind bytes (le_or_lt (id_len kind) (length bytes))

-- if the trailer is present, the bytes aren't short
not_short : (kind : Kind) (bytes extensions trailer : List ℕ) → bytes ≡ extensions ++ trailer
    → length trailer ≡ id_len kind → length bytes < id_len kind → ⊥
not_short kind bytes extensions trailer parts len few =
    omega (arith, ap length parts, length-append extensions trailer, len, few)

pub found_reading_one : (kind : Kind) (bytes : List ℕ) (v w : Option (List Offset)) → IsOffsetTable kind bytes v
    → IsOffsetTable kind bytes w → v ≡ w
found_reading_one kind bytes v w (short few none) (short less nothing) = none ∙ sym nothing
found_reading_one kind bytes v w (short few none) (walked e t is r parts len walk value) =
    absurd (not_short kind bytes e t parts len few)
found_reading_one kind bytes v w (walked e t is r parts len walk value) (short few none) =
    absurd (not_short kind bytes e t parts len few)
found_reading_one kind bytes v w (walked e t is r parts len walk value) (walked f u js s cut size way other) =
    let whole : e ++ t ≡ f ++ u = sym parts ∙ cut in
    let a : length (e ++ t) ≡ length e + length t = length-append e t in
    let b : length (f ++ u) ≡ length f + length u = length-append f u in
    let fronts : length e ≡ length f = omega (arith, ap length whole, a, b, len, size) in
    let same : e ≡ f = same_front e t f u whole fronts in
    let items : is ≡ js = (walk_one e is js r s walk (subst (λ (l : List ℕ). IsWalk l js s) (sym same) way)).0 in
    let content : first_content (codes "IEOT") is ≡ first_content (codes "IEOT") js =
    ap (first_content (codes "IEOT")) items in
    one_value IsTable table_reading_one (first_content (codes "IEOT") js) v w
    (subst (λ (c : Option (List ℕ)). IsValue IsTable c v) content value) other
