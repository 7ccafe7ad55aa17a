-- The rows of entries spell the entries' records.
use Rattle.std.proofs.Common.{◌≡◌, ℕ, ◌-◌, ◌≤◌, eqb, true, List, [], ◌∷◌, ◌++◌, All, length, map, take, drop, replicate}
use Rattle.std.proofs.Common.{refl, sym, ap, ◌∙◌, arith}
use Rattle.std.proofs.lemmas.List.{take_at, drop_at, length-map}
use Rattle.std.proofs.lemmas.List.Elements.{All-cons, All-head, All-tail, All-map, All-same}
use Rattle.gix_index.specs.Id.{id_bytes, id_kind, id_len}
use Rattle.gix_index.specs.EntryType.{Entry}
use Rattle.gix_index.specs.ObjectId.{ObjectId}
use Rattle.gix_index.specs.ObjectId.TheVariants.{Sha1, Sha256}
use Rattle.gix_index.specs.PathRange.{range_end, range_start}
use Rattle.gix_index.specs.Record.{IsPlaced, IsSized, record_in, records_in}
use Rattle.capi_table.specs.Table.{HoldsRecords, IsWholeRow, kind_number, padded_id, records_of, row_id}
use Rattle.capi_table.specs.Table.{row_of, spelled}
use Rattle.capi_table.specs.declared.row.Row.{Row}

-- an id has as many bytes as its kind
pub record IsFull (e : Entry) : Type 0 where
  pub len : length (id_bytes e.id) ≡ id_len (id_kind e.id)

-- a row with another id
abbrev with_id : Row → ObjectId → Row
with_id row id = record row { kind = kind_number (id_kind id); id = padded_id id }

same_id : (row : Row) (id : ObjectId) → length (id_bytes id) ≡ id_len (id_kind id) → row_id (with_id row id) ≡ id
same_id row (Sha1 bytes) len = ap Sha1 (take_at bytes (replicate 12 0) 20 len)
same_id row (Sha256 bytes) len = refl

same_kind : (row : Row) (id : ObjectId) → (with_id row id).kind ≡ kind_number (id_kind (row_id (with_id row id)))
same_kind row (Sha1 bytes) = refl
same_kind row (Sha256 bytes) = refl

zeros_behind : (row : Row) (id : ObjectId) → length (id_bytes id) ≡ id_len (id_kind id)
    → eqb (with_id row id).kind 1 ≡ true → drop 20 (with_id row id).id ≡ replicate 12 0
zeros_behind row (Sha1 bytes) len e = drop_at bytes (replicate 12 0) 20 len
zeros_behind row (Sha256 bytes) len e = cc

pub spelled_row : (storage : List ℕ) (e : Entry) → IsFull e → spelled storage (row_of e) ≡ record_in storage e
spelled_row storage e full =
    let from : List ℕ = drop (range_start e.path) storage in
    let len : e.path.len ≡ range_end e.path - range_start e.path = omega arith in
    ap (λ (id : ObjectId). record (record_in storage e) { path = take e.path.len from; id = id })
    (same_id (row_of e) e.id full.len)
    ∙ ap (λ (n : ℕ). record (record_in storage e) { path = take n from }) len

pub spelled_rows : (storage : List ℕ) (es : List Entry) → All IsFull es
    → records_of storage (map row_of es) ≡ records_in storage es
spelled_rows storage [] full = refl
spelled_rows storage (e ∷ es) full =
    rw (spelled_row storage e (All-head IsFull e es full), spelled_rows storage es (All-tail IsFull e es full)) refl

whole_row : (len : ℕ) (e : Entry) → IsFull e → IsPlaced len e → IsWholeRow len (row_of e)
whole_row len e full placed =
    record {
      stage = refl;
      kind = same_kind (row_of e) e.id;
      zeros = zeros_behind (row_of e) e.id full.len;
      inside = placed.inside;
    }

whole_rows : (len : ℕ) (es : List Entry) → All IsFull es → All (IsPlaced len) es → All (IsWholeRow len) (map row_of es)
whole_rows len es full placed =
    All-map (IsWholeRow len) row_of es (λ k d lt. whole_row len _ (full k d lt) (placed k d lt))

-- entries whose records have whole ids
full_from : (storage : List ℕ) (e : Entry) → IsSized (record_in storage e) → IsFull e
full_from storage e sized = record { len = sized.id }

pub full_all : (storage : List ℕ) (es : List Entry) → All IsSized (records_in storage es) → All IsFull es
full_all storage [] sized = λ k d lt. absurd (omega arith)
full_all storage (e ∷ es) sized =
    All-cons IsFull e es (full_from storage e (All-head IsSized (record_in storage e) (records_in storage es) sized))
    (full_all storage es (All-tail IsSized (record_in storage e) (records_in storage es) sized))

pub holds_from : (es : List Entry) (storage : List ℕ) (rows filled : List Row) (paths spelling : List ℕ)
    → All (IsPlaced (length storage)) es → All IsSized (records_in storage es)
    → length es ≤ length rows → length storage ≤ length paths
    → filled ≡ map row_of es ++ drop (length es) rows
    → spelling ≡ storage ++ drop (length storage) paths
    → HoldsRecords (records_in storage es) (length storage) rows filled paths spelling
holds_from es storage rows filled paths spelling placed sized rows_fit paths_fit filled_is spelling_is =
    let full : All IsFull es = full_all storage es sized in
    let many : length (records_in storage es) ≡ length es = length-map es (record_in storage) in
    let of_rows : length (map row_of es) ≡ length (records_in storage es) = length-map es row_of ∙ sym many in
    let front : take (length (records_in storage es)) filled ≡ map row_of es =
    rw filled_is (take_at (map row_of es) (drop (length es) rows) (length (records_in storage es)) of_rows) in
    let bytes : take (length storage) spelling ≡ storage =
    rw spelling_is (take_at storage (drop (length storage) paths) (length storage) refl) in
    record {
      rows_fit = omega arith;
      paths_fit = paths_fit;
      spells = rw (front, bytes) (spelled_rows storage es full);
      whole = All-same (IsWholeRow (length storage)) _ _ front (whole_rows (length storage) es full placed);
      rows_behind = rw filled_is
          (drop_at (map row_of es) (drop (length es) rows) (length (records_in storage es)) of_rows ∙ ap
          (λ (n : ℕ). drop n rows) (sym many));
      paths_behind = rw spelling_is (drop_at storage (drop (length storage) paths) (length storage) refl);
    }
