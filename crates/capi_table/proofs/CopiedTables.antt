-- A table into which entries are copied, with their paths concatenated.
use Rattle.std.proofs.Common.{◌≡◌, ◌∙◌, ℕ, ◌+◌, ◌-◌, ◌<◌, ◌≤◌, List, [], ◌∷◌, ◌++◌, All, length, map, take, drop, set}
use Rattle.std.proofs.Common.{inl, inr, get_or, refl, sym, ap, subst, arith, length-append}
use Rattle.std.specs.Prelude.{◌^◌, ◌⊎◌, Bool, None, Some, if◌then◌else◌, slice_range}
use Rattle.std.proofs.lemmas.Bool.{cases_lt, le-ltb, lt-ltb}
use Rattle.std.proofs.lemmas.List.{take_at, take_all, take_more, take_more_set, drop-drop, drop-set-lt, map-append}
use Rattle.std.proofs.lemmas.List.{get_or_default, take-append-drop, take-map}
use Rattle.std.proofs.Math.Seq.{drop-append-add}
use Rattle.std.proofs.lemmas.List.Elements.{All-nil}
use Rattle.std.proofs.lemmas.List.Sums.{sum_by_push, sum_by-take-le}
use Rattle.gix_index.proofs.Storing.{packed_start, placed_push, records_push}
use Rattle.gix_index.specs.EntryType.{Entry}
use Rattle.gix_index.specs.Outlined.Passed.{in_64_bits, paths_len}
use Rattle.gix_index.specs.PathRange.{packed_range, range_end, range_start}
use Rattle.gix_index.specs.Record.{IsPlaced, IsSized, Record, record_in, records_in}
use Rattle.capi_table.specs.Table.{HoldsRecords, entry_parts, row_from, row_of}
use Rattle.capi_table.specs.declared.row.Row.{Row}
use Rattle.capi_table.proofs.Tables.{holds_from}

-- ---- how many bytes

none_from : (n : ℕ) → 2 ^ 64 ≤ n → None ≡ in_64_bits n
none_from n le = sym (ap (λ (b : Bool). if b then Some n else None) (le-ltb n (2 ^ 64) le))

pub some_from : (n : ℕ) → n < 2 ^ 64 → Some n ≡ in_64_bits n
some_from n lt = sym (ap (λ (b : Bool). if b then Some n else None) (lt-ltb n (2 ^ 64) lt))

records_upto : (storage : List ℕ) (es : List Entry) (n : ℕ)
    → paths_len (records_in storage (take n es)) ≤ paths_len (records_in storage es)
records_upto storage es n =
    rw (← take-map (record_in storage) n es)
    (sum_by-take-le (λ (r : Record). length r.path) (records_in storage es) n)

records_one : (storage : List ℕ) (es : List Entry) (place : ℕ) (e : Entry) → place < length es
    → ((d : Entry) → get_or es place d ≡ e)
    → records_in storage (take (place + 1) es) ≡ records_in storage (take place es) ++ record_in storage e ∷ []
records_one storage es place e lt at =
    ap (records_in storage) (take_more es place e lt ∙ ap (λ (x : Entry). take place es ++ x ∷ []) (at e))
    ∙ map-append (record_in storage) (take place es) (e ∷ [])

-- a sum that passes 64 bits is of paths that pass them
pub too_many : (storage : List ℕ) (es : List Entry) (place sum : ℕ) (d : Entry) (path : List ℕ) → place < length es
    → path ≡ (record_in storage (get_or es place d)).path → sum ≡ paths_len (records_in storage (take place es))
    → (sum + length path < 2 ^ 64 → ⊥) → None ≡ in_64_bits (paths_len (records_in storage es))
too_many storage es place sum d path lt path_is sum_is large =
    let e : Entry = get_or es place d in
    let at : (x : Entry) → get_or es place x ≡ e = λ x. get_or_default es place x d lt in
    let le : 2 ^ 64 ≤ sum + length path = by large (cases_lt (sum + length path) (2 ^ 64)) in
    none_from (paths_len (records_in storage es))
    (omega (
      arith,
      le,
      sum_is,
      ap length path_is,
      records_upto storage es (place + 1),
      ap paths_len (records_one storage es place e lt at),
      sum_by_push (λ (r : Record). length r.path) (records_in storage (take place es)) (record_in storage e),
    ))
  where
    by : {A B : Type 0} → (A → ⊥) → A ⊎ B → B
    by isnt (inl a) = absurd (isnt a)
    by isnt (inr b) = b

-- ---- the table

-- an entry whose path lies elsewhere
abbrev pub moved : Entry → ℕ → ℕ → Entry
moved e start len = record e { path = packed_range start len }

module _ (entries0 : List Entry) (storage0 : List ℕ) (rows0 : List Row) (paths0 : List ℕ) where
  -- the first entries, with their paths one behind the other, fill the rows before a place and the bytes up to a start;
  -- behind both all is as it was
  pub record Copied (place start : ℕ) (rows : List Row) (paths : List ℕ) : Type 0 where
    pub entries : List Entry
    pub storage : List ℕ
    pub same : records_in storage entries ≡ records_in storage0 (take place entries0)
    pub many : length entries ≡ place
    pub long : length storage ≡ start
    pub len : start ≡ paths_len (records_in storage0 (take place entries0))
    pub placed : All (IsPlaced (length storage)) entries
    pub rows_front : take place rows ≡ map row_of entries
    pub rows_behind : drop place rows ≡ drop place rows0
    pub paths_are : paths ≡ storage ++ drop start paths0

  pub begun : Copied 0 0 rows0 paths0
  begun = record {
    entries = [];
    storage = [];
    same = refl;
    many = refl;
    long = refl;
    len = refl;
    placed = All-nil (IsPlaced 0);
    rows_front = refl;
    rows_behind = refl;
    paths_are = refl;
  }

  -- there are bytes for the next path
  pub next_fits : (place start : ℕ) (rows : List Row) (paths : List ℕ) (p : Copied place start rows paths)
      (d : Entry) (path : List ℕ) → place < length entries0
      → path ≡ (record_in storage0 (get_or entries0 place d)).path
      → paths_len (records_in storage0 entries0) ≤ length paths0 → start + length path ≤ length paths0
  next_fits place start rows paths p d path lt path_is fits =
      let e : Entry = get_or entries0 place d in
      let at : (x : Entry) → get_or entries0 place x ≡ e = λ x. get_or_default entries0 place x d lt in
      let so_far = records_upto storage0 entries0 (place + 1) in
      omega (
        arith,
        fits,
        so_far,
        p.len,
        ap length path_is,
        ap paths_len (records_one storage0 entries0 place e lt at),
        sum_by_push (λ (r : Record). length r.path) (records_in storage0 (take place entries0)) (record_in storage0 e),
      )

  pub more : (place start : ℕ) (rows : List Row) (paths : List ℕ) (p : Copied place start rows paths) (d : Entry)
      (path put : List ℕ) (row : Row) → place < length entries0 → place < length rows
      → path ≡ (record_in storage0 (get_or entries0 place d)).path
      → row ≡ row_from (entry_parts (get_or entries0 place d)) start (length path)
      → put ≡ take start paths ++ (slice_range paths start (start + 0) ++ path)
      ++ drop (start + (0 + length path)) paths
      → Copied (place + 1) (start + length path) (set rows place row) put
  more place start rows paths p d path put new lt fit path_is row_is put_is =
      let e : Entry = get_or entries0 place d in
      let end : ℕ = start + length path in
      let at : (x : Entry) → get_or entries0 place x ≡ e = λ x. get_or_default entries0 place x d lt in
      let zero : start + 0 - start ≡ 0 = omega arith in
      let none : slice_range paths start (start + 0) ≡ [] = ap (λ (n : ℕ). take n (drop start paths)) zero in
      let ends_there : start + (0 + length path) ≡ end = omega arith in
      let e' : Entry = moved e start (length path) in
      let begins : range_start e'.path ≡ start = packed_start start (length path) in
      let starts : range_start e'.path ≡ length p.storage = begins ∙ sym p.long in
      let whole : end ≡ length (p.storage ++ path) = omega (arith, p.long, length-append p.storage path) in
      let ends : range_end e'.path ≡ length (p.storage ++ path) =
      ap (λ (n : ℕ). n + length path) begins ∙ whole in
      let row : new ≡ row_of e' =
      row_is ∙ ap (λ (n : ℕ). row_from (entry_parts e) n (length path)) (sym begins) in
      let record_is : record (record_in storage0 e) { path = path } ≡ record_in storage0 e =
      ap (λ (l : List ℕ). record (record_in storage0 e) { path = l }) path_is in
      let front : take start paths ≡ p.storage =
      ap (take start) p.paths_are ∙ take_at p.storage (drop start paths0) start p.long in
      let behind : drop end paths ≡ drop end paths0 =
      ap (drop end) p.paths_are ∙ rest p.storage start (length path) p.long in
      record {
        entries = p.entries ++ e' ∷ [];
        storage = p.storage ++ path;
        same = records_push p.storage path p.entries e' p.placed starts ends
            ∙ ap (λ (r : Record). records_in p.storage p.entries ++ r ∷ []) record_is
            ∙ ap (λ (l : List Record). l ++ record_in storage0 e ∷ []) p.same ∙ sym (records_one storage0 entries0 place e lt at);
        many = omega (arith, p.many, length-append p.entries (e' ∷ []));
        long = sym whole;
        len = omega (
          arith,
          p.len,
          ap length path_is,
          ap paths_len (records_one storage0 entries0 place e lt at),
          sum_by_push (λ (r : Record). length r.path) (records_in storage0 (take place entries0)) (record_in storage0 e),
        );
        placed = placed_push p.storage path p.entries e' p.placed starts ends;
        rows_front = take_more_set rows place new fit
            ∙ ap (λ (l : List Row). l ++ new ∷ []) p.rows_front
            ∙ ap (λ (r : Row). map row_of p.entries ++ r ∷ []) row ∙ sym (map-append row_of p.entries (e' ∷ []));
        rows_behind = drop-set-lt (place + 1) rows place new (omega arith)
            ∙ sym (drop-drop 1 place rows) ∙ ap (drop 1) p.rows_behind ∙ drop-drop 1 place rows0;
        paths_are = put_is
            ∙ ap (λ (l : List ℕ). take start paths ++ (l ++ path) ++ drop (start + (0 + length path)) paths) none
            ∙ ap (λ (n : ℕ). take start paths ++ path ++ drop n paths) ends_there
            ∙ ap (λ (l : List ℕ). l ++ path ++ drop end paths) front
            ∙ ap (λ (l : List ℕ). p.storage ++ path ++ l) behind;
      }
    where
      rest : (s : List ℕ) (start n : ℕ) → length s ≡ start
          → drop (start + n) (s ++ drop start paths0) ≡ drop (start + n) paths0
      rest s start n e =
          ap (λ (k : ℕ). drop (k + n) (s ++ drop start paths0)) (sym e) ∙ drop-append-add s (drop start paths0) n
          ∙ drop-drop n start paths0

  -- all are copied
  pub copied : (place start : ℕ) (rows : List Row) (paths : List ℕ) → Copied place start rows paths
      → place ≡ length entries0 → length entries0 ≤ length rows0
      → paths_len (records_in storage0 entries0) ≤ length paths0
      → All IsSized (records_in storage0 entries0)
      → HoldsRecords (records_in storage0 entries0) (paths_len (records_in storage0 entries0)) rows0 rows paths0 paths
  copied place start rows paths p is rows_fit paths_fit sized =
      let whole : records_in storage0 (take place entries0) ≡ records_in storage0 entries0 =
      ap (records_in storage0) (take_all place entries0 (omega (arith, is))) in
      let same : records_in p.storage p.entries ≡ records_in storage0 entries0 = p.same ∙ whole in
      let len : length p.storage ≡ paths_len (records_in storage0 entries0) = p.long ∙ p.len ∙ ap paths_len whole in
      let rows_are : rows ≡ map row_of p.entries ++ drop (length p.entries) rows0 =
      sym (take-append-drop place rows) ∙ rw (p.rows_front, p.rows_behind, p.many) refl in
      let paths_are : paths ≡ p.storage ++ drop (length p.storage) paths0 =
      p.paths_are ∙ ap (λ (n : ℕ). p.storage ++ drop n paths0) (sym p.long) in
      let holds = holds_from p.entries p.storage rows0 rows paths0 paths p.placed
      (subst (All IsSized) (sym same) sized) (omega (arith, p.many)) (omega (arith, len)) rows_are paths_are in
      let Holds : List Record → ℕ → Type 0 = λ l n. HoldsRecords l n rows0 rows paths0 paths in
      subst (λ (l : List Record). Holds l (paths_len (records_in storage0 entries0))) same
      (subst (Holds (records_in p.storage p.entries)) len holds)
