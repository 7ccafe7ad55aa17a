-- A table that is filled in entry by entry.
use Rattle.std.proofs.Common.{◌≡◌, ◌∙◌, ℕ, ◌+◌, ◌-◌, ◌<◌, ◌≤◌, List, [], ◌∷◌, ◌++◌, All, length, map, take, drop, set}
use Rattle.std.proofs.Common.{Option, Some, None, option_map, unwrap_or, refl, sym, ap, subst, append_assoc, arith}
use Rattle.std.specs.Prelude.{slice_range}
use Rattle.std.proofs.lemmas.List.{take_at, drop_at, take_more_set, drop-drop, drop-set-lt, take-append-le}
use Rattle.std.proofs.lemmas.List.{length-append, length-map, map-append, take-append-drop}
use Rattle.std.proofs.lemmas.List.Elements.{All-head, All-nil, All-push, All-tail}
use Rattle.std.proofs.lemmas.List.Sums.{sum_by-cons, sum_by_push}
use Rattle.std.proofs.Math.Seq.{drop-append-add}
use Rattle.entry_list.proofs.OnceEntries.{one_entry, one_row}
use Rattle.gix_index.proofs.Readers.{behind_lent, lent_entry, lent_len, lent_none}
use Rattle.gix_index.proofs.Storing.{entries_push, last_path-push, packed_start, placed_push, records_push}
use Rattle.gix_index.specs.Entries.{AreEntries, last_path}
use Rattle.gix_index.specs.Entry.{IsEntry}
use Rattle.gix_index.specs.EntryType.{Entry}
use Rattle.gix_index.specs.Kind.{Kind}
use Rattle.gix_index.specs.Lent.{borrowed_record}
use Rattle.gix_index.specs.LentEntry.{Lent}
use Rattle.gix_index.specs.Outlined.Passed.{paths_len}
use Rattle.gix_index.specs.PathRange.{packed_range, range_end, range_start}
use Rattle.gix_index.specs.Reader.{IsBehind, LeftToRead, Lends, LendsNone}
use Rattle.gix_index.specs.Record.{IsPlaced, IsSized, Record, made_entry, records_in}
use Rattle.gix_index.specs.Version.{Version}
use Rattle.capi_table.specs.Filling.{with_path_at}
use Rattle.capi_table.specs.Table.{HoldsRecords, row_from, row_of}
use Rattle.capi_table.specs.declared.row.Row.{Row}
use Rattle.capi_table.proofs.Tables.{holds_from}

-- ---- entries that are still to be read

-- the first of them is the one that is read
pub first_left : (version : Version) (kind : Kind) (previous : Option (List ℕ)) (rest : List ℕ) (left : List Record)
    (end : List ℕ) (r : Record) (after : List ℕ) → 0 < length left → AreEntries version kind previous rest left end
    → IsEntry version kind previous rest r after
    → (others : List Record) × (left ≡ r ∷ others) × AreEntries version kind (Some r.path) after others end
first_left version kind previous rest [] end r after some h found = absurd (omega arith)
first_left version kind previous rest (q ∷ qs) end r after some h found =
    let same = one_entry version kind previous rest r q after h.0 found h.1 in (
      qs,
      ap (λ (x : Record × List ℕ). x.0 ∷ qs) (sym same),
      subst (λ (x : Record × List ℕ). AreEntries version kind (Some x.0.path) x.1 qs end) (sym same) h.2,
    )

-- one of them is there
pub some_left : (version : Version) (kind : Kind) (previous : Option (List ℕ)) (rest : List ℕ) (left : List Record)
    (end : List ℕ) → 0 < length left → AreEntries version kind previous rest left end
    → ((r : Record) (after : List ℕ) → IsEntry version kind previous rest r after → ⊥) → ⊥
some_left version kind previous rest [] end some h none = absurd (omega arith)
some_left version kind previous rest (q ∷ qs) end some h none = none q h.0 h.1

-- ---- bytes for paths

pub room_len : (previous : Option (List ℕ)) (room : Option ℕ) → option_map length previous ≡ room
    → length (unwrap_or previous []) ≡ unwrap_or room 0
room_len None room e = ap (λ (o : Option ℕ). unwrap_or o 0) e
room_len (Some p) room e = ap (λ (o : Option ℕ). unwrap_or o 0) e

-- the beginning of a path that is at the end of a storage, followed by other bytes
shared_range : (front path behind : List ℕ) (start shared : ℕ) → start ≡ length front → shared ≤ length path
    → slice_range ((front ++ path) ++ behind) start (start + shared) ≡ take shared path
shared_range front path behind start shared e le =
    let many : start + shared - start ≡ shared = omega arith in
    let from : drop start ((front ++ path) ++ behind) ≡ path ++ behind =
    ap (drop start) (append_assoc front path behind) ∙ drop_at front (path ++ behind) start (sym e) in
    rw (many, from) (take-append-le shared path behind le)

-- what a path leaves that was put after a storage
path_put : (storage front path tail paths0 : List ℕ) (start last shared n : ℕ) → length storage ≡ start
    → storage ≡ front ++ path → last ≡ length front → shared ≤ length path
    → take start (storage ++ drop start paths0)
    ++ (slice_range (storage ++ drop start paths0) last (last + shared) ++ tail)
    ++ drop (start + n) (storage ++ drop start paths0)
    ≡ (storage ++ (take shared path ++ tail)) ++ drop n (drop start paths0)
path_put storage front path tail paths0 start last shared n begins ends e le =
    let behind = drop start paths0 in
    let kept : take start (storage ++ behind) ≡ storage = take_at storage behind start begins in
    let copied : slice_range (storage ++ behind) last (last + shared) ≡ take shared path =
    rw ends (shared_range front path behind last shared e le) in
    let others : drop (start + n) (storage ++ behind) ≡ drop n behind =
    ap (λ (k : ℕ). drop (k + n) (storage ++ behind)) (sym begins) ∙ drop-append-add storage behind n in
    rw (kept, copied, others) refl

-- ---- how far a table is filled in

module _ (version : Version) (kind : Kind) (count : ℕ) (bytes : List ℕ) (rows0 : List Row) (paths0 : List ℕ) where
  -- Entries that were read fill the rows before an index. A storage of their paths fills the bytes up to a start, and
  -- the last path begins at an earlier position. After both, everything is as it was, and others are left.
  pub record Progress (reader : LeftToRead) (place earlier start : ℕ) (rows : List Row) (paths : List ℕ)
      : Type 0 where
    pub entries : List Entry
    pub storage : List ℕ
    pub read : AreEntries version kind None bytes (records_in storage entries) reader.rest
    pub behind : IsBehind version kind (last_path None (records_in storage entries)) reader
    pub left : List Record
    pub end : List ℕ
    pub unread : AreEntries version kind (last_path None (records_in storage entries)) reader.rest left end
    pub counted : place + length left ≡ count
    pub many : length entries ≡ place
    pub long : length storage ≡ start
    pub front : List ℕ
    pub before : earlier ≡ length front
    pub ends : storage ≡ front ++ unwrap_or (last_path None (records_in storage entries)) []
    pub len : start ≡ paths_len (records_in storage entries)
    pub fits : start + paths_len left ≤ length paths0
    pub placed : All (IsPlaced (length storage)) entries
    pub sized : All IsSized (records_in storage entries)
    pub sized_left : All IsSized left
    pub rows_front : take place rows ≡ map row_of entries
    pub rows_behind : drop place rows ≡ drop place rows0
    pub paths_are : paths ≡ storage ++ drop start paths0

  pub begun : (rs : List Record) (end : List ℕ) → AreEntries version kind None bytes rs end → length rs ≡ count
      → paths_len rs ≤ length paths0 → All IsSized rs
      → Progress (record { version = version; kind = kind; room = None; rest = bytes }) 0 0 0 rows0 paths0
  begun rs end read counted fits sized = record {
    entries = [];
    storage = [];
    read = refl;
    behind = record { version_is = refl; kind_is = refl; room_is = refl };
    left = rs;
    end = end;
    unread = read;
    counted = omega (arith, counted);
    many = refl;
    long = refl;
    front = [];
    before = refl;
    ends = refl;
    len = refl;
    fits = omega (arith, fits);
    placed = All-nil (IsPlaced 0);
    sized = All-nil IsSized;
    sized_left = sized;
    rows_front = refl;
    rows_behind = refl;
    paths_are = refl;
  }

  -- all are read
  pub filled : (reader : LeftToRead) (place earlier start : ℕ) (rows : List Row) (paths : List ℕ)
      → Progress reader place earlier start rows paths → place ≡ count → place ≤ length rows0
      → (rs : List Record) (after : List ℕ) → AreEntries version kind None bytes rs after → length rs ≡ count
      → HoldsRecords rs (paths_len rs) rows0 rows paths0 paths
  filled reader place earlier start rows paths p is fit rs after read counted =
      let long : length p.storage ≡ start = p.long in
      let many : length p.entries ≡ place = p.many in
      let fits : start + paths_len p.left ≤ length paths0 = p.fits in
      let read_many : length (records_in p.storage p.entries) ≡ length rs =
      length-map p.entries _ ∙ many ∙ is ∙ sym counted in
      let same : records_in p.storage p.entries ≡ rs =
      (one_row version kind None bytes (records_in p.storage p.entries) rs reader.rest after p.read read read_many).0 in
      let rows_are : rows ≡ map row_of p.entries ++ drop (length p.entries) rows0 =
      sym (take-append-drop place rows) ∙ rw (p.rows_front, p.rows_behind, many) refl in
      let paths_are : paths ≡ p.storage ++ drop (length p.storage) paths0 =
      p.paths_are ∙ ap (λ (n : ℕ). p.storage ++ drop n paths0) (sym long) in
      let len : length p.storage ≡ paths_len (records_in p.storage p.entries) = long ∙ p.len in
      let holds = holds_from p.entries p.storage rows0 rows paths0 paths p.placed p.sized (omega arith) (omega arith)
      rows_are paths_are in
      let Holds : List Record → ℕ → Type 0 = λ l n. HoldsRecords l n rows0 rows paths0 paths in
      subst (λ (l : List Record). Holds l (paths_len l)) same
      (subst (Holds (records_in p.storage p.entries)) len holds)

  -- an entry is left if not all are read
  pub some_next : (reader : LeftToRead) (place earlier start : ℕ) (rows : List Row) (paths : List ℕ) (next : LeftToRead)
      → Progress reader place earlier start rows paths → place < count → LendsNone reader next → ⊥
  some_next reader place earlier start rows paths next p lt none =
      let previous = last_path None (records_in p.storage p.entries) in
      let counted : place + length p.left ≡ count = p.counted in
      some_left version kind previous reader.rest p.left p.end (omega arith) p.unread
      (lent_none version kind previous reader next p.behind none)

  -- ---- one entry more

  -- the record of an entry that was borrowed, after those that were read
  abbrev next_record : (reader : LeftToRead) (place earlier start : ℕ) (rows : List Row) (paths : List ℕ)
      → Progress reader place earlier start rows paths → Lent → Record
  next_record reader place earlier start rows paths p lent =
      borrowed_record (last_path None (records_in p.storage p.entries)) lent

  next_left : (reader : LeftToRead) (place earlier start : ℕ) (rows : List Row) (paths : List ℕ)
      (p : Progress reader place earlier start rows paths) (lent : Lent) (next : LeftToRead) → place < count
      → Lends reader lent next
      → (others : List Record) × (p.left ≡ next_record reader place earlier start rows paths p lent ∷ others)
      × AreEntries version kind (Some (next_record reader place earlier start rows paths p lent).path) next.rest others
      p.end
  next_left reader place earlier start rows paths p lent next lt found =
      let previous = last_path None (records_in p.storage p.entries) in
      let counted : place + length p.left ≡ count = p.counted in
      first_left version kind previous reader.rest p.left p.end _ next.rest (omega arith) p.unread
      (lent_entry version kind previous reader lent next p.behind found)

  -- the last path ends at the position at which the next one starts
  pub room_within : (reader : LeftToRead) (place earlier start : ℕ) (rows : List Row) (paths : List ℕ)
      (p : Progress reader place earlier start rows paths) → earlier + unwrap_or reader.room 0 ≡ start
  room_within reader place earlier start rows paths p =
      let previous = last_path None (records_in p.storage p.entries) in
      let len : length (unwrap_or previous []) ≡ unwrap_or reader.room 0 =
      room_len previous reader.room p.behind.room_is in
      let long : length p.storage ≡ start = p.long in
      let before : earlier ≡ length p.front = p.before in
      omega (arith, len, long, before, ap length p.ends, length-append p.front (unwrap_or previous []))

  -- there are bytes for the next path
  pub next_fits : (reader : LeftToRead) (place earlier start : ℕ) (rows : List Row) (paths : List ℕ)
      (p : Progress reader place earlier start rows paths) (lent : Lent) (next : LeftToRead) → place < count
      → lent.shared ≤ unwrap_or reader.room 0 → Lends reader lent next
      → start + (lent.shared + length lent.path.now) ≤ length paths0
  next_fits reader place earlier start rows paths p lent next lt shared found =
      let previous = last_path None (records_in p.storage p.entries) in
      let others = next_left reader place earlier start rows paths p lent next lt found in
      let fits : start + paths_len p.left ≤ length paths0 = p.fits in
      omega (
        arith,
        fits,
        ap paths_len others.1,
        sum_by-cons (λ (r : Record). length r.path) (borrowed_record previous lent) others.0,
        lent_len previous reader.room lent.shared lent.path.now p.behind.room_is shared,
      )

  pub more : (reader : LeftToRead) (place earlier start : ℕ) (rows : List Row) (paths : List ℕ)
      (p : Progress reader place earlier start rows paths) (lent : Lent) (next : LeftToRead) (put : List ℕ) (end : ℕ)
      → place < count → place < length rows → lent.shared ≤ unwrap_or reader.room 0 → Lends reader lent next
      → end ≡ start + (lent.shared + length lent.path.now)
      → put ≡ with_path_at paths earlier start lent.shared lent.path.now
      → Progress next (place + 1) start end (set rows place (row_from lent.entry start (end - start))) put
  more reader place earlier start rows paths p lent next put end lt fit shared found end_is put_is =
      let s = p.storage in
      let es = p.entries in
      let rs = records_in s es in
      let previous = last_path None rs in
      let r : Record = borrowed_record previous lent in
      let e : Entry = made_entry lent.entry (packed_range start (end - start)) in
      let others = next_left reader place earlier start rows paths p lent next lt found in
      let is = lent_entry version kind previous reader lent next p.behind found in
      let long : length s ≡ start = p.long in
      let len : length r.path ≡ lent.shared + length lent.path.now =
      lent_len previous reader.room lent.shared lent.path.now p.behind.room_is shared in
      let begins : range_start e.path ≡ start = packed_start start (end - start) in
      let starts : range_start e.path ≡ length s = begins ∙ sym long in
      let end_long : end ≡ length (s ++ r.path) = omega (arith, end_is, long, len, length-append s r.path) in
      let whole : start + (end - start) ≡ end = omega (arith, end_is) in
      let ends : range_end e.path ≡ length (s ++ r.path) =
      ap (λ (n : ℕ). n + (end - start)) begins ∙ whole ∙ end_long in
      let row : row_from lent.entry start (end - start) ≡ row_of e =
      ap (λ (n : ℕ). row_from lent.entry n (end - start)) (sym begins) in
      let grown : records_in (s ++ r.path) (es ++ e ∷ []) ≡ rs ++ r ∷ [] =
      records_push s r.path es e p.placed starts ends in
      let last : last_path None (records_in (s ++ r.path) (es ++ e ∷ [])) ≡ Some r.path =
      ap (last_path None) grown ∙ last_path-push None rs r in
      let counted : place + length p.left ≡ count = p.counted in
      let fits : start + paths_len p.left ≤ length paths0 = p.fits in
      let sized : All IsSized (r ∷ others.0) = subst (All IsSized) others.1 p.sized_left in
      let path : List ℕ = unwrap_or previous [] in
      let path_long : length path ≡ unwrap_or reader.room 0 = room_len previous reader.room p.behind.room_is in
      let n : ℕ = lent.shared + length lent.path.now in
      let put_in =
      ap (λ (l : List ℕ). with_path_at l earlier start lent.shared lent.path.now) p.paths_are
      ∙ path_put s p.front path lent.path.now paths0 start earlier lent.shared n long p.ends p.before
      (omega (arith, path_long, shared))
      ∙ ap (λ (l : List ℕ). (s ++ r.path) ++ l) (drop-drop n start paths0 ∙ ap (λ (k : ℕ). drop k paths0) (sym end_is))
      in
      record {
        entries = es ++ e ∷ [];
        storage = s ++ r.path;
        read = rw grown (entries_push version kind None bytes rs r reader.rest next.rest p.read is);
        behind = rw grown (behind_lent version kind rs reader lent next p.behind found shared);
        left = others.0;
        end = p.end;
        unread = rw last others.2;
        counted = omega (arith, counted, ap length others.1);
        many = omega (arith, p.many, length-append es (e ∷ []));
        long = sym end_long;
        front = s;
        before = sym long;
        ends = rw last refl;
        len = omega (arith, end_is, len, p.len, ap paths_len grown, sum_by_push (λ (x : Record). length x.path) rs r);
        fits = omega (
          arith,
          fits,
          end_is,
          len,
          ap paths_len others.1,
          sum_by-cons (λ (x : Record). length x.path) r others.0,
        );
        placed = placed_push s r.path es e p.placed starts ends;
        sized = rw grown (All-push IsSized rs r p.sized (All-head IsSized r others.0 sized));
        sized_left = All-tail IsSized r others.0 sized;
        rows_front = take_more_set rows place (row_from lent.entry start (end - start)) fit
            ∙ ap (λ (l : List Row). l ++ row_from lent.entry start (end - start) ∷ []) p.rows_front
            ∙ ap (λ (x : Row). map row_of es ++ x ∷ []) row ∙ sym (map-append row_of es (e ∷ []));
        rows_behind = drop-set-lt (place + 1) rows place (row_from lent.entry start (end - start)) (omega arith)
            ∙ sym (drop-drop 1 place rows) ∙ ap (drop 1) p.rows_behind ∙ drop-drop 1 place rows0;
        paths_are = put_is ∙ put_in;
      }
