-- What is read of entries: a file keeps all of it, and it fits in memory.
use Rattle.std.proofs.Common.{◌≡◌, ℕ, ◌+◌, ◌-◌, ◌*◌, ◌^◌, ◌<◌, ◌≤◌, Bool, true, false, eqb, List, [], ◌∷◌, ◌++◌, length}
use Rattle.std.proofs.Common.{take, drop, Option, Some, None, All, refl, sym, ap, subst, ◌∙◌, length-take, length-drop}
use Rattle.std.proofs.Common.{arith}
use Rattle.std.specs.Prelude.{◌≢◌, MatchBool, IfSome}
use Rattle.std.specs.List.{AllByRecursion}
use Rattle.std.proofs.lemmas.Bool.{eqb-false}
use Rattle.std.proofs.lemmas.Nat.{and_le_r}
use Rattle.std.proofs.lemmas.List.Elements.{All-nil, All-cons, All-head, All-tail, All-append, All-take, All-drop}
use Rattle.index_parts.proofs.Ids.{id_kind-make_id, id_bytes-make_id}
use Rattle.entry_fields.specs.Flags.{joined_words}
use Rattle.index_parts.specs.Numbers.{be, number, IsUpTo}
use Rattle.index_parts.specs.Id.{id_len, id_bytes, id_kind, make_id}
use Rattle.index_parts.specs.declared.hash.Kind.{Kind}
use Rattle.entry_list.specs.declared.Version.{Version}
use Rattle.entry_list.specs.declared.Version.TheVariants.{V2, V3, V4}
use Rattle.entry_list.specs.Entries.{AreEntries}
use Rattle.entry_list.specs.Entry.{EntryHead, head_bytes, IsEntryHead, record_of, length_field, IsPath, IsEntry23}
use Rattle.entry_list.specs.Entry.{IsEntry4, joined_path}
use Rattle.entry_list.specs.EntryImage.{is_removed, stored_record}
use Rattle.entry_list.specs.Record.{Record, AreBytes, IsSized}
use Rattle.entry_list.proofs.Kept.{kept_twice, mask_twice}

-- ---- bytes

all_left : (P : ℕ → Type 0) (xs ys : List ℕ) → All P (xs ++ ys) → All P xs
all_left P [] ys h = All-nil P
all_left P (x ∷ xs) ys h = All-cons P x xs (All-head P x (xs ++ ys) h) (all_left P xs ys (All-tail P x (xs ++ ys) h))

all_right : (P : ℕ → Type 0) (xs ys : List ℕ) → All P (xs ++ ys) → All P ys
all_right P [] ys h = h
all_right P (x ∷ xs) ys h = all_right P xs ys (All-tail P x (xs ++ ys) h)

four_small : (a b c d : ℕ) → a < 256 → b < 256 → c < 256 → d < 256 → be (a ∷ b ∷ c ∷ d ∷ []) < 2 ^ 32
four_small a b c d p q r s = omega arith

be_small : (l : List ℕ) → length l ≡ 4 → AreBytes l → be l < 2 ^ 32
be_small [] e h = absurd (omega arith)
be_small (a ∷ []) e h = absurd (omega arith)
be_small (a ∷ b ∷ []) e h = absurd (omega arith)
be_small (a ∷ b ∷ c ∷ []) e h = absurd (omega arith)
be_small (a ∷ b ∷ c ∷ d ∷ []) e h =
    let P : ℕ → Type 0 = λ x. x < 256 in
    let t1 = All-tail P a (b ∷ c ∷ d ∷ []) h in
    let t2 = All-tail P b (c ∷ d ∷ []) t1 in
    four_small a b c d (All-head P a (b ∷ c ∷ d ∷ []) h) (All-head P b (c ∷ d ∷ []) t1) (All-head P c (d ∷ []) t2)
    (All-head P d [] (All-tail P c (d ∷ []) t2))
be_small (a ∷ b ∷ c ∷ d ∷ x ∷ l) e h = absurd (omega arith)

number_small : (numbers : List ℕ) (i : ℕ) → 4 * i + 4 ≤ length numbers → AreBytes numbers → number numbers i < 2 ^ 32
number_small numbers i le h =
    let piece : List ℕ = take 4 (drop (4 * i) numbers) in
    be_small piece (omega (arith, length-take 4 (drop (4 * i) numbers), length-drop (4 * i) numbers))
    (All-take (λ b. b < 256) 4 (drop (4 * i) numbers) (All-drop (λ b. b < 256) (4 * i) numbers h))

-- ---- a record

-- a file keeps all of the record, which is of this kind
pub record IsKept (kind : Kind) (r : Record) : Type 0 where
  pub stays : stored_record r ≡ r
  pub unmarked : is_removed r.flags ≡ false
  pub id : id_kind r.id ≡ kind
  pub path : 4095 ≤ length r.path → All (λ b. b ≢ 0) r.path

made_len : (kind : Kind) (l : List ℕ) → length l ≡ id_len kind
    → length (id_bytes (make_id kind l)) ≡ id_len (id_kind (make_id kind l))
made_len kind l e = ap length (id_bytes-make_id kind l) ∙ e ∙ ap id_len (sym (id_kind-make_id kind l))

kept_of : (kind : Kind) (f : EntryHead) (path : List ℕ) → (4095 ≤ length path → All (λ b. b ≢ 0) path)
    → IsKept kind (record_of kind f path)
kept_of kind f path apart =
    let twice = kept_twice (joined_words (be f.word) (be f.second)) in
    record {
      stays = rw (twice.flags, mask_twice 0o160755 (number f.numbers 6) 0o160755 refl) refl;
      unmarked = twice.unmarked;
      id = id_kind-make_id kind f.id;
      path = apart;
    }

fits_of : (kind : Kind) (f : EntryHead) (path : List ℕ) → IsEntryHead kind f → AreBytes f.numbers
    → IsSized (record_of kind f path)
fits_of kind f path h b =
    let first : length (take 24 f.numbers) ≡ 24 = omega (arith, h.numbers, length-take 24 f.numbers) in
    let last : length (drop 28 f.numbers) ≡ 12 = omega (arith, h.numbers, length-drop 28 f.numbers) in
    let before = λ (i : ℕ) (lt : i < 6). number_small (take 24 f.numbers) i (omega arith)
    (All-take (λ b. b < 256) 24 f.numbers b) in
    let behind = λ (i : ℕ) (lt : i < 3). number_small (drop 28 f.numbers) i (omega arith)
    (All-drop (λ b. b < 256) 28 f.numbers b) in
    record {
      ctime_secs = before 0 (omega arith);
      ctime_nsecs = before 1 (omega arith);
      mtime_secs = before 2 (omega arith);
      mtime_nsecs = before 3 (omega arith);
      dev = before 4 (omega arith);
      ino = before 5 (omega arith);
      uid = behind 0 (omega arith);
      gid = behind 1 (omega arith);
      size = behind 2 (omega arith);
      mode = omega (arith, and_le_r (number f.numbers 6) 0o160755);
      id = made_len kind f.id h.id;
    }

path_apart : (field : ℕ) (path after : List ℕ) → field ≤ 4095 → IsPath field path after → 4095 ≤ length path
    → All (λ b. b ≢ 0) path
path_apart field path after le h long = by (eqb field 4095) refl h
  where
    by : (t : Bool) → eqb field 4095 ≡ t
        → MatchBool t ((rest : List ℕ) × IsUpTo 0 (path ++ after) path rest) (length path ≡ field)
        → All (λ b. b ≢ 0) path
    by true e k = k.1.apart
    by false e k = let other = eqb-false field 4095 e in absurd (omega arith)

-- what is read of an entry: a kept record, and in version 4 a path without a NUL
record IsReadEntry (version : Version) (kind : Kind) (bytes : List ℕ) (r : Record) (rest : List ℕ) : Type 0 where
  kept : IsKept kind r
  fits : AreBytes bytes → IsSized r
  behind : AreBytes bytes → AreBytes rest

before_head : (f : EntryHead) (after bytes : List ℕ) → bytes ≡ head_bytes f ++ after → AreBytes bytes
    → AreBytes f.numbers × AreBytes after
before_head f after bytes e h =
    let all : AreBytes (head_bytes f ++ after) = subst AreBytes e h in (
      all_left (λ b. b < 256) f.numbers (f.id ++ (f.word ++ f.second))
          (all_left (λ b. b < 256) (head_bytes f) after all),
      all_right (λ b. b < 256) (head_bytes f) after all,
    )

read23 : (version : Version) (kind : Kind) (bytes : List ℕ) (r : Record) (rest : List ℕ) → IsEntry23 kind bytes r rest
    → IsReadEntry version kind bytes r rest
read23 version kind bytes r rest h = record {
  kept = subst (IsKept kind) (sym h.is) (kept_of kind h.head r.path
      (path_apart (length_field h.head) r.path (h.padding ++ rest) (and_le_r (be h.head.word) 0xfff) h.path));
  fits = λ b. subst IsSized (sym h.is)
      (fits_of kind h.head r.path h.is_head (before_head h.head (r.path ++ (h.padding ++ rest)) bytes h.parts b).0);
  behind = λ b. all_right (λ x. x < 256) h.padding rest (all_right (λ x. x < 256) r.path (h.padding ++ rest)
      (before_head h.head (r.path ++ (h.padding ++ rest)) bytes h.parts b).1);
}

-- the path before has no NUL
abbrev IsApart : Option (List ℕ) → Type 0
IsApart previous = IfSome previous (λ p. All (λ b. b ≢ 0) p)

joined_apart : (previous : Option (List ℕ)) (n : ℕ) (tail : List ℕ) → IsApart previous → All (λ b. b ≢ 0) tail
    → All (λ b. b ≢ 0) (joined_path previous n tail)
joined_apart None n tail h k = k
joined_apart (Some p) n tail h k =
    All-append (λ b. b ≢ 0) (take (length p - n) p) tail (All-take (λ b. b ≢ 0) (length p - n) p h) k

path_apart4 : (kind : Kind) (previous : Option (List ℕ)) (bytes : List ℕ) (r : Record) (rest : List ℕ)
    → IsApart previous → IsEntry4 kind previous bytes r rest → All (λ b. b ≢ 0) r.path
path_apart4 kind previous bytes r rest a h = subst (λ (x : Record). All (λ b. b ≢ 0) x.path) (sym h.is)
    (joined_apart previous h.stripped h.tail a h.is_tail.apart)

read4 : (kind : Kind) (previous : Option (List ℕ)) (bytes : List ℕ) (r : Record) (rest : List ℕ) → IsApart previous
    → IsEntry4 kind previous bytes r rest → IsReadEntry V4 kind bytes r rest
read4 kind previous bytes r rest a h =
    let path = joined_path previous h.stripped h.tail in
    record {
      kept = subst (IsKept kind) (sym h.is)
          (kept_of kind h.head path (λ long. joined_apart previous h.stripped h.tail a h.is_tail.apart));
      fits = λ b.
          subst IsSized (sym h.is) (fits_of kind h.head path h.is_head (before_head h.head h.after bytes h.parts b).0);
      behind = λ b.
          let delta = all_right (λ x. x < 256) h.is_offset.spelling h.delta
          (subst AreBytes h.is_offset.parts (before_head h.head h.after bytes h.parts b).1) in
          All-tail (λ x. x < 256) 0 rest
          (all_right (λ x. x < 256) h.tail (0 ∷ rest) (subst AreBytes h.is_tail.parts delta));
    }

-- ---- records

abbrev pub AreKept : Kind → List Record → Type 0
AreKept kind rs = AllByRecursion (IsKept kind) rs

pub record AreRead (kind : Kind) (bytes : List ℕ) (rs : List Record) : Type 0 where
  pub kept : AreKept kind rs
  pub fit : AreBytes bytes → AllByRecursion IsSized rs

read_more : (version : Version) (kind : Kind) (bytes after : List ℕ) (r : Record) (rs : List Record)
    → IsReadEntry version kind bytes r after → AreRead kind after rs → AreRead kind bytes (r ∷ rs)
read_more version kind bytes after r rs h k =
    record { kept = (h.kept, k.kept); fit = λ b. (h.fits b, k.fit (h.behind b)) }

read_none : (kind : Kind) (bytes : List ℕ) → AreRead kind bytes []
read_none kind bytes = record { kept = tt; fit = λ b. tt }

all_read2 : (kind : Kind) (previous : Option (List ℕ)) (bytes : List ℕ) (rs : List Record) (rest : List ℕ)
    → AreEntries V2 kind previous bytes rs rest → AreRead kind bytes rs
all_read2 kind previous bytes [] rest h = read_none kind bytes
all_read2 kind previous bytes (r ∷ rs) rest h =
    read_more V2 kind bytes h.0 r rs (read23 V2 kind bytes r h.0 h.1) (all_read2 kind (Some r.path) h.0 rs rest h.2)

all_read3 : (kind : Kind) (previous : Option (List ℕ)) (bytes : List ℕ) (rs : List Record) (rest : List ℕ)
    → AreEntries V3 kind previous bytes rs rest → AreRead kind bytes rs
all_read3 kind previous bytes [] rest h = read_none kind bytes
all_read3 kind previous bytes (r ∷ rs) rest h =
    read_more V3 kind bytes h.0 r rs (read23 V3 kind bytes r h.0 h.1) (all_read3 kind (Some r.path) h.0 rs rest h.2)

all_read4 : (kind : Kind) (previous : Option (List ℕ)) (bytes : List ℕ) (rs : List Record) (rest : List ℕ)
    → IsApart previous → AreEntries V4 kind previous bytes rs rest → AreRead kind bytes rs
all_read4 kind previous bytes [] rest a h = read_none kind bytes
all_read4 kind previous bytes (r ∷ rs) rest a h =
    read_more V4 kind bytes h.0 r rs (read4 kind previous bytes r h.0 a h.1)
    (all_read4 kind (Some r.path) h.0 rs rest (path_apart4 kind previous bytes r h.0 a h.1) h.2)

-- a file preserves records that were read, and they fit if the bytes are below 256
pub all_read : (version : Version) (kind : Kind) (bytes : List ℕ) (rs : List Record) (rest : List ℕ)
    → AreEntries version kind None bytes rs rest → AreRead kind bytes rs
all_read V2 kind bytes rs rest h = all_read2 kind None bytes rs rest h
all_read V3 kind bytes rs rest h = all_read3 kind None bytes rs rest h
all_read V4 kind bytes rs rest h = all_read4 kind None bytes rs rest tt h
