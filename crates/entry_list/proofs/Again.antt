-- An entry that was written is read again, as what a file keeps of it.
use Rattle.std.proofs.Common.{◌≡◌, ℕ, ◌+◌, ◌-◌, ◌*◌, ◌/◌, ◌%◌, ◌≤◌, true, false, eqb, min, List, ◌∷◌, ◌++◌, length, All}
use Rattle.std.proofs.Common.{suc, refl, sym, ap, ◌∙◌, append_assoc, arith, take, drop, inl, inr}
use Rattle.std.specs.Prelude.{◌≢◌, replicate}
use Rattle.std.proofs.lemmas.Bool.{eq-eqb, ne_eqb, cases_lt}
use Rattle.std.proofs.lemmas.List.{length-append, length-replicate}
use Rattle.index_parts.specs.Id.{id_len, id_bytes, id_kind, make_id}
use Rattle.index_parts.specs.Numbers.{number}
use Rattle.index_parts.specs.Mode.{stored_mode}
use Rattle.entry_fields.specs.Stat.{stat_of}
use Rattle.index_parts.specs.declared.hash.Kind.{Kind}
use Rattle.index_parts.specs.declared.hash.ObjectId.{ObjectId}
use Rattle.index_parts.specs.declared.hash.ObjectId.TheVariants as ids
use Rattle.entry_fields.specs.declared.entry.stat.Stat.{Stat}
use Rattle.entry_list.specs.Entry.{EntryHead, head_bytes, IsEntryHead, record_of, length_field, IsPath, IsEntry23}
use Rattle.entry_list.specs.EntryImage.{numbers_of, head_of, unpadded, padding, entry_bytes}
use Rattle.entry_list.specs.Record.{Record, IsSized}
use Rattle.entry_list.specs.EntryImage.{stored_record}
use Rattle.entry_list.proofs.Words.{be_be32, be_first, first_len, first_extended, second_legal, kept_again}

-- a record that a file of this kind can hold
pub record IsStorableIn (kind : Kind) (r : Record) : Type 0 where
  pub id : id_kind r.id ≡ kind
  pub path : 4095 ≤ length r.path → All (λ b. b ≢ 0) r.path
  pub fits : IsSized r

-- ---- the head

make_again : (id : ObjectId) → make_id (id_kind id) (id_bytes id) ≡ id
make_again (ids.Sha1 bytes) = refl
make_again (ids.Sha256 bytes) = refl

stat_again : (r : Record) → IsSized r → stat_of (take 24 (numbers_of r)) (drop 28 (numbers_of r)) ≡ r.stat
unfolding numbers_of
stat_again r h = rw (
  be_be32 r.stat.ctime.secs h.ctime_secs,
  be_be32 r.stat.ctime.nsecs h.ctime_nsecs,
  be_be32 r.stat.mtime.secs h.mtime_secs,
  be_be32 r.stat.mtime.nsecs h.mtime_nsecs,
  be_be32 r.stat.dev h.dev,
  be_be32 r.stat.ino h.ino,
  be_be32 r.stat.uid h.uid,
  be_be32 r.stat.gid h.gid,
  be_be32 r.stat.size h.size,
) refl

mode_again : (r : Record) → IsSized r → number (numbers_of r) 6 ≡ r.mode
unfolding numbers_of
mode_again r h = be_be32 r.mode h.mode

numbers_len : (r : Record) → length (numbers_of r) ≡ 40
unfolding numbers_of
numbers_len r = refl

pub head_is : (kind : Kind) (r : Record) → IsStorableIn kind r → IsEntryHead kind (head_of r)
head_is kind r h = record {
  numbers = numbers_len r;
  id = h.fits.id ∙ ap id_len h.id;
  word = refl;
  second = rw (be_first r, first_extended r) (second_legal r);
}

same_record : (p : List ℕ) (s s' : Stat) (i i' : ObjectId) (f f' m m' : ℕ) → s ≡ s' → i ≡ i' → f ≡ f' → m ≡ m'
    → ◌≡◌ {A = Record} (record { path = p; stat = s; id = i; flags = f; mode = m })
    (record { path = p; stat = s'; id = i'; flags = f'; mode = m' })
same_record p s s' i i' f f' m m' a b c d = rw (a, b, c, d) refl

pub record_again : (kind : Kind) (r : Record) → IsStorableIn kind r
    → stored_record r ≡ record_of kind (head_of r) r.path
record_again kind r h =
    let id : make_id kind (id_bytes r.id) ≡ r.id = rw (← h.id) (make_again r.id) in
    sym (same_record r.path (stat_of (take 24 (numbers_of r)) (drop 28 (numbers_of r))) r.stat
    (make_id kind (id_bytes r.id)) r.id _ (stored_record r).flags (stored_mode (number (numbers_of r) 6))
    (stored_mode r.mode) (stat_again r h.fits) id (kept_again r) (ap stored_mode (mode_again r h.fits)))

-- ---- the path

path_is : (p after : List ℕ) → (4095 ≤ length p → All (λ b. b ≢ 0) p) → IsPath (min (length p) 0xfff) p (0 ∷ after)
path_is p after h =
    elim (cases_lt (length p) 4095) [
      | inl lt ↦ let short : eqb (min (length p) 4095) 4095 ≡ false = ne_eqb _ _ (omega arith) in rw short (omega arith)
      | inr le ↦
          let full : eqb (min (length p) 4095) 4095 ≡ true = eq-eqb _ _ (omega arith) in
          rw full (after, record { parts = refl; apart = h le; two = omega (arith, length-append p (0 ∷ after)) })
    ]

padding_begins : (n : ℕ) → padding n ≡ 0 ∷ replicate (7 - n % 8) 0
padding_begins n = let k : 8 - n % 8 ≡ suc (7 - n % 8) = omega arith in rw k refl

path_again : (kind : Kind) (r : Record) (n : ℕ) (rest : List ℕ) → IsStorableIn kind r
    → IsPath (length_field (head_of r)) r.path (padding n ++ rest)
path_again kind r n rest h =
    rw (be_first r, first_len r, padding_begins n) (path_is r.path (replicate (7 - n % 8) 0 ++ rest) h.path)

-- ---- an entry

pub length-padding : (n : ℕ) → length (padding n) ≡ 8 - n % 8
length-padding n = length-replicate (8 - n % 8) 0

padded : (n : ℕ) → (n + (8 - n % 8)) % 8 ≡ 0
padded n = omega arith

regroup : (f p z rest : List ℕ) → ((f ++ p) ++ z) ++ rest ≡ f ++ (p ++ (z ++ rest))
regroup f p z rest = simp append_assoc

-- a written entry is an entry of version 2 or 3 at the front of the bytes
pub entry_again : (kind : Kind) (r : Record) (rest : List ℕ) → IsStorableIn kind r
    → IsEntry23 kind (entry_bytes r ++ rest) (stored_record r) rest
unfolding unpadded
entry_again kind r rest h =
    let f : List ℕ = head_bytes (head_of r) in
    let n : ℕ = length (f ++ r.path) in
    let len : n ≡ length f + length r.path = length-append f r.path in
    let pad : length (padding n) ≡ 8 - n % 8 = length-padding n in
    record {
      head = head_of r;
      is_head = head_is kind r h;
      padding = padding n;
      parts = regroup f r.path (padding n) rest;
      path = path_again kind r n rest h;
      some_padding = omega arith;
      small_padding = omega arith;
      whole = rw (pad, ← len) (padded n);
      is = record_again kind r h;
    }

-- ---- how many bytes an entry has

-- an entry fills whole blocks of 8 bytes
pub whole_entry : (r : Record) → length (entry_bytes r) % 8 ≡ 0
whole_entry r =
    omega (arith, length-append (unpadded r) (padding (length (unpadded r))), length-padding (length (unpadded r)))

pub head_len : (kind : Kind) (r : Record) → IsStorableIn kind r → 42 + id_len kind ≤ length (head_bytes (head_of r))
head_len kind r h =
    let f : EntryHead = head_of r in
    let i : IsEntryHead kind f = head_is kind r h in
    omega (
      arith,
      length-append f.numbers (f.id ++ (f.word ++ f.second)),
      length-append f.id (f.word ++ f.second),
      length-append f.word f.second,
    )

pub entry_len : (kind : Kind) (r : Record) → IsStorableIn kind r
    → ((42 + id_len kind) / 8 + 1) * 8 ≤ length (entry_bytes r)
unfolding unpadded
entry_len kind r h =
    let f : List ℕ = head_bytes (head_of r) in
    let low : 42 + id_len kind ≤ length f = head_len kind r h in
    omega (
      arith,
      length-append f r.path,
      length-append (f ++ r.path) (padding (length (f ++ r.path))),
      length-padding (length (f ++ r.path)),
    )
