-- All bytes have an answer.
use Rattle.std.proofs.Common.{◌≡◌, ℕ, ◌+◌, ◌-◌, ◌<◌, ◌≤◌, ◌⊎◌, Bool, true, false, ltb, eqb, not, List, [], ◌∷◌, length}
use Rattle.std.proofs.Common.{take, drop, inl, inr, Option, Some, None, Result, Ok, Err, refl, sym, ap, ◌∙◌, arith}
use Rattle.std.specs.Prelude.{MatchBool, MatchResult, ◌≢◌, codes}
use Rattle.std.specs.Cmp.Lexicographic.{pointwise}
use Rattle.std.proofs.lemmas.Bool.{cases_lt, cases_eq}
use Rattle.std.proofs.lemmas.List.{take-append-drop, length-drop}
use Rattle.std.proofs.lemmas.List.Elements.{All-nil, All-cons}
use Rattle.index_parts.specs.Id.{id_len, id_bytes}
use Rattle.index_parts.specs.declared.hash.Kind.{Kind}
use Rattle.index_parts.specs.declared.hash.ObjectId.{ObjectId}
use Rattle.index_parts.specs.declared.hash.ObjectId.TheVariants as ids
use Rattle.entry_fields.specs.declared.entry.stat.FileTime.{FileTime}
use Rattle.index_extensions.specs.EndMarker.{IsMarker}
use Rattle.index_extensions.specs.Walk.{Item, left_of}
use Rattle.index_extensions.proofs.EndMarks.{bytes_agree, bytes_differ}
use Rattle.index_extensions.proofs.MarkerReadings.{marker_reading}
use Rattle.index_extensions.proofs.Readings.{Decided}
use Rattle.index_extensions.proofs.Walks.{walk_of}
use Rattle.entry_list.specs.declared.Version.{Version}
use Rattle.index_model.specs.declared.decode.Options.{Options}
use Rattle.index_model.specs.Answer.{Header, OutOfMemory, NoEntry, Extension, TrailerLength, Verify, Answer}
use Rattle.index_model.specs.Answer.{trailer_checksum, IsVerified, answer_contents, IsClosed, faulty, left, whole}
use Rattle.index_model.specs.Answer.{IsEnding}
use Rattle.index_model.specs.Answer.{short, walked, IsBehindHeader, lacks, has, IsCounted, IsAnswer}
use Rattle.entry_list.specs.Header.{HeaderFault, Corrupt, header_of, count_of}
use Rattle.entry_list.specs.Limits.{most_entries, is_too_large}
use Rattle.index_model.specs.Outcome.{ExtensionFault, IsFault, AreSound, IsFirstFault}
use Rattle.entry_list.specs.Record.{Record}
use Rattle.index_model.proofs.Outcomes.{IsSound, fault_reading, outcome_reading}
use Rattle.entry_list.proofs.SomeEntries.{EntriesAt, entries_reading}

-- ---- the first fault

-- some extension is the first with a fault, or none has one
abbrev FaultIn : Kind → List Item → Type 0
FaultIn kind items = ((fault : ExtensionFault) × IsFirstFault kind items fault) ⊎ AreSound kind items

fault_behind : (kind : Kind) (i : Item) (items : List Item) → IsSound kind i → FaultIn kind items
    → FaultIn kind (i ∷ items)
fault_behind kind i items s (inl f) = inl (
  f.0,
  record {
    before = i ∷ f.1.before;
    item = f.1.item;
    behind = f.1.behind;
    parts = ap (λ (l : List Item). i ∷ l) f.1.parts;
    sound = All-cons (IsSound kind) i f.1.before s f.1.sound;
    is_fault = f.1.is_fault;
  },
)
fault_behind kind i items s (inr others) = inr (All-cons (IsSound kind) i items s others)

fault_by : (kind : Kind) (i : Item) (items : List Item) → Decided (IsFault kind i) → FaultIn kind items
    → FaultIn kind (i ∷ items)
fault_by kind i items (inl f) others = inl (
  f.0,
  record { before = []; item = i; behind = items; parts = refl; sound = All-nil (IsSound kind); is_fault = f.1 },
)
fault_by kind i items (inr s) others = fault_behind kind i items s others

first_reading : (kind : Kind) (items : List Item) → FaultIn kind items
first_reading kind [] = inr (All-nil (IsSound kind))
first_reading kind (i ∷ items) = fault_by kind i items (fault_reading kind i) (first_reading kind items)

-- ---- the trailer's id and the expected one

-- two ids of one hash algorithm are the same if and only if their bytes are
same_by : (make : List ℕ → ObjectId) → ((bytes : List ℕ) → id_bytes (make bytes) ≡ bytes) → (xs ys : List ℕ) (t : Bool)
    → not (pointwise eqb xs ys) ≡ t → (make xs ≡ make ys) ⊎ (make xs ≢ make ys)
same_by make made xs ys false e = inl (ap make (bytes_agree xs ys e))
same_by make made xs ys true e = inr (λ same. bytes_differ xs ys e (sym (made xs) ∙ ap id_bytes same ∙ made ys))

same_id : (x y : ObjectId) → (x ≡ y) ⊎ (x ≢ y)
same_id (ids.Sha1 xs) (ids.Sha1 ys) = same_by ids.Sha1 (λ bytes. refl) xs ys _ refl
same_id (ids.Sha256 xs) (ids.Sha256 ys) = same_by ids.Sha256 (λ bytes. refl) xs ys _ refl
same_id (ids.Sha1 xs) (ids.Sha256 ys) = inr (λ same. absurd cc)
same_id (ids.Sha256 xs) (ids.Sha1 ys) = inr (λ same. absurd cc)

verified_by : (expected actual : ObjectId) (answer : Answer) → (actual ≡ expected) ⊎ (actual ≢ expected)
    → (a : Answer) × IsVerified (Some expected) (Some actual) answer a
verified_by expected actual answer (inl same) = (answer, inl (same, refl))
verified_by expected actual answer (inr other) = (Err (Verify actual expected), inr (other, refl))

verified_some : (expected actual : Option ObjectId) (answer : Answer)
    → (a : Answer) × IsVerified expected actual answer a
verified_some None actual answer = (answer, refl)
verified_some (Some x) None answer = (answer, refl)
verified_some (Some x) (Some y) answer = verified_by x y answer (same_id y x)

-- ---- what follows from the entries on

module _ (kind : Kind) (time : FileTime) (options : Options) (version : Version) where
  tail_by : (rs : List Record) (items : List Item) (tail trailer : List ℕ) → AreSound kind items → (left_of tail ≡ 0)
      ⊎ (left_of tail ≡ 0 → ⊥) → (a : Answer) × IsClosed kind time options version rs items tail trailer a
  tail_by rs items tail trailer s (inl none) =
      let o = outcome_reading kind options.alloc_limit_bytes items in
      let v = verified_some options.expected_checksum (trailer_checksum kind trailer)
      (Ok (answer_contents kind time version rs o.0, trailer_checksum kind trailer)) in
      (v.0, whole o.0 s none o.1 v.1)
  tail_by rs items tail trailer s (inr some) =
      (Err (TrailerLength (id_len kind) (left_of tail + id_len kind)), left s some refl)

  closed_by : (rs : List Record) (items : List Item) (tail trailer : List ℕ) → FaultIn kind items
      → (a : Answer) × IsClosed kind time options version rs items tail trailer a
  closed_by rs items tail trailer (inl f) = (Err (Extension f.0), faulty f.0 f.1 refl)
  closed_by rs items tail trailer (inr s) = tail_by rs items tail trailer s (cases_eq (left_of tail) 0)

  -- the last bytes are the trailer, and the walk is over those before it
  ending_by : (rs : List Record) (rest : List ℕ) → (length rest < id_len kind) ⊎ (id_len kind ≤ length rest)
      → (a : Answer) × IsEnding kind time options version rs rest a
  ending_by rs rest (inl fewer) = (Err (TrailerLength (id_len kind) (length rest)), short fewer refl)
  ending_by rs rest (inr room) =
      let n = length rest - id_len kind in
      let w = walk_of (take n rest) in
      let closed = closed_by rs w.0 w.1 (drop n rest) (first_reading kind w.0) in (
        closed.0,
        walked (take n rest) (drop n rest) w.0 w.1 (sym (take-append-drop n rest))
            (omega (arith, length-drop n rest)) w.2 closed.1,
      )

  body_by : (count : ℕ) (bytes : List ℕ) → EntriesAt version kind count bytes
      → (a : Answer) × IsBehindHeader kind time options version count bytes a
  body_by count bytes (inl h) =
      let ending = ending_by h.0 h.1 (cases_lt (length h.1) (id_len kind)) in
      (ending.0, has h.0 h.1 h.2 h.3 ending.1)
  body_by count bytes (inr h) = (Err (NoEntry h.0), lacks h.0 h.1 h.2 refl)

-- ---- what follows from all bytes

some_of_two : (t : Bool) (P Q : Answer → Type 0) → (a : Answer) × P a → (a : Answer) × Q a
    → (a : Answer) × MatchBool t (P a) (Q a)
some_of_two true P Q p q = p
some_of_two false P Q p q = q

counted_some : (offset : Option ℕ) (kind : Kind) (time : FileTime) (options : Options) (bytes : List ℕ)
    (version : Version) → (a : Answer) × IsCounted offset kind time options bytes a version
counted_some offset kind time options bytes version =
    let few : Answer = Err (Header (Corrupt (codes "Declared entry count exceeds possible entries for file size"))) in
    let Body = IsBehindHeader kind time options version (count_of bytes) (drop 12 bytes) in
    let large = is_too_large options.alloc_limit_bytes (count_of bytes) (length bytes) offset kind version in
    some_of_two (ltb (most_entries (length bytes) offset kind version) (count_of bytes)) (λ a. a ≡ few)
    (λ a. MatchBool large (a ≡ Err OutOfMemory) (Body a)) (few, refl)
    (some_of_two large (λ a. a ≡ Err OutOfMemory) Body (Err OutOfMemory, refl) (body_by kind time options version
    (count_of bytes) (drop 12 bytes) (entries_reading version kind (count_of bytes) (drop 12 bytes))))

headed_some : (r : Result Version HeaderFault) (P : Version → Answer → Type 0)
    → ((version : Version) → (a : Answer) × P version a)
    → (a : Answer) × MatchResult r (λ version. P version a) (λ fault. a ≡ Err (Header fault))
headed_some (Ok version) P p = p version
headed_some (Err fault) P p = (Err (Header fault), refl)

pub answer_some : (kind : Kind) (time : FileTime) (options : Options) (bytes : List ℕ)
    → (a : Answer) × IsAnswer kind time options bytes a
answer_some kind time options bytes =
    let marker = marker_reading kind bytes in
    headed_some (header_of kind bytes) (λ version a. (offset : Option ℕ) × IsMarker kind bytes offset
    × IsCounted offset kind time options bytes a version)
    (λ version. let counted = counted_some marker.0 kind time options bytes version in
    (counted.0, (marker.0, marker.1, counted.1)))
