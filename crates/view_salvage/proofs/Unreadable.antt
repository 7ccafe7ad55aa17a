-- A file whose parts have a fault isn't read as an index.
use Rattle.std.proofs.Common.{◌≡◌, ◌≢◌, ◌<◌, ℕ, ◌⊎◌, Bool, true, false, List, ◌∷◌, [], ◌++◌, length, drop, Option, Some}
use Rattle.std.proofs.Common.{None, Result, Ok, Err, inl, inr, refl, sym, ap, subst, ◌∙◌}
use Rattle.std.specs.Prelude.{MatchBool, MatchResult, codes, nat_lt}
use Rattle.std.proofs.lemmas.List.{length-map}
use Rattle.gix_index.proofs.MarkerReadings.{marker_reading}
use Rattle.gix_index.proofs.OnceAnswers.{answer_one}
use Rattle.gix_index.proofs.Walks.{more_items, walk_of}
use Rattle.gix_index.specs.Answer.{Answer, Fault, Header, NoEntry, Extension, TrailerLength, IsAnswer}
use Rattle.gix_index.specs.Answer.{IsBehindHeader, IsEnding, has}
use Rattle.gix_index.specs.Answer as answers
use Rattle.gix_index.specs.Intact.{needs_check}
use Rattle.gix_index.specs.Contents.{Contents}
use Rattle.gix_index.specs.DecodeOptions.{Options}
use Rattle.gix_index.specs.EndMarker.{IsMarker}
use Rattle.gix_index.specs.Entries.{LacksEntry}
use Rattle.gix_index.specs.FileTime.{FileTime}
use Rattle.gix_index.specs.Header.{Corrupt, HeaderFault, count_of, header_len, header_of}
use Rattle.gix_index.specs.Id.{id_len}
use Rattle.gix_index.specs.Kind.{Kind}
use Rattle.gix_index.specs.Laws.{TakesAll}
use Rattle.gix_index.specs.Limits.{is_too_large, most_entries}
use Rattle.gix_index.specs.ObjectId.{ObjectId}
use Rattle.gix_index.specs.Outcome.{AreSound, ExtensionFault, IsFault, IsFirstFault}
use Rattle.gix_index.specs.Record.{Record}
use Rattle.gix_index.specs.Version.{Version}
use Rattle.gix_index.specs.Walk.{Item, AreItems, IsItem, NoItem, left_of}
use Rattle.view_salvage.proofs.Readable.{IsAnswered, by_false, by_ok, entries_of, whole_answer}
use Rattle.view_salvage.specs.Division.{IsBehindEntries, IsCrowded, IsDivided, IsFileEnd, NoEntryBehind, lacks}
use Rattle.view_salvage.specs.Division.{crowded, short, walked, faulty, left, broken, whole, headless, headed}
use Rattle.view_salvage.specs.Laws.{IsUnreadableIndex}
use Rattle.view_layout.specs.Piece.{Piece}
use Rattle.view_salvage.specs.Spelling.{Spelling, AreSpelled, entries_spelled}

by_true : (t : Bool) (P Q : Type 0) → t ≡ true → P → MatchBool t P Q
by_true true P Q e p = p
by_true false P Q e p = absurd cc

by_err : (r : Result Version HeaderFault) (P : Version → Type 0) (Q : HeaderFault → Type 0) (f : HeaderFault)
    → r ≡ Err f → Q f → MatchResult r P Q
by_err r P Q f e q = subst (λ (x : Result Version HeaderFault). MatchResult x P Q) (sym e) q

-- an answer of the file is one of its bytes, unless it is a digest that isn't the trailer
ok_by : (t : Bool) (E A : Type 0) (x : Contents × Option ObjectId) (f : Fault)
    → MatchBool t ((E × A) ⊎ ((E → ⊥) × (◌≡◌ {A = Answer} (Ok x) (Err f)))) A → A
ok_by true E A x f (inl h) = h.1
ok_by true E A x f (inr h) = let clash : ◌≡◌ {A = Answer} (Ok x) (Err f) = h.1 in absurd cc
ok_by false E A x f h = h

broken_by : (t : Bool) (E A : Type 0) (x : Contents × Option ObjectId) (f : Fault) → t ≡ true → (E → ⊥)
    → MatchBool t ((E × A) ⊎ ((E → ⊥) × (◌≡◌ {A = Answer} (Ok x) (Err f)))) A → ⊥
broken_by true E A x f e n (inl h) = n h.0
broken_by true E A x f e n (inr h) = let clash : ◌≡◌ {A = Answer} (Ok x) (Err f) = h.1 in absurd cc
broken_by false E A x f e n h = absurd cc

-- the records of an answer, or none
abbrev records_in : Answer → List Record
records_in (Ok x) = x.0.records
records_in (Err f) = []

module _ (kind : Kind) (time : FileTime) (options : Options) (takes : TakesAll options) (bytes : List ℕ) where
  -- the bytes have no value for an answer, whatever the digest
  abbrev pub Refuses : Type 0
  Refuses = (x : Contents × Option ObjectId) → IsAnswer kind time options bytes (Ok x) → ⊥

  refused : (f : Fault) → IsAnswer kind time options bytes (Err f) → Refuses
  refused f h = λ x ok.
      let clash : ◌≡◌ {A = Answer} (Ok x) (Err f) = answer_one kind time options bytes (Ok x) (Err f) ok h in
      absurd cc

  unread : Refuses → IsUnreadableIndex kind time options bytes
  unread h = λ x read. h x (ok_by (needs_check false kind bytes) _ _ x _ read)

  pub headless_refused : (f : HeaderFault) → header_of kind bytes ≡ Err f → Refuses
  headless_refused f e = refused (Header f) (by_err (header_of kind bytes) _ _ f e refl)

  same_records : (x : Contents × Option ObjectId) (rs : List Record) (items : List Item)
      → IsAnswer kind time options bytes (Ok x) → IsAnswered kind time options bytes rs items → x.0.records ≡ rs
  same_records x rs items ok h =
      let same : ◌≡◌ {A = Answer} (Ok x) (Ok (h.value, h.checksum)) =
      answer_one kind time options bytes (Ok x) (Ok (h.value, h.checksum)) ok h.read in
      ap records_in same ∙ h.records

  pub crowded_refused : (version : Version) → header_of kind bytes ≡ Ok version
      → IsCrowded kind version bytes true → Refuses
  crowded_refused version is h =
      refused (Header (Corrupt (codes "Declared entry count exceeds possible entries for file size")))
      (by_ok (header_of kind bytes) _ _ version is (h.0, h.1, by_true _ _ _ h.2 refl))

  body_refused : (version : Version) (f : Fault) → header_of kind bytes ≡ Ok version
      → IsCrowded kind version bytes false
      → IsBehindHeader kind time options version (count_of bytes) (drop header_len bytes) (Err f) → Refuses
  body_refused version f is h body =
      let small : is_too_large options.alloc_limit_bytes (count_of bytes) (length bytes) h.0 kind version ≡ false =
      rw takes.limit refl in
      refused f (by_ok (header_of kind bytes) _ _ version is (h.0, h.1, by_false _ _ _ h.2 (by_false _ _ _ small body)))

  lack_refused : (version : Version) (f : Fault) (place : Option ℕ) (t : Bool) → header_of kind bytes ≡ Ok version
      → IsMarker kind bytes place → nat_lt (most_entries (length bytes) place kind version) (count_of bytes) ≡ t
      → IsBehindHeader kind time options version (count_of bytes) (drop header_len bytes) (Err f) → Refuses
  lack_refused version f place true is m e body = crowded_refused version is (place, m, e)
  lack_refused version f place false is m e body = body_refused version f is (place, m, e) body

  pub lacks_refused : (version : Version) (ss : List Spelling) (after : List ℕ) → header_of kind bytes ≡ Ok version
      → AreSpelled version kind None (drop header_len bytes) ss after → length ss < count_of bytes
      → NoEntryBehind version kind ss after → Refuses
  lacks_refused version ss after is are lt none =
      let marker = marker_reading kind bytes in
      let lack : LacksEntry version kind (drop header_len bytes) (length ss) = record {
        records = entries_spelled ss;
        rest = after;
        read = entries_of version kind None (drop header_len bytes) ss after are;
        count = length-map ss _;
        none = none;
      } in
      lack_refused version (NoEntry (length ss)) marker.0
      (nat_lt (most_entries (length bytes) marker.0 kind version) (count_of bytes)) is marker.1 refl
      (answers.lacks (length ss) lt lack refl)

  pub ending_refused : (version : Version) (ss : List Spelling) (after : List ℕ) (f : Fault)
      → header_of kind bytes ≡ Ok version → AreSpelled version kind None (drop header_len bytes) ss after
      → length ss ≡ count_of bytes → IsCrowded kind version bytes false
      → IsEnding kind time options version (entries_spelled ss) after (Err f) → Refuses
  ending_refused version ss after f is are all fits ending =
      body_refused version f is fits
      (has (entries_spelled ss) after (entries_of version kind None (drop header_len bytes) ss after are)
      (length-map ss _ ∙ all) ending)

  module _ (version : Version) (ss : List Spelling) (after : List ℕ) (items : List Item)
      (tail trailer extensions : List ℕ) (is : header_of kind bytes ≡ Ok version)
      (are : AreSpelled version kind None (drop header_len bytes) ss after) (all : length ss ≡ count_of bytes)
      (fits : IsCrowded kind version bytes false) (parted : after ≡ extensions ++ trailer)
      (len : length trailer ≡ id_len kind) (items_are : AreItems extensions items tail)
      (sound : AreSound kind items) where
    pub faulty_refused : (i : Item) (rest : List ℕ) (x : ExtensionFault) → IsItem tail i rest
        → IsFault kind i x → Refuses
    faulty_refused i rest x is_item is_fault =
        let w = walk_of rest in
        let walk = more_items extensions tail items (i ∷ w.0) w.1 items_are (rest, is_item, w.2.items_are) in
        let first : IsFirstFault kind (items ++ i ∷ w.0) x = record {
          before = items;
          item = i;
          behind = w.0;
          parts = refl;
          sound = sound;
          is_fault = is_fault;
        } in
        ending_refused version ss after (Extension x) is are all fits
        (answers.walked extensions trailer (items ++ i ∷ w.0) w.1 parted len
        (record { items_are = walk; ended = w.2.ended }) (answers.faulty x first refl))

    pub left_refused : NoItem tail → left_of tail ≢ 0 → Refuses
    left_refused ended more =
        ending_refused version ss after (TrailerLength _ _) is are all fits
        (answers.walked extensions trailer items tail parted len
        (record { items_are = items_are; ended = ended }) (answers.left sound more refl))

    end_unread : (last : List Piece) (f : Option Fault) (g : Fault) → f ≡ Some g
        → IsFileEnd kind bytes tail trailer last f → IsUnreadableIndex kind time options bytes
    end_unread last f g some (faulty i rest x is_item is_fault e h) = unread (faulty_refused i rest x is_item is_fault)
    end_unread last f g some (left ended more e h) = unread (left_refused ended more)
    end_unread last f g some (broken ended none b e h) =
        λ x read. broken_by (needs_check false kind bytes) _ _ x _ b.0 b.1 read
    end_unread last f g some (whole ended none intact e h) = absurd cc

    -- a value that is the answer all the same has these entries
    end_same : (last : List Piece) (f : Option Fault) (x : Contents × Option ObjectId)
        → IsAnswer kind time options bytes (Ok x) → IsFileEnd kind bytes tail trailer last f
        → x.0.records ≡ entries_spelled ss
    end_same last f x ok (faulty i rest g is_item is_fault e h) = absurd (faulty_refused i rest g is_item is_fault x ok)
    end_same last f x ok (left ended more e h) = absurd (left_refused ended more x ok)
    end_same last f x ok (broken ended none b e h) =
        same_records x (entries_spelled ss) items ok
        (whole_answer kind time options takes bytes version ss after items tail trailer extensions is are all fits
        parted len items_are sound ended none)
    end_same last f x ok (whole ended none intact e h) =
        same_records x (entries_spelled ss) items ok
        (whole_answer kind time options takes bytes version ss after items tail trailer extensions is are all fits
        parted len items_are sound ended none)

  behind_unread : (version : Version) (ss : List Spelling) (after : List ℕ) (ps : List Piece) (f : Option Fault)
      (g : Fault) → header_of kind bytes ≡ Ok version → AreSpelled version kind None (drop header_len bytes) ss after
      → f ≡ Some g → IsBehindEntries kind version bytes ss after ps f → IsUnreadableIndex kind time options bytes
  behind_unread version ss after ps f g is are some (lacks lt none e h) =
      unread (lacks_refused version ss after is are lt none)
  behind_unread version ss after ps f g is are some (crowded all c e h) = unread (crowded_refused version is c)
  behind_unread version ss after ps f g is are some (short all fits less e h) =
      unread (ending_refused version ss after (TrailerLength _ _) is are all fits (answers.short less refl))
  behind_unread version ss after ps f g is are some
      (walked all fits items tail trailer extensions last parted len items_are sound e is_end) =
      end_unread version ss after items tail trailer extensions is are all fits parted len items_are sound
      last f g some is_end

  behind_same : (version : Version) (ss : List Spelling) (after : List ℕ) (ps : List Piece) (f : Option Fault)
      (x : Contents × Option ObjectId) → header_of kind bytes ≡ Ok version
      → AreSpelled version kind None (drop header_len bytes) ss after → IsAnswer kind time options bytes (Ok x)
      → IsBehindEntries kind version bytes ss after ps f → x.0.records ≡ entries_spelled ss
  behind_same version ss after ps f x is are ok (lacks lt none e h) =
      absurd (lacks_refused version ss after is are lt none x ok)
  behind_same version ss after ps f x is are ok (crowded all c e h) = absurd (crowded_refused version is c x ok)
  behind_same version ss after ps f x is are ok (short all fits less e h) =
      absurd (ending_refused version ss after (TrailerLength _ _) is are all fits (answers.short less refl) x ok)
  behind_same version ss after ps f x is are ok
      (walked all fits items tail trailer extensions last parted len items_are sound e is_end) =
      end_same version ss after items tail trailer extensions is are all fits parted len items_are sound
      last f x ok is_end

  divided_unread : (rs : List Record) (ps : List Piece) (f : Option Fault) (g : Fault) → f ≡ Some g
      → IsDivided kind bytes rs ps f → IsUnreadableIndex kind time options bytes
  divided_unread rs ps f g some (headless x e a b h) = unread (headless_refused x e)
  divided_unread rs ps f g some (headed version ss after behind is are r e h) =
      behind_unread version ss after behind f g is are some h

  divided_same : (rs : List Record) (ps : List Piece) (f : Option Fault) (x : Contents × Option ObjectId)
      → IsAnswer kind time options bytes (Ok x) → IsDivided kind bytes rs ps f → x.0.records ≡ rs
  divided_same rs ps f x ok (headless g e a b h) = absurd (headless_refused g e x ok)
  divided_same rs ps f x ok (headed version ss after behind is are r e h) =
      behind_same version ss after behind f x is are ok h ∙ sym r

pub unread_whole : (kind : Kind) (time : FileTime) (options : Options) (bytes : List ℕ) (rs : List Record)
    (ps : List Piece) (f : Fault) → TakesAll options → IsDivided kind bytes rs ps (Some f)
    → IsUnreadableIndex kind time options bytes
unread_whole kind time options bytes rs ps f takes h =
    divided_unread kind time options takes bytes rs ps (Some f) f refl h

-- what bytes are read as has the entries of their parts
pub same_entries : (kind : Kind) (time : FileTime) (options : Options) (bytes : List ℕ) (rs : List Record)
    (ps : List Piece) (f : Option Fault) (x : Contents × Option ObjectId) → TakesAll options
    → IsAnswer kind time options bytes (Ok x) → IsDivided kind bytes rs ps f → x.0.records ≡ rs
same_entries kind time options bytes rs ps f x takes ok h = divided_same kind time options takes bytes rs ps f x ok h
