-- A file whose parts have no fault is read as an index.
use Rattle.std.proofs.Common.{◌≡◌, ℕ, Bool, true, false, List, [], ◌∷◌, ◌++◌, length, drop, Option, Some, None, Result}
use Rattle.std.proofs.Common.{Ok, refl, sym, subst, ◌∙◌}
use Rattle.std.specs.Prelude.{MatchBool, MatchResult, codes}
use Rattle.std.proofs.lemmas.List.{length-map}
use Rattle.gix_index.proofs.Checks.{to_file}
use Rattle.gix_index.proofs.Outcomes.{outcome_reading}
use Rattle.gix_index.specs.Answer.{Answer, Fault, IsAnswer, IsBehindHeader, IsClosed, IsCounted, IsEnding, IsVerified}
use Rattle.gix_index.specs.Answer.{has, trailer_checksum, answer_contents}
use Rattle.gix_index.specs.Answer as answers
use Rattle.gix_index.specs.Intact.{IsIntact}
use Rattle.gix_index.specs.Contents.{Contents}
use Rattle.gix_index.specs.DecodeOptions.{Options}
use Rattle.gix_index.specs.Entries.{AreEntries}
use Rattle.gix_index.specs.Entry.{IsEntry}
use Rattle.gix_index.specs.ExtensionValue.{IsValue, last_content}
use Rattle.gix_index.specs.FileTime.{FileTime}
use Rattle.gix_index.specs.Header.{HeaderFault, count_of, header_len, header_of}
use Rattle.gix_index.specs.Id.{id_len}
use Rattle.gix_index.specs.Kind.{Kind}
use Rattle.gix_index.specs.Laws.{TakesAll}
use Rattle.gix_index.specs.Limits.{is_too_large}
use Rattle.gix_index.specs.Link.{IsLink}
use Rattle.gix_index.specs.ObjectId.{ObjectId}
use Rattle.gix_index.specs.Outcome.{AreSound}
use Rattle.gix_index.specs.Record.{Record}
use Rattle.gix_index.specs.Version.{Version}
use Rattle.gix_index.specs.Version.TheVariants.{V2, V3, V4}
use Rattle.gix_index.specs.Walk.{Item, AreItems, NoItem, left_of}
use Rattle.view_salvage.specs.Division.{IsBehindEntries, IsCrowded, IsDivided, IsFileEnd, lacks, crowded, short}
use Rattle.view_salvage.specs.Division.{walked, faulty, left, broken, whole, headless, headed}
use Rattle.view_salvage.specs.Laws.{IsReadAs}
use Rattle.view_layout.specs.Piece.{Piece}
use Rattle.view_salvage.specs.Spelling.{Spelling, AreSpelled, IsSpelled, entries_spelled}

pub entry_of : (version : Version) (kind : Kind) (previous : Option (List ℕ)) (bytes : List ℕ) (s : Spelling)
    (rest : List ℕ) → IsSpelled version kind previous bytes s rest → IsEntry version kind previous bytes s.entry rest
entry_of V2 kind previous bytes s rest h = h.0
entry_of V3 kind previous bytes s rest h = h.0
entry_of V4 kind previous bytes s rest h = h.0

pub entries_of : (version : Version) (kind : Kind) (previous : Option (List ℕ)) (bytes : List ℕ) (ss : List Spelling)
    (rest : List ℕ) → AreSpelled version kind previous bytes ss rest
    → AreEntries version kind previous bytes (entries_spelled ss) rest
entries_of version kind previous bytes [] rest h = h
entries_of version kind previous bytes (s ∷ ss) rest h =
    (h.0, entry_of version kind previous bytes s h.0 h.1, entries_of version kind (Some s.entry.path) h.0 ss rest h.2)

pub by_false : (t : Bool) (P Q : Type 0) → t ≡ false → Q → MatchBool t P Q
by_false true P Q e q = absurd cc
by_false false P Q e q = q

pub by_ok : (r : Result Version HeaderFault) (P : Version → Type 0) (Q : HeaderFault → Type 0) (v : Version) → r ≡ Ok v
    → P v → MatchResult r P Q
by_ok r P Q v e p = subst (λ (x : Result Version HeaderFault). MatchResult x P Q) (sym e) p

-- bytes have an answer with these entries and extensions
pub record IsAnswered (kind : Kind) (time : FileTime) (options : Options) (bytes : List ℕ) (rs : List Record)
    (items : List Item) : Type 0 where
  pub value : Contents
  pub checksum : Option ObjectId
  pub records : value.records ≡ rs
  pub link : IsValue (IsLink kind) (last_content (codes "link") items) value.extensions.link
  pub read : IsAnswer kind time options bytes (Ok (value, checksum))

module _ (kind : Kind) (time : FileTime) (options : Options) (takes : TakesAll options) (bytes : List ℕ) where
  -- the value of whole parts is the answer, whatever the digest
  pub whole_answer : (version : Version) (ss : List Spelling) (after : List ℕ) (items : List Item)
      (tail trailer extensions : List ℕ) → header_of kind bytes ≡ Ok version
      → AreSpelled version kind None (drop header_len bytes) ss after → length ss ≡ count_of bytes
      → IsCrowded kind version bytes false → after ≡ extensions ++ trailer → length trailer ≡ id_len kind
      → AreItems extensions items tail → AreSound kind items → NoItem tail → left_of tail ≡ 0
      → IsAnswered kind time options bytes (entries_spelled ss) items
  whole_answer version ss after items tail trailer extensions is are all fits parted len items_are sound ended none =
      let rs = entries_spelled ss in
      let o = outcome_reading kind options.alloc_limit_bytes items in
      let checksum = trailer_checksum kind trailer in
      let value : Contents = answer_contents kind time version rs o.0 in
      let answer : Answer = Ok (value, checksum) in
      let verified : IsVerified options.expected_checksum checksum answer answer =
      subst (λ (x : Option ObjectId). IsVerified x checksum answer answer) (sym takes.checksum) refl in
      let closed : IsClosed kind time options version rs items tail trailer answer =
      answers.whole o.0 sound none o.1 verified in
      let ending : IsEnding kind time options version rs after answer = answers.walked extensions trailer items tail
      parted len (record { items_are = items_are; ended = ended }) closed in
      let body : IsBehindHeader kind time options version (count_of bytes) (drop header_len bytes) answer =
      has rs after (entries_of version kind None (drop header_len bytes) ss after are) (length-map ss _ ∙ all) ending in
      let few : is_too_large options.alloc_limit_bytes (count_of bytes) (length bytes) fits.0 kind version ≡ false =
      rw takes.limit refl in
      let counted : IsCounted fits.0 kind time options bytes answer version =
      by_false _ _ _ fits.2 (by_false _ _ _ few body) in
      let read : IsAnswer kind time options bytes answer =
      by_ok (header_of kind bytes) _ _ version is (fits.0, fits.1, counted) in
      record { value = value; checksum = checksum; records = refl; link = o.1.link; read = read }

  whole_read : (version : Version) (ss : List Spelling) (after : List ℕ) (items : List Item)
      (tail trailer extensions : List ℕ) → header_of kind bytes ≡ Ok version
      → AreSpelled version kind None (drop header_len bytes) ss after → length ss ≡ count_of bytes
      → IsCrowded kind version bytes false → after ≡ extensions ++ trailer → length trailer ≡ id_len kind
      → AreItems extensions items tail → AreSound kind items → NoItem tail → left_of tail ≡ 0
      → IsIntact false kind bytes → IsReadAs kind time options bytes (entries_spelled ss)
  whole_read version ss after items tail trailer extensions is are all fits parted len items_are sound
      ended none intact =
      let a = whole_answer version ss after items tail trailer extensions is are all fits parted len items_are
      sound ended none in
      record {
        value = a.value;
        checksum = a.checksum;
        records = a.records;
        read = to_file false kind time options bytes (Ok (a.value, a.checksum)) intact a.read;
      }

  end_read : (version : Version) (ss : List Spelling) (after : List ℕ) (items : List Item)
      (tail trailer extensions : List ℕ) (last : List Piece) (f : Option Fault) → header_of kind bytes ≡ Ok version
      → AreSpelled version kind None (drop header_len bytes) ss after → length ss ≡ count_of bytes
      → IsCrowded kind version bytes false → after ≡ extensions ++ trailer → length trailer ≡ id_len kind
      → AreItems extensions items tail → AreSound kind items → f ≡ None → IsFileEnd kind bytes tail trailer last f
      → IsReadAs kind time options bytes (entries_spelled ss)
  end_read version ss after items tail trailer extensions last f is are all fits parted len items_are sound n
      (faulty i rest x a b e g) = absurd cc
  end_read version ss after items tail trailer extensions last f is are all fits parted len items_are sound n
      (left a b e g) = absurd cc
  end_read version ss after items tail trailer extensions last f is are all fits parted len items_are sound n
      (broken a b c e g) = absurd cc
  end_read version ss after items tail trailer extensions last f is are all fits parted len items_are sound n
      (whole ended none intact e g) =
      whole_read version ss after items tail trailer extensions is are all fits parted len items_are
      sound ended none intact

  behind_read : (version : Version) (ss : List Spelling) (after : List ℕ) (ps : List Piece) (f : Option Fault)
      → header_of kind bytes ≡ Ok version → AreSpelled version kind None (drop header_len bytes) ss after → f ≡ None
      → IsBehindEntries kind version bytes ss after ps f → IsReadAs kind time options bytes (entries_spelled ss)
  behind_read version ss after ps f is are n (lacks a b e g) = absurd cc
  behind_read version ss after ps f is are n (crowded a b e g) = absurd cc
  behind_read version ss after ps f is are n (short a b c e g) = absurd cc
  behind_read version ss after ps f is are n
      (walked all fits items tail trailer extensions last parted len items_are sound e is_end) =
      end_read version ss after items tail trailer extensions last f is are all fits parted len items_are sound n is_end

  divided_read : (rs : List Record) (ps : List Piece) (f : Option Fault) → f ≡ None → IsDivided kind bytes rs ps f
      → IsReadAs kind time options bytes rs
  divided_read rs ps f n (headless x a b e g) = absurd cc
  divided_read rs ps f n (headed version ss after behind is are r e h) =
      subst (IsReadAs kind time options bytes) (sym r) (behind_read version ss after behind f is are n h)

pub read_whole : (kind : Kind) (time : FileTime) (options : Options) (bytes : List ℕ) (rs : List Record)
    (ps : List Piece) → TakesAll options → IsDivided kind bytes rs ps None → IsReadAs kind time options bytes rs
read_whole kind time options bytes rs ps takes h = divided_read kind time options takes bytes rs ps None refl h
