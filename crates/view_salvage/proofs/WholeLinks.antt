-- The link that remains of bytes that are read as an index is that of the index.
use Rattle.std.proofs.Common.{◌≡◌, ℕ, false, List, ◌++◌, length, drop, take, Option, Some, None, Ok, Err, refl, sym}
use Rattle.std.proofs.Common.{ap, subst, ◌∙◌}
use Rattle.std.specs.Prelude.{codes}
use Rattle.gix_index.proofs.OnceAnswers.{answer_one}
use Rattle.gix_index.specs.Answer.{Answer, Fault, IsAnswer, TrailerLength}
use Rattle.gix_index.specs.Answer as answers
use Rattle.gix_index.specs.Contents.{Contents}
use Rattle.gix_index.specs.DecodeOptions.{Options}
use Rattle.gix_index.specs.ExtensionValue.{IsValue, last_content}
use Rattle.gix_index.specs.FileTime.{FileTime}
use Rattle.gix_index.specs.Header.{count_of, header_len, header_of}
use Rattle.gix_index.specs.Id.{id_len}
use Rattle.gix_index.specs.Kind.{Kind}
use Rattle.gix_index.specs.Laws.{HasOneReading, TakesAll}
use Rattle.gix_index.specs.Link.{IsLink, LinkValue}
use Rattle.gix_index.specs.ObjectId.{ObjectId}
use Rattle.gix_index.specs.Outcome.{AreSound}
use Rattle.gix_index.specs.Record.{Record}
use Rattle.gix_index.specs.Version.{Version}
use Rattle.gix_index.specs.Walk.{Item, AreItems}
use Rattle.view_salvage.specs.Division.{IsBehindEntries, IsCrowded, IsDivided, IsFileEnd, lacks, crowded, short}
use Rattle.view_salvage.specs.Division.{walked, faulty, left, broken, whole, headless, headed}
use Rattle.view_layout.specs.Piece.{Piece, one_piece}
use Rattle.view_salvage.specs.Spelling.{Spelling, AreSpelled, entries_spelled, entry_pieces}
use Rattle.view_layout.specs.declared.part.What.TheVariants as whats
use Rattle.view_salvage.proofs.KeptLinks.{link_piece, walked_link}
use Rattle.view_salvage.proofs.Readable.{IsAnswered, whole_answer}
use Rattle.view_salvage.proofs.Unreadable.{crowded_refused, ending_refused, faulty_refused, headless_refused}
use Rattle.view_salvage.proofs.Unreadable.{lacks_refused, left_refused}

-- the link in an answer, or none
abbrev link_of_answer : Answer → Option LinkValue
link_of_answer (Ok x) = x.0.extensions.link
link_of_answer (Err f) = None

-- a content has one link or none
abbrev pub HasLinkAt : Kind → Option (List ℕ) → Option LinkValue → Type 0
HasLinkAt kind content link = IsValue (IsLink kind) content link

one_value : (kind : Kind) (content : Option (List ℕ)) (a b : Option LinkValue) → HasOneReading (IsLink kind)
    → HasLinkAt kind content a → HasLinkAt kind content b → a ≡ b
one_value kind None a b one h k = h ∙ sym k
one_value kind (Some bytes) a b one h k = one.one bytes a b h k

module _ (kind : Kind) (time : FileTime) (options : Options) (takes : TakesAll options) (bytes : List ℕ)
    (x : Contents × Option ObjectId) (ok : IsAnswer kind time options bytes (Ok x)) where
  same_link : (rs : List Record) (items : List Item) → IsAnswered kind time options bytes rs items
      → HasLinkAt kind (last_content (codes "link") items) x.0.extensions.link
  same_link rs items a =
      let same : ◌≡◌ {A = Answer} (Ok x) (Ok (a.value, a.checksum)) =
      answer_one kind time options bytes (Ok x) (Ok (a.value, a.checksum)) ok a.read in
      subst (HasLinkAt kind (last_content (codes "link") items)) (sym (ap link_of_answer same)) a.link

  end_link : (version : Version) (ss : List Spelling) (after : List ℕ) (items : List Item)
      (tail trailer extensions : List ℕ) (last : List Piece) (f : Option Fault) → header_of kind bytes ≡ Ok version
      → AreSpelled version kind None (drop header_len bytes) ss after → length ss ≡ count_of bytes
      → IsCrowded kind version bytes false → after ≡ extensions ++ trailer → length trailer ≡ id_len kind
      → AreItems extensions items tail → AreSound kind items → IsFileEnd kind bytes tail trailer last f
      → HasLinkAt kind (last_content (codes "link") items) x.0.extensions.link
  end_link version ss after items tail trailer extensions last f is are all fits parted len items_are sound
      (faulty i rest g is_item is_fault e h) =
      absurd (faulty_refused kind time options takes bytes version ss after items tail trailer extensions is are all
      fits parted len items_are sound i rest g is_item is_fault x ok)
  end_link version ss after items tail trailer extensions last f is are all fits parted len items_are sound
      (left ended more e h) =
      absurd (left_refused kind time options takes bytes version ss after items tail trailer extensions is are all
      fits parted len items_are sound ended more x ok)
  end_link version ss after items tail trailer extensions last f is are all fits parted len items_are sound
      (broken ended none b e h) =
      same_link (entries_spelled ss) items (whole_answer kind time options takes bytes version ss after items tail
      trailer extensions is are all fits parted len items_are sound ended none)
  end_link version ss after items tail trailer extensions last f is are all fits parted len items_are sound
      (whole ended none intact e h) =
      same_link (entries_spelled ss) items (whole_answer kind time options takes bytes version ss after items tail
      trailer extensions is are all fits parted len items_are sound ended none)

  behind_link : (version : Version) (ss : List Spelling) (head after : List ℕ) (ps behind : List Piece)
      (f : Option Fault) → header_of kind bytes ≡ Ok version
      → AreSpelled version kind None (drop header_len bytes) ss after
      → ps ≡ one_piece whats.Header head ++ (entry_pieces 0 ss ++ behind)
      → IsBehindEntries kind version bytes ss after behind f → HasLinkAt kind (link_piece ps) x.0.extensions.link
  behind_link version ss head after ps behind f is are e (lacks lt none b h) =
      absurd (lacks_refused kind time options takes bytes version ss after is are lt none x ok)
  behind_link version ss head after ps behind f is are e (crowded all c b h) =
      absurd (crowded_refused kind time options takes bytes version is c x ok)
  behind_link version ss head after ps behind f is are e (short all fits less b h) =
      absurd (ending_refused kind time options takes bytes version ss after (TrailerLength _ _) is are all fits
      (answers.short less refl) x ok)
  behind_link version ss head after ps behind f is are e
      (walked all fits items tail trailer extensions last parted len items_are sound b is_end) =
      let same = walked_link kind bytes head tail trailer ss items ps behind last f e b is_end in
      let found = end_link version ss after items tail trailer extensions last f is are all fits parted len items_are
      sound is_end in
      subst (λ (o : Option (List ℕ)). HasLinkAt kind o x.0.extensions.link) (sym same) found

  divided_value : (rs : List Record) (ps : List Piece) (f : Option Fault) → IsDivided kind bytes rs ps f
      → HasLinkAt kind (link_piece ps) x.0.extensions.link
  divided_value rs ps f (headless g e a b h) = absurd (headless_refused kind time options takes bytes g e x ok)
  divided_value rs ps f (headed version ss after behind is are r e h) =
      behind_link version ss (take header_len bytes) after ps behind f is are e h

-- if one link is among the pieces of bytes, it is that of the index that they are read as
pub whole_link : (kind : Kind) (time : FileTime) (options : Options) (bytes : List ℕ) (rs : List Record)
    (ps : List Piece) (f : Option Fault) (x : Contents × Option ObjectId) (link : Option LinkValue)
    → TakesAll options → IsAnswer kind time options bytes (Ok x) → HasOneReading (IsLink kind)
    → IsDivided kind bytes rs ps f → HasLinkAt kind (link_piece ps) link → link ≡ x.0.extensions.link
whole_link kind time options bytes rs ps f x link takes ok one h k =
    one_value kind (link_piece ps) link x.0.extensions.link one k
    (divided_value kind time options takes bytes x ok rs ps f h)
