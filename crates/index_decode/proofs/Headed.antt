-- After a valid header, with a count that can be and is within the limit, the answer is that of the bytes after it.
use Rattle.std.proofs.Common.{◌≡◌, ◌∙◌, ℕ, Bool, false, ltb, List, length, drop, Option, Result, Ok, Err, refl, subst}
use Rattle.std.proofs.Common.{sym}
use Rattle.std.specs.Prelude.{◌↔◌, IfErr, IfOk, MatchBool, MatchResult}
use Rattle.index_parts.specs.declared.hash.Kind.{Kind}
use Rattle.entry_fields.specs.declared.entry.stat.FileTime.{FileTime}
use Rattle.index_extensions.specs.EndMarker.{IsMarker}
use Rattle.entry_list.specs.declared.Version.{Version}
use Rattle.entry_list.specs.Header.{HeaderFault, count_of, header_of}
use Rattle.entry_list.specs.Limits.{is_too_large, most_entries}
use Rattle.index_model.specs.declared.decode.Options.{Options}
use Rattle.index_model.specs.declared.error.Error.{Error}
use Rattle.entry_list.specs.Record.{AreBytes}
use Rattle.index_model.specs.Answer.{Answer, Fault, IsAnswer, IsBehindHeader, IsCounted}
use Rattle.index_model.specs.Contents.{parts_contents}
use Rattle.index_model.specs.DecodeErrors.{IsEarly, DecodeCause}
use Rattle.index_model.specs.Storable.{IsStorable}
use Rattle.index_model.proofs.Answers.{body_late, one_marker, says_weaker}
use Rattle.index_model.proofs.ReadValues.{says_storable}
use Rattle.index_decode.specs.Behind.{FollowEntries}
use Rattle.index_decode.specs.Head.{IsDeclared, LooksAt}
use Rattle.index_decode.specs.ReadParts.{FollowCounted, SaysRead}
use Rattle.index_decode.specs.declared.decode.Declared.{Declared}
use Rattle.index_decode.specs.declared.decode.ReadAs.{ReadAs}
use Rattle.index_decode.specs.declared.decode.ReadIndex.{ReadIndex}

counted_both : (t u : Bool) (X Y B : Type 0) → t ≡ false → u ≡ false → B ↔ MatchBool t X (MatchBool u Y B)
counted_both t u X Y B n m = rw (n, m) (λ b. b, λ b. b)

headed_both : (r : Result Version HeaderFault) (v : Version) (B : Type 0) (C : Version → Type 0)
    (F : HeaderFault → Type 0) → r ≡ Ok v → B ↔ C v → B ↔ MatchResult r C F
headed_both r v B C F e h = rw e h

module _ (kind : Kind) (time : FileTime) (options : Options) (bytes : List ℕ) (version : Version)
    (offset : Option ℕ) (head : header_of kind bytes ≡ Ok version) (marked : IsMarker kind bytes offset)
    (few : ltb (most_entries (length bytes) offset kind version) (count_of bytes) ≡ false)
    (small : is_too_large options.alloc_limit_bytes (count_of bytes) (length bytes) offset kind version ≡ false) where
  counted_is : (a : Answer) → IsBehindHeader kind time options version (count_of bytes) (drop 12 bytes) a
      ↔ IsCounted offset kind time options bytes a version
  counted_is a = counted_both _ _ _ _ (IsBehindHeader kind time options version (count_of bytes) (drop 12 bytes) a)
      few small

  marked_is : (a : Answer) → IsBehindHeader kind time options version (count_of bytes) (drop 12 bytes) a
      ↔ ((o : Option ℕ) × IsMarker kind bytes o × IsCounted o kind time options bytes a version)
  marked_is a = (
    λ b. (offset, marked, (counted_is a).0 b),
    λ c. (counted_is a).1 (subst (λ (o : Option ℕ). IsCounted o kind time options bytes a version)
        (one_marker kind bytes c.0 offset c.1 marked) c.2),
  )

  pub answer_is : (a : Answer) → IsBehindHeader kind time options version (count_of bytes) (drop 12 bytes) a
      ↔ IsAnswer kind time options bytes a
  answer_is a =
      headed_both (header_of kind bytes) version
      (IsBehindHeader kind time options version (count_of bytes) (drop 12 bytes) a)
      (λ v. (o : Option ℕ) × IsMarker kind bytes o × IsCounted o kind time options bytes a v) _ head (marked_is a)

read_weaker : (r : Result ReadIndex Error) (P Q : Answer → Type 0) → ((a : Answer) → P a → Q a)
    → ((f : Fault) → IsEarly f → Q (Err f) → ⊥) → SaysRead r P → SaysRead r Q
read_weaker (Ok read) P Q to never h = to _ h
read_weaker (Err e) P Q to never h = says_weaker (Err e) P Q to never h

-- what a result implies for the bytes after the header, it implies for the answer to all bytes
pub says_answer : (kind : Kind) (time : FileTime) (options : Options) (version : Version) (count : ℕ)
    (rest bytes : List ℕ) (r : Result ReadIndex Error)
    → ((a : Answer) → IsBehindHeader kind time options version count rest a ↔ IsAnswer kind time options bytes a)
    → SaysRead r (IsBehindHeader kind time options version count rest)
    → SaysRead r (IsAnswer kind time options bytes)
says_answer kind time options version count rest bytes r same =
    read_weaker r (IsBehindHeader kind time options version count rest) (IsAnswer kind time options bytes)
    (λ a. (same a).0) (λ f early q. body_late kind time options version count rest f early ((same (Err f)).1 q))

-- what was read of bytes can be written
pub read_storable : (kind : Kind) (time : FileTime) (options : Options) (bytes : List ℕ) (r : Result ReadIndex Error)
    → AreBytes bytes → SaysRead r (IsAnswer kind time options bytes)
    → IfOk r (λ read. IsStorable (parts_contents read.parts))
read_storable kind time options bytes (Ok read) small h =
    says_storable kind time options bytes (Ok (read.parts, read.checksum)) small h
read_storable kind time options bytes (Err e) small h =
    says_storable kind time options bytes (Err e) small h

-- what follows the entries after the header follows all entries of the bytes
pub all_followed : (kind : Kind) (options : Options) (bytes after : List ℕ) (offset : Option ℕ) (d : Declared)
    (r : ReadAs) → r.object_hash ≡ kind → r.version ≡ d.version → IsDeclared kind options bytes (length bytes) offset d
    → FollowCounted r d.count d.rest.now after → FollowEntries kind bytes after
all_followed kind options bytes after offset d r same_kind same_version declared h = record {
  version = d.version;
  header = declared.header;
  records = h.records;
  entries = rw (sym same_kind, sym same_version, sym declared.rest) h.entries;
  count = h.counted ∙ declared.count;
}

-- what is declared is what a look gives
looks_behind : (kind : Kind) (options : Options) (bytes : List ℕ) (offset : Option ℕ) (r : Result Declared Error)
    → IsMarker kind bytes offset → IfOk r (IsDeclared kind options bytes (length bytes) offset)
    → IfOk r (λ d. (time : FileTime) (a : Answer) → IsBehindHeader kind time options d.version d.count d.rest.now a
    ↔ IsAnswer kind time options bytes a)
looks_behind kind options bytes offset (Ok d) marked h = λ time a.
    let few : ltb (most_entries (length bytes) offset kind d.version) (count_of bytes) ≡ false = rw h.count at h.fits in
    let small : is_too_large options.alloc_limit_bytes (count_of bytes) (length bytes) offset kind d.version ≡ false =
    rw h.count at h.small in
    rw (h.count, h.rest) (answer_is kind time options bytes d.version offset h.header marked few small a)
looks_behind kind options bytes offset (Err e) marked h = h

looks_fault : (kind : Kind) (options : Options) (bytes : List ℕ) (offset : Option ℕ) (r : Result Declared Error)
    → IsMarker kind bytes offset → IfErr r (λ e. length bytes ≡ length bytes → IsMarker kind bytes offset
    → (time : FileTime) → DecodeCause e (IsAnswer kind time options bytes))
    → IfErr r (λ e. (time : FileTime) → DecodeCause e (IsAnswer kind time options bytes))
looks_fault kind options bytes offset (Ok d) marked h = h
looks_fault kind options bytes offset (Err e) marked h = h refl marked

looks_declared : (kind : Kind) (options : Options) (bytes : List ℕ) (offset : Option ℕ) (r : Result Declared Error)
    → IsMarker kind bytes offset → IfOk r (IsDeclared kind options bytes (length bytes) offset)
    → IfOk r (λ d. (o : Option ℕ) × IsMarker kind bytes o × IsDeclared kind options bytes (length bytes) o d)
looks_declared kind options bytes offset (Ok d) marked h = (offset, marked, h)
looks_declared kind options bytes offset (Err e) marked h = h

pub looks_at : (kind : Kind) (options : Options) (bytes : List ℕ) (offset : Option ℕ) (r : Result Declared Error)
    → IsMarker kind bytes offset → IfOk r (IsDeclared kind options bytes (length bytes) offset)
    → IfErr r (λ e. length bytes ≡ length bytes → IsMarker kind bytes offset
    → (time : FileTime) → DecodeCause e (IsAnswer kind time options bytes))
    → LooksAt kind options bytes r
looks_at kind options bytes offset r marked declared fault = record {
  declared = looks_declared kind options bytes offset r marked declared;
  behind = looks_behind kind options bytes offset r marked declared;
  fault = looks_fault kind options bytes offset r marked fault;
}
