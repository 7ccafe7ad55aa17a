-- From the parts of an answer to the answer.
use Rattle.std.proofs.Common.{◌≡◌, ℕ, ◌+◌, Bool, true, false, ltb, eqb, List, ◌++◌, length, drop, inl, inr, Option}
use Rattle.std.proofs.Common.{Some, None, Result, Ok, Err, refl, sym, ap, subst, ◌∙◌}
use Rattle.std.specs.Prelude.{MatchBool, MatchOption, MatchResult}
use Rattle.std.proofs.lemmas.Bool.{eqb-true, eqb-false}
use Rattle.std.proofs.lemmas.Option.{same_Some}
use Rattle.index_parts.specs.Id.{id_len}
use Rattle.index_parts.specs.declared.hash.Kind.{Kind}
use Rattle.index_parts.specs.declared.hash.ObjectId.{ObjectId}
use Rattle.entry_fields.specs.declared.entry.stat.FileTime.{FileTime}
use Rattle.index_extensions.specs.EndMarker.{EndsInMarker, IsMarker}
use Rattle.index_extensions.specs.Walk.{Item}
use Rattle.index_extensions.proofs.EndMarks.{marked_one}
use Rattle.index_extensions.proofs.Readings.{one_read}
use Rattle.entry_list.specs.declared.Version.{Version}
use Rattle.index_model.specs.declared.Parts.{Parts}
use Rattle.index_model.specs.declared.decode.Options.{Options}
use Rattle.index_model.specs.declared.error.Error.{Error}
use Rattle.index_model.specs.declared.error.Error.TheVariants as errors
use Rattle.index_model.specs.declared.error.Extension.TheVariants as extensions
use Rattle.ext_split.specs.declared.link.decode.Error.TheVariants as links
use Rattle.index_model.specs.Answer.{Fault, NoEntry, Extension, TrailerLength, Verify, Answer, trailer_checksum}
use Rattle.index_model.specs.Answer.{IsVerified, answer_contents, IsClosed, faulty, left, whole, IsEnding, short}
use Rattle.index_model.specs.Answer.{walked}
use Rattle.index_model.specs.Answer.{IsBehindHeader, lacks, has, IsCounted, IsAnswer}
use Rattle.entry_list.specs.Entries.{AreEntries}
use Rattle.index_model.specs.DecodeErrors.{IsEarly, DecodeCause, ResultIs, entries_error, extension_fault}
use Rattle.entry_decode.specs.EntryFaults.{LacksSome}
use Rattle.entry_decode.specs.declared.entries.Error.{Error as EntriesError}
use Rattle.entry_decode.specs.declared.entries.Error.TheVariants as entries
use Rattle.index_model.specs.ExtensionSteps.{IsGathered, IsTaken, ExtensionCause}
use Rattle.entry_list.specs.Header.{HeaderFault, header_of, count_of}
use Rattle.entry_list.specs.Limits.{most_entries, is_too_large}
use Rattle.index_model.specs.Outcome.{Outcome, ExtensionFault}
use Rattle.entry_list.specs.Record.{Record}
use Rattle.index_model.specs.Contents.{Contents, parts_contents}

-- ---- an error that comes after the limits is no early error

abbrev pub IsEarlyAnswer : Answer → Type 0
IsEarlyAnswer (Ok x) = ⊥
IsEarlyAnswer (Err fault) = IsEarly fault

early_is : (f : Fault) (a : Answer) → IsEarly f → ◌≡◌ {A = Answer} (Err f) a → IsEarlyAnswer a
early_is f a early e = subst IsEarlyAnswer e early

verified_late : (expected actual : Option ObjectId) (x : Contents × Option ObjectId) (f : Fault) → IsEarly f
    → IsVerified expected actual (Ok x) (Err f) → ⊥
verified_late None actual x f early h = early_is f (Ok x) early h
verified_late (Some e) None x f early h = early_is f (Ok x) early h
verified_late (Some e) (Some c) x f early (inl h) = early_is f (Ok x) early h.1
verified_late (Some e) (Some c) x f early (inr h) = early_is f (Err (Verify c e)) early h.1

closed_late : (kind : Kind) (time : FileTime) (options : Options) (version : Version) (rs : List Record)
    (items : List Item) (tail trailer : List ℕ) (f : Fault) → IsEarly f
    → IsClosed kind time options version rs items tail trailer (Err f) → ⊥
closed_late kind time options version rs items tail trailer f early (faulty fault h e) =
    early_is f (Err (Extension fault)) early e
closed_late kind time options version rs items tail trailer f early (left s n e) =
    early_is f (Err (TrailerLength (id_len kind) _)) early e
closed_late kind time options version rs items tail trailer f early (whole o s n h v) =
    verified_late options.expected_checksum (trailer_checksum kind trailer) _ f early v

pub ending_late : (kind : Kind) (time : FileTime) (options : Options) (version : Version) (rs : List Record)
    (rest : List ℕ) (f : Fault) → IsEarly f → IsEnding kind time options version rs rest (Err f) → ⊥
ending_late kind time options version rs rest f early (short n e) =
    early_is f (Err (TrailerLength (id_len kind) (length rest))) early e
ending_late kind time options version rs rest f early (walked extensions trailer items tail p n w h) =
    closed_late kind time options version rs items tail trailer f early h

pub body_late : (kind : Kind) (time : FileTime) (options : Options) (version : Version) (count : ℕ) (bytes : List ℕ)
    (f : Fault) → IsEarly f → IsBehindHeader kind time options version count bytes (Err f) → ⊥
body_late kind time options version count bytes f early (lacks i lt l e) = early_is f (Err (NoEntry i)) early e
body_late kind time options version count bytes f early (has rs rest r n e) =
    ending_late kind time options version rs rest f early e

-- ---- what a result implies for a relation, it implies for a weaker one

pub says_weaker : (r : Result (Parts × Option ObjectId) Error) (P Q : Answer → Type 0) → ((a : Answer) → P a → Q a)
    → ((f : Fault) → IsEarly f → Q (Err f) → ⊥) → ResultIs parts_contents r P → ResultIs parts_contents r Q
says_weaker (Ok x) P Q to never h = to (Ok (parts_contents x.0, x.1)) h
says_weaker (Err (errors.Header e)) P Q to never h = to _ h
says_weaker (Err (errors.Entry i)) P Q to never h = to _ h
says_weaker (Err errors.OutOfMemory) P Q to never h = to _ h
says_weaker (Err (errors.Verify p q)) P Q to never h = to _ h
says_weaker (Err (errors.UnexpectedTrailerLength n m)) P Q to never h = to _ h
says_weaker (Err errors.Hasher) P Q to never h = h
says_weaker (Err (errors.Extension (extensions.MandatoryUnimplemented signature))) P Q to never h = to _ h
says_weaker (Err (errors.Extension (extensions.Link (links.Corrupt text)))) P Q to never h = to _ h
says_weaker (Err (errors.Extension (extensions.Link (links.BitmapDecode e name)))) P Q to never h = to _ h
says_weaker (Err (errors.Extension (extensions.Link links.Memory))) P Q to never h = h
says_weaker (Err errors.Memory) P Q to never h = never

pub says_lack : (kind : Kind) (time : FileTime) (options : Options) (version : Version) (count : ℕ) (bytes : List ℕ)
    (e : EntriesError) → LacksSome version kind count bytes e
    → DecodeCause (entries_error e) (IsBehindHeader kind time options version count bytes)
says_lack kind time options version count bytes (entries.NoEntry i) h = lacks i h.0 h.1 refl
says_lack kind time options version count bytes entries.Memory h = body_late kind time options version count bytes

-- ---- after a valid header, a count that can be, and within the limit, the answer is the body's

counted_to : (t u : Bool) (X Y B : Type 0) → t ≡ false → u ≡ false → B → MatchBool t X (MatchBool u Y B)
counted_to t u X Y B n m b = rw (n, m) b

counted_back : (t u : Bool) (X Y B : Type 0) → t ≡ false → u ≡ false → MatchBool t X (MatchBool u Y B) → B
counted_back t u X Y B n m b = rw m at (rw n at b)

headed_to : (r : Result Version HeaderFault) (v : Version) (C : Version → Type 0) (F : HeaderFault → Type 0) → r ≡ Ok v
    → C v → MatchResult r C F
headed_to r v C F e h = rw e h

headed_back : (r : Result Version HeaderFault) (v : Version) (C : Version → Type 0) (F : HeaderFault → Type 0)
    → r ≡ Ok v → MatchResult r C F → C v
headed_back r v C F e h = rw e at h

pub one_marker : (kind : Kind) (bytes : List ℕ) (o p : Option ℕ) → IsMarker kind bytes o → IsMarker kind bytes p → o ≡ p
one_marker kind bytes = one_read (EndsInMarker kind) bytes (marked_one kind bytes)

-- what a body implies if the header is valid
pub answer_from : (kind : Kind) (time : FileTime) (options : Options) (bytes : List ℕ) (version : Version)
    (offset : Option ℕ) (r : Result (Parts × Option ObjectId) Error) → header_of kind bytes ≡ Ok version
    → IsMarker kind bytes offset
    → ltb (most_entries (length bytes) offset kind version) (count_of bytes) ≡ false
    → is_too_large options.alloc_limit_bytes (count_of bytes) (length bytes) offset kind version ≡ false
    → ResultIs parts_contents r (IsBehindHeader kind time options version (count_of bytes) (drop 12 bytes))
    → ResultIs parts_contents r (IsAnswer kind time options bytes)
answer_from kind time options bytes version offset r h marked n m =
    let C = λ (a : Answer) (v : Version). (o : Option ℕ) × IsMarker kind bytes o
    × IsCounted o kind time options bytes a v in
    says_weaker r (IsBehindHeader kind time options version (count_of bytes) (drop 12 bytes))
    (IsAnswer kind time options bytes)
    (λ a b. headed_to (header_of kind bytes) version (C a) _ h (offset, marked, counted_to _ _ _ _ _ n m b))
    (λ f early q.
    let c = headed_back (header_of kind bytes) version (C (Err f)) _ h q in
    let same : c.0 ≡ offset = one_marker kind bytes c.0 offset c.1 marked in
    let at = subst (λ (o : Option ℕ). IsCounted o kind time options bytes (Err f) version) same c.2 in
    body_late kind time options version (count_of bytes) (drop 12 bytes) f early (counted_back _ _ _ _ _ n m at))

-- the answer by the bytes after the entries, if all entries are there
pub behind_from : (kind : Kind) (time : FileTime) (options : Options) (version : Version) (count : ℕ) (bytes : List ℕ)
    (rs : List Record) (rest : List ℕ) (r : Result (Parts × Option ObjectId) Error)
    → AreEntries version kind None bytes rs rest → length rs ≡ count
    → ResultIs parts_contents r (IsEnding kind time options version rs rest)
    → ResultIs parts_contents r (IsBehindHeader kind time options version count bytes)
behind_from kind time options version count bytes rs rest r read n =
    says_weaker r (IsEnding kind time options version rs rest) (IsBehindHeader kind time options version count bytes)
    (λ a e. has rs rest read n e) (body_late kind time options version count bytes)

-- ---- what follows the entries

-- the bytes after them are extensions and a trailer
pub ending_from : (kind : Kind) (time : FileTime) (options : Options) (version : Version) (rs : List Record)
    (rest middle trailer : List ℕ) (o : Outcome) (count : ℕ) (r : Result (Parts × Option ObjectId) Error)
    → rest ≡ middle ++ trailer → length trailer ≡ id_len kind
    → IsGathered kind options.alloc_limit_bytes middle o count
    → ResultIs parts_contents r (IsTaken kind time options version rs o count trailer)
    → ResultIs parts_contents r (IsEnding kind time options version rs rest)
ending_from kind time options version rs rest middle trailer o count r parts len g =
    says_weaker r (IsTaken kind time options version rs o count trailer) (IsEnding kind time options version rs rest)
    (λ a h. walked middle trailer g.items g.tail parts len g.is_walk (closed_by (eqb count 0) refl a h))
    (ending_late kind time options version rs rest)
  where
    closed_by : (t : Bool) → t ≡ eqb count 0 → (a : Answer) → MatchBool t (IsVerified options.expected_checksum
        (trailer_checksum kind trailer) (Ok (answer_contents kind time version rs o, trailer_checksum kind trailer)) a)
        (a ≡ Err (TrailerLength (id_len kind) (count + id_len kind)))
        → IsClosed kind time options version rs g.items g.tail trailer a
    closed_by true e a h = whole o g.sound (sym g.counted ∙ eqb-true count 0 (sym e)) g.is_outcome h
    closed_by false e a h = left g.sound (λ z. eqb-false count 0 (sym e) (g.counted ∙ z))
        (h ∙ ap (λ (n : ℕ). Err (TrailerLength (id_len kind) (n + id_len kind))) g.counted)

-- what an error of the loop over the extensions implies
pub says_extension : (kind : Kind) (time : FileTime) (options : Options) (version : Version) (rs : List Record)
    (rest middle trailer : List ℕ) (e : Error) → rest ≡ middle ++ trailer → length trailer ≡ id_len kind
    → ExtensionCause kind middle e → DecodeCause e (IsEnding kind time options version rs rest)
says_extension kind time options version rs rest middle trailer (errors.Extension e) parts len h =
    by (extension_fault e) h.1
  where
    by : (f : Option ExtensionFault) → f ≡ Some h.0
        → MatchOption f ⊥ (λ fault. IsEnding kind time options version rs rest (Err (Extension fault)))
    by None k = absurd cc
    by (Some fault) k =
        let same : fault ≡ h.0 = same_Some _ _ k in
        walked middle trailer h.2.items h.2.tail parts len h.2.is_walk
        (faulty h.0 h.2.is_first (ap (λ (x : ExtensionFault). Err (Extension x)) same))
says_extension kind time options version rs rest middle trailer errors.Memory parts len h =
    ending_late kind time options version rs rest
says_extension kind time options version rs rest middle trailer (errors.Header e) parts len h = absurd h
says_extension kind time options version rs rest middle trailer errors.Hasher parts len h = absurd h
says_extension kind time options version rs rest middle trailer errors.OutOfMemory parts len h = absurd h
says_extension kind time options version rs rest middle trailer (errors.Entry i) parts len h = absurd h
says_extension kind time options version rs rest middle trailer (errors.UnexpectedTrailerLength n m) parts len h =
    absurd h
says_extension kind time options version rs rest middle trailer (errors.Verify p q) parts len h = absurd h

-- ---- what the ids imply, if no bytes are left before the trailer

taken_late : (kind : Kind) (time : FileTime) (options : Options) (version : Version) (rs : List Record) (o : Outcome)
    (trailer : List ℕ) (f : Fault) → IsEarly f → IsTaken kind time options version rs o 0 trailer (Err f) → ⊥
taken_late kind time options version rs o trailer f early h = verified_late options.expected_checksum
    (trailer_checksum kind trailer) (answer_contents kind time version rs o, trailer_checksum kind trailer) f early h

pub taken_from : (kind : Kind) (time : FileTime) (options : Options) (version : Version) (rs : List Record)
    (o : Outcome) (count : ℕ) (trailer : List ℕ) (r : Result (Parts × Option ObjectId) Error) → count ≡ 0
    → ResultIs parts_contents r (IsVerified options.expected_checksum (trailer_checksum kind trailer)
    (Ok (answer_contents kind time version rs o, trailer_checksum kind trailer)))
    → ResultIs parts_contents r (IsTaken kind time options version rs o count trailer)
taken_from kind time options version rs o count trailer r none h =
    subst (λ (n : ℕ). ResultIs parts_contents r (IsTaken kind time options version rs o n trailer)) (sym none)
    (says_weaker r (IsVerified options.expected_checksum (trailer_checksum kind trailer)
    (Ok (answer_contents kind time version rs o, trailer_checksum kind trailer)))
    (IsTaken kind time options version rs o 0 trailer)
    (λ a k. k) (taken_late kind time options version rs o trailer) h)
