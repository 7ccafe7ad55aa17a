-- Bytes have one answer.
use Rattle.std.proofs.Common.{◌≡◌, ℕ, ◌<◌, Bool, true, false, ltb, List, [], ◌∷◌, ◌++◌, length, drop, inl, inr, Option}
use Rattle.std.proofs.Common.{Some, None, Result, Ok, Err, sym, ap, subst, ◌∙◌, arith, length-append}
use Rattle.std.specs.Prelude.{MatchBool, MatchResult, codes}
use Rattle.std.proofs.lemmas.List.Elements.{All-head, All-tail}
use Rattle.index_parts.specs.Id.{id_len}
use Rattle.index_parts.specs.declared.hash.Kind.{Kind}
use Rattle.index_parts.specs.declared.hash.ObjectId.{ObjectId}
use Rattle.entry_fields.specs.declared.entry.stat.FileTime.{FileTime}
use Rattle.index_extensions.specs.EndMarker.{IsMarker}
use Rattle.index_extensions.specs.Walk.{Item, IsWalk}
use Rattle.ext_small.proofs.EntryBlocks.{same_front, same_back}
use Rattle.index_extensions.proofs.Walks.{walk_one}
use Rattle.entry_list.specs.declared.Version.{Version}
use Rattle.index_model.specs.declared.decode.Options.{Options}
use Rattle.index_model.specs.Answer.{Header, OutOfMemory, NoEntry, Extension, Answer, trailer_checksum, IsVerified}
use Rattle.index_model.specs.Answer.{answer_contents, IsClosed, faulty, left, whole, IsEnding, short, walked}
use Rattle.index_model.specs.Answer.{IsBehindHeader}
use Rattle.index_model.specs.Answer.{lacks, has, IsCounted, IsAnswer}
use Rattle.entry_list.specs.Header.{HeaderFault, Corrupt, header_of, count_of}
use Rattle.entry_list.specs.Limits.{most_entries, is_too_large}
use Rattle.index_model.specs.Outcome.{Outcome, ExtensionFault, IsFault, AreSound, IsFirstFault}
use Rattle.entry_list.specs.Record.{Record}
use Rattle.index_model.proofs.Answers.{one_marker}
use Rattle.entry_list.proofs.OnceEntries.{one_row, lacks_more, one_lack}
use Rattle.index_model.proofs.Outcomes.{IsSound, one_fault, one_outcome}

-- ---- the first fault

-- an item with a fault isn't among items without one
not_sound : (kind : Kind) (before : List Item) (i : Item) (behind : List Item) (fault : ExtensionFault)
    → IsFault kind i fault → AreSound kind (before ++ i ∷ behind) → ⊥
not_sound kind [] i behind fault h s = All-head (IsSound kind) i behind s fault h
not_sound kind (x ∷ before) i behind fault h s =
    not_sound kind before i behind fault h (All-tail (IsSound kind) x (before ++ i ∷ behind) s)

fault_not_sound : (kind : Kind) (items : List Item) (fault : ExtensionFault) → IsFirstFault kind items fault
    → AreSound kind items → ⊥
fault_not_sound kind items fault h s =
    not_sound kind h.before h.item h.behind fault h.is_fault (subst (AreSound kind) h.parts s)

-- the first item with an error is the same one
same_first : (kind : Kind) (xs ys : List Item) (i j : Item) (us vs : List Item) (f g : ExtensionFault)
    → AreSound kind xs → AreSound kind ys → IsFault kind i f → IsFault kind j g → xs ++ i ∷ us ≡ ys ++ j ∷ vs → f ≡ g
same_first kind [] [] i j us vs f g s t h k e =
    let same : i ≡ j = cc in
    one_fault kind j f g (subst (λ (x : Item). IsFault kind x f) same h) k
same_first kind [] (y ∷ ys) i j us vs f g s t h k e =
    let same : i ≡ y = cc in
    absurd (All-head (IsSound kind) y ys t f (subst (λ (x : Item). IsFault kind x f) same h))
same_first kind (x ∷ xs) [] i j us vs f g s t h k e =
    let same : j ≡ x = cc in
    absurd (All-head (IsSound kind) x xs s g (subst (λ (z : Item). IsFault kind z g) same k))
same_first kind (x ∷ xs) (y ∷ ys) i j us vs f g s t h k e =
    let others : xs ++ i ∷ us ≡ ys ++ j ∷ vs = cc in
    same_first kind xs ys i j us vs f g (All-tail (IsSound kind) x xs s) (All-tail (IsSound kind) y ys t) h k others

one_first : (kind : Kind) (items : List Item) (f g : ExtensionFault) → IsFirstFault kind items f
    → IsFirstFault kind items g → f ≡ g
one_first kind items f g h k = same_first kind h.before k.before h.item k.item h.behind k.behind f g h.sound k.sound
    h.is_fault k.is_fault (sym h.parts ∙ k.parts)

-- ---- what follows from the entries on

one_verified : (expected actual : Option ObjectId) (answer a b : Answer) → IsVerified expected actual answer a
    → IsVerified expected actual answer b → a ≡ b
one_verified None actual answer a b h k = h ∙ sym k
one_verified (Some x) None answer a b h k = h ∙ sym k
one_verified (Some x) (Some y) answer a b (inl h) (inl k) = h.1 ∙ sym k.1
one_verified (Some x) (Some y) answer a b (inl h) (inr k) = absurd (k.0 h.0)
one_verified (Some x) (Some y) answer a b (inr h) (inl k) = absurd (h.0 k.0)
one_verified (Some x) (Some y) answer a b (inr h) (inr k) = h.1 ∙ sym k.1

module _ (kind : Kind) (time : FileTime) (options : Options) (version : Version) where
  one_closed : (rs : List Record) (items : List Item) (tail trailer : List ℕ) (a b : Answer)
      → IsClosed kind time options version rs items tail trailer a
      → IsClosed kind time options version rs items tail trailer b → a ≡ b
  one_closed rs items tail trailer a b (faulty f h e) (faulty g k d) =
      e ∙ ap (λ (x : ExtensionFault). Err (Extension x)) (one_first kind items f g h k) ∙ sym d
  one_closed rs items tail trailer a b (faulty f h e) (left s n d) = absurd (fault_not_sound kind items f h s)
  one_closed rs items tail trailer a b (faulty f h e) (whole o s n k d) = absurd (fault_not_sound kind items f h s)
  one_closed rs items tail trailer a b (left s n e) (faulty f h d) = absurd (fault_not_sound kind items f h s)
  one_closed rs items tail trailer a b (left s n e) (left t m d) = e ∙ sym d
  one_closed rs items tail trailer a b (left s n e) (whole o t z k d) = absurd (n z)
  one_closed rs items tail trailer a b (whole o s z h e) (faulty f k d) = absurd (fault_not_sound kind items f k s)
  one_closed rs items tail trailer a b (whole o s z h e) (left t n d) = absurd (n z)
  one_closed rs items tail trailer a b (whole o s z h e) (whole p t y k d) =
      let V = λ (x : Outcome). IsVerified options.expected_checksum (trailer_checksum kind trailer)
      (Ok (answer_contents kind time version rs x, trailer_checksum kind trailer)) b in
      one_verified options.expected_checksum (trailer_checksum kind trailer) _ a b e
      (subst V (sym (one_outcome kind options.alloc_limit_bytes items o p h k)) d)

  -- bytes that have room for a trailer aren't fewer than it has
  not_short : (rest extensions trailer : List ℕ) → rest ≡ extensions ++ trailer → length trailer ≡ id_len kind
      → length rest < id_len kind → ⊥
  not_short rest extensions trailer parts len lt = omega (arith, ap length parts, length-append extensions trailer)

  -- of two ways to part bytes the extensions and the trailer are the same, and so is the walk
  closed_again : (rs : List Record) (rest xs ys trailer last : List ℕ) (items others : List Item) (tail end : List ℕ)
      (b : Answer) → rest ≡ xs ++ trailer → rest ≡ ys ++ last → length trailer ≡ id_len kind → length last ≡ id_len kind
      → IsWalk xs items tail → IsWalk ys others end → IsClosed kind time options version rs others end last b
      → IsClosed kind time options version rs items tail trailer b
  closed_again rs rest xs ys trailer last items others tail end b parts again len same_len w u h =
      let joined : xs ++ trailer ≡ ys ++ last = sym parts ∙ again in
      let as_long : length xs ≡ length ys =
      omega (arith, ap length joined, length-append xs trailer, length-append ys last) in
      let front : xs ≡ ys = same_front xs trailer ys last joined as_long in
      let back : trailer ≡ last = same_back xs trailer ys last joined as_long in
      let walks = walk_one ys items others tail end (subst (λ (l : List ℕ). IsWalk l items tail) front w) u in
      rw (walks.0, walks.1, back) h

  one_ending : (rs : List Record) (rest : List ℕ) (a b : Answer) → IsEnding kind time options version rs rest a
      → IsEnding kind time options version rs rest b → a ≡ b
  one_ending rs rest a b (short lt e) (short lt' d) = e ∙ sym d
  one_ending rs rest a b (short lt e) (walked ys last others end parts len u k) =
      absurd (not_short rest ys last parts len lt)
  one_ending rs rest a b (walked xs trailer items tail parts len w h) (short lt d) =
      absurd (not_short rest xs trailer parts len lt)
  one_ending rs rest a b (walked xs trailer items tail parts len w h) (walked ys last others end again same_len u k) =
      one_closed rs items tail trailer a b h
      (closed_again rs rest xs ys trailer last items others tail end b parts again len same_len w u k)

  one_body : (count : ℕ) (bytes : List ℕ) (a b : Answer) → IsBehindHeader kind time options version count bytes a
      → IsBehindHeader kind time options version count bytes b → a ≡ b
  one_body count bytes a b (lacks i lt h e) (lacks j lt' k d) =
      e ∙ ap (λ (n : ℕ). Err (NoEntry n)) (one_lack version kind bytes i j h k) ∙ sym d
  one_body count bytes a b (lacks i lt h e) (has rs rest read n k) =
      absurd (lacks_more version kind bytes i rs rest h read (omega (arith, n)))
  one_body count bytes a b (has rs rest read n h) (lacks i lt k d) =
      absurd (lacks_more version kind bytes i rs rest k read (omega (arith, n)))
  one_body count bytes a b (has rs rest read n h) (has qs end again m k) =
      let same = one_row version kind None bytes rs qs rest end read again (n ∙ sym m) in
      let there : IsEnding kind time options version rs rest b = rw (same.0, same.1) k in
      one_ending rs rest a b h there

-- ---- what follows from all bytes

one_of_two : (t : Bool) (P Q : Answer → Type 0) (a b : Answer) → (P a → P b → a ≡ b) → (Q a → Q b → a ≡ b)
    → MatchBool t (P a) (Q a) → MatchBool t (P b) (Q b) → a ≡ b
one_of_two true P Q a b p q h k = p h k
one_of_two false P Q a b p q h k = q h k

one_counted : (offset : Option ℕ) (kind : Kind) (time : FileTime) (options : Options) (bytes : List ℕ)
    (version : Version) (a b : Answer) → IsCounted offset kind time options bytes a version
    → IsCounted offset kind time options bytes b version → a ≡ b
one_counted offset kind time options bytes version a b =
    let Body = IsBehindHeader kind time options version (count_of bytes) (drop 12 bytes) in
    let large = is_too_large options.alloc_limit_bytes (count_of bytes) (length bytes) offset kind version in
    one_of_two (ltb (most_entries (length bytes) offset kind version) (count_of bytes))
    (λ x. x ≡ Err (Header (Corrupt (codes "Declared entry count exceeds possible entries for file size"))))
    (λ x. MatchBool large (x ≡ Err OutOfMemory) (Body x)) a b (λ h k. h ∙ sym k)
    (one_of_two large (λ x. x ≡ Err OutOfMemory) Body a b (λ h k. h ∙ sym k)
    (one_body kind time options version (count_of bytes) (drop 12 bytes) a b))

one_headed : (r : Result Version HeaderFault) (P : Version → Answer → Type 0) (a b : Answer)
    → ((version : Version) → P version a → P version b → a ≡ b)
    → MatchResult r (λ version. P version a) (λ fault. a ≡ Err (Header fault))
    → MatchResult r (λ version. P version b) (λ fault. b ≡ Err (Header fault)) → a ≡ b
one_headed (Ok version) P a b p h k = p version h k
one_headed (Err fault) P a b p h k = h ∙ sym k

pub answer_one : (kind : Kind) (time : FileTime) (options : Options) (bytes : List ℕ) (a b : Answer)
    → IsAnswer kind time options bytes a → IsAnswer kind time options bytes b → a ≡ b
answer_one kind time options bytes a b =
    one_headed (header_of kind bytes) (λ version x. (offset : Option ℕ) × IsMarker kind bytes offset
    × IsCounted offset kind time options bytes x version) a b
    (λ version h k. one_counted h.0 kind time options bytes version a b h.2 (subst
    (λ (o : Option ℕ). IsCounted o kind time options bytes b version) (one_marker kind bytes k.0 h.0 k.1 h.1) k.2))
