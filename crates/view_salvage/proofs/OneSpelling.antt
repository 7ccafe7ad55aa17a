-- Bytes are spelled as entries in one way.
use Rattle.std.proofs.Common.{◌≡◌, ◌⊎◌, inl, inr, ℕ, ◌+◌, ◌<◌, List, [], ◌∷◌, ◌++◌, length, Option, Some, None}
use Rattle.std.proofs.Common.{refl, sym, ap, subst, ◌∙◌, length-append, arith}
use Rattle.std.proofs.lemmas.List.{append_cancel_right, length-map}
use Rattle.gix_index.specs.Entries.{LacksEntry}
use Rattle.gix_index.specs.Kind.{Kind}
use Rattle.gix_index.specs.Record.{Record}
use Rattle.gix_index.specs.Version.{Version}
use Rattle.gix_index.specs.Version.TheVariants.{V2, V3, V4}
use Rattle.entry_list.proofs.OnceEntries.{lacks_more, one_entry, one_lack}
use Rattle.view_salvage.specs.Division.{NoEntryBehind}
use Rattle.view_salvage.specs.FrontSteps.{head_len}
use Rattle.view_salvage.specs.Spelling.{Spelling, AreSpelled, IsSpelled, entries_spelled}
use Rattle.view_salvage.proofs.Readable.{entries_of, entry_of}
use Rattle.view_salvage.proofs.Spelled.{own23, spelled_parts}

-- two divisions of the same bytes are equal if their first parts have the same length
pub same_parts : (a b c d : List ℕ) → a ++ b ≡ c ++ d → length a ≡ length c → (a ≡ c) × (b ≡ d)
same_parts [] b [] d e n = (refl, e)
same_parts [] b (y ∷ c) d e n = absurd (omega (arith, n))
same_parts (x ∷ a) b [] d e n = absurd (omega (arith, n))
same_parts (x ∷ a) b (y ∷ c) d e n =
    let head : x ≡ y = cc in
    let tail : a ++ b ≡ c ++ d = cc in
    let others = same_parts a b c d tail (omega (arith, n)) in
    (ap (λ (z : ℕ). z ∷ a) head ∙ ap (λ (l : List ℕ). y ∷ l) others.0, others.1)

-- ---- an entry

same_spelling : (s t : Spelling) → s.entry ≡ t.entry → s.own ≡ t.own → s.padding ≡ t.padding → s ≡ t
same_spelling s t entry own padding =
    ap (λ (r : Record). record { entry = r; own = s.own; padding = s.padding }) entry
    ∙ ap (λ (l : List ℕ). record { entry = t.entry; own = l; padding = s.padding }) own
    ∙ ap (λ (l : List ℕ). record { entry = t.entry; own = t.own; padding = l }) padding

abbrev len23 : Kind → Record → ℕ
len23 kind r = head_len kind r.flags + length r.path

own_len : (version : Version) (kind : Kind) (previous : Option (List ℕ)) (bytes : List ℕ) (s t : Spelling)
    (rest : List ℕ) → IsSpelled version kind previous bytes s rest → IsSpelled version kind previous bytes t rest
    → s.entry ≡ t.entry → length s.own ≡ length t.own
own_len V2 kind previous bytes s t rest h k e =
    ap length h.1 ∙ own23 kind bytes s.entry rest h.0 ∙ ap (len23 kind) e ∙ sym (own23 kind bytes t.entry rest k.0)
    ∙ sym (ap length k.1)
own_len V3 kind previous bytes s t rest h k e =
    ap length h.1 ∙ own23 kind bytes s.entry rest h.0 ∙ ap (len23 kind) e ∙ sym (own23 kind bytes t.entry rest k.0)
    ∙ sym (ap length k.1)
own_len V4 kind previous bytes s t rest h k e =
    omega (arith, ap length h.1 ∙ length-append s.own rest, ap length k.1 ∙ length-append t.own rest)

one_spelled : (version : Version) (kind : Kind) (previous : Option (List ℕ)) (bytes : List ℕ) (s t : Spelling)
    (rest end : List ℕ) → IsSpelled version kind previous bytes s rest → IsSpelled version kind previous bytes t end
    → (s ≡ t) × (rest ≡ end)
one_spelled version kind previous bytes s t rest end h k =
    let same = one_entry version kind previous bytes s.entry t.entry rest end
    (entry_of version kind previous bytes s rest h) (entry_of version kind previous bytes t end k) in
    let entry : s.entry ≡ t.entry = ap (λ (x : Record × List ℕ). x.0) same in
    let behind : rest ≡ end = ap (λ (x : Record × List ℕ). x.1) same in
    let g = subst (IsSpelled version kind previous bytes t) (sym behind) k in
    let parts = same_parts s.own (s.padding ++ rest) t.own (t.padding ++ rest)
    (sym (spelled_parts version kind previous bytes s rest h) ∙ spelled_parts version kind previous bytes t rest g)
    (own_len version kind previous bytes s t rest h g entry) in (
      same_spelling s t entry parts.0 (append_cancel_right s.padding t.padding rest parts.1),
      behind,
    )

-- ---- entries one after another

pub one_spelling : (version : Version) (kind : Kind) (previous : Option (List ℕ)) (bytes : List ℕ)
    (ss ts : List Spelling) (rest end : List ℕ) → AreSpelled version kind previous bytes ss rest
    → AreSpelled version kind previous bytes ts end → length ss ≡ length ts → (ss ≡ ts) × (rest ≡ end)
one_spelling version kind previous bytes [] [] rest end h k n = (refl, sym h ∙ k)
one_spelling version kind previous bytes [] (t ∷ ts) rest end h k n = absurd (omega (arith, n))
one_spelling version kind previous bytes (s ∷ ss) [] rest end h k n = absurd (omega (arith, n))
one_spelling version kind previous bytes (s ∷ ss) (t ∷ ts) rest end h k n =
    let first = one_spelled version kind previous bytes s t h.0 k.0 h.1 k.1 in
    let behind : AreSpelled version kind (Some s.entry.path) h.0 ts end =
    subst (λ (b : List ℕ). AreSpelled version kind (Some s.entry.path) b ts end) (sym first.1)
    (subst (λ (x : Spelling). AreSpelled version kind (Some x.entry.path) k.0 ts end) (sym first.0) k.2) in
    let others = one_spelling version kind (Some s.entry.path) h.0 ss ts rest end h.2 behind (omega (arith, n)) in
    (ap (λ (x : Spelling). x ∷ ss) first.0 ∙ ap (λ (l : List Spelling). t ∷ l) others.0, others.1)

-- as many as are counted, or fewer, if no more follow
abbrev pub IsEnded : Version → Kind → ℕ → List Spelling → List ℕ → Type 0
IsEnded version kind count ss rest =
    (length ss ≡ count) ⊎ ((length ss < count) × NoEntryBehind version kind ss rest)

module _ (version : Version) (kind : Kind) (bytes : List ℕ) where
  abbrev AreFirst : List Spelling → List ℕ → Type 0
  AreFirst ss rest = AreSpelled version kind None bytes ss rest

  lack : (ss : List Spelling) (rest : List ℕ) → AreFirst ss rest → NoEntryBehind version kind ss rest
      → LacksEntry version kind bytes (length ss)
  lack ss rest are none = record {
    records = entries_spelled ss;
    rest = rest;
    read = entries_of version kind None bytes ss rest are;
    count = length-map ss _;
    none = none;
  }

  no_more : (ss ts : List Spelling) (rest end : List ℕ) → AreFirst ss rest → NoEntryBehind version kind ss rest
      → AreFirst ts end → length ss < length ts → ⊥
  no_more ss ts rest end are none others lt =
      let n : length (entries_spelled ts) ≡ length ts = length-map ts _ in
      lacks_more version kind bytes (length ss) (entries_spelled ts) end (lack ss rest are none)
      (entries_of version kind None bytes ts end others) (omega (arith, n, lt))

  same_len : (count : ℕ) (ss ts : List Spelling) (rest end : List ℕ) → AreFirst ss rest → AreFirst ts end
      → IsEnded version kind count ss rest → IsEnded version kind count ts end → length ss ≡ length ts
  same_len count ss ts rest end h k (inl a) (inl b) = a ∙ sym b
  same_len count ss ts rest end h k (inl a) (inr b) =
      absurd (no_more ts ss end rest k b.1 h (omega (arith, a, b.0)))
  same_len count ss ts rest end h k (inr a) (inl b) =
      absurd (no_more ss ts rest end h a.1 k (omega (arith, a.0, b)))
  same_len count ss ts rest end h k (inr a) (inr b) =
      one_lack version kind bytes (length ss) (length ts) (lack ss rest h a.1) (lack ts end k b.1)

  pub one_front : (count : ℕ) (ss ts : List Spelling) (rest end : List ℕ) → AreFirst ss rest → AreFirst ts end
      → IsEnded version kind count ss rest → IsEnded version kind count ts end → (ss ≡ ts) × (rest ≡ end)
  one_front count ss ts rest end h k a b =
      one_spelling version kind None bytes ss ts rest end h k (same_len count ss ts rest end h k a b)
