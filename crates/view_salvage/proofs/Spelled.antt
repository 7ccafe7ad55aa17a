-- An entry that is read has its own bytes and its padding. The flags and the path determine the number of bytes.
use Rattle.std.proofs.Common.{◌≡◌, ℕ, ◌+◌, ◌-◌, ◌*◌, ◌/◌, ◌%◌, ◌^◌, Bool, true, false, cond, eqb, List, [], ◌∷◌, ◌++◌}
use Rattle.std.proofs.Common.{length, Option, refl, sym, ap, ◌∙◌, append_assoc, length-append, arith}
use Rattle.std.specs.Prelude.{MatchBool, bit_and}
use Rattle.std.proofs.lemmas.Nat.{and_assoc, and_or_apart}
use Rattle.std.proofs.lemmas.Nat.Bits.{and_pow}
use Rattle.gix_index.specs.Entry.{EntryHead, head_bytes, IsEntry, IsEntry23, IsEntry4, IsEntryHead}
use Rattle.gix_index.specs.Flags.{is_extended, joined_words, stored_flags}
use Rattle.gix_index.specs.Kind.{Kind}
use Rattle.gix_index.specs.Numbers.{be}
use Rattle.gix_index.specs.Record.{Record}
use Rattle.gix_index.specs.Version.{Version}
use Rattle.gix_index.specs.Version.TheVariants.{V2, V3, V4}
use Rattle.view_salvage.specs.FrontSteps.{head_len, own_len}
use Rattle.view_salvage.specs.Spelling.{Spelling, IsSpelled}

-- ---- bit 14 of the first word

joined_same : (w s : ℕ) → is_extended (joined_words w s) ≡ is_extended w
joined_same w s =
    let apart : bit_and (s * 2 ^ 16) 0x4000 ≡ 0 = and_pow (s * 2 ^ 16) 14
    ∙ ap (λ (n : ℕ). n * 2 ^ 14) (let e : s * 2 ^ 16 / 2 ^ 14 % 2 ≡ 0 = omega arith in e) in
    ap (λ (n : ℕ). eqb n 0x4000) (and_or_apart 0x4000 w (s * 2 ^ 16) apart)

masked_same : (m f : ℕ) → bit_and m 0x4000 ≡ 0x4000 → is_extended (bit_and f m) ≡ is_extended f
masked_same m f e = ap (λ (n : ℕ). eqb n 0x4000) (and_assoc 0x4000 f m ∙ ap (bit_and f) e)

stored_by : (b : Bool) (f : ℕ) → is_extended f ≡ b → is_extended (stored_flags f) ≡ is_extended f
stored_by true f e =
    let is : stored_flags f ≡ bit_and f 0x6000f000 = rw e refl in
    rw is (masked_same 0x6000f000 f refl)
stored_by false f e =
    let is : stored_flags f ≡ bit_and f 0xf000 = rw e refl in
    rw is (masked_same 0xf000 f refl)

pub extended_kept : (w s : ℕ) → is_extended (stored_flags (joined_words w s)) ≡ is_extended w
extended_kept w s = stored_by (is_extended (joined_words w s)) (joined_words w s) refl ∙ joined_same w s

-- ---- how long the head is

second_len : (b : Bool) (second : List ℕ)
    → MatchBool b ((length second ≡ 2) × (bit_and (be second) 0x6000 ≡ be second)) (second ≡ [])
    → length second ≡ cond b 2 0
second_len true second h = h.0
second_len false second h = ap length h

pub head_is : (kind : Kind) (h : EntryHead) (flags : ℕ) → IsEntryHead kind h
    → is_extended flags ≡ is_extended (be h.word) → length (head_bytes h) ≡ head_len kind flags
head_is kind h flags is e =
    let s : length h.second ≡ cond (is_extended flags) 2 0 = second_len (is_extended (be h.word)) h.second is.second
    ∙ ap (λ (b : Bool). cond b 2 0) (sym e) in
    omega (
      arith,
      s,
      is.numbers,
      is.id,
      is.word,
      length-append h.numbers (h.id ++ (h.word ++ h.second)),
      length-append h.id (h.word ++ h.second),
      length-append h.word h.second,
    )

-- ---- an entry

pub record HasSpelling (version : Version) (kind : Kind) (previous : Option (List ℕ)) (bytes : List ℕ) (r : Record)
    (rest : List ℕ) : Type 0 where
  pub own : List ℕ
  pub padding : List ℕ
  pub is_spelled : IsSpelled version kind previous bytes (record { entry = r; own = own; padding = padding }) rest
  pub own_is : length own ≡ own_len version kind r.flags (length r.path) (length bytes - length rest)
  pub whole : length own + length padding + length rest ≡ length bytes

len23 : (a b c d : List ℕ) → length (a ++ (b ++ (c ++ d))) ≡ length (a ++ b) + length c + length d
len23 a b c d =
    omega (arith, length-append a (b ++ (c ++ d)), length-append b (c ++ d), length-append c d, length-append a b)

pub own23 : (kind : Kind) (bytes : List ℕ) (r : Record) (rest : List ℕ) (e : IsEntry23 kind bytes r rest)
    → length (head_bytes e.head ++ r.path) ≡ head_len kind r.flags + length r.path
own23 kind bytes r rest e =
    let same : is_extended r.flags ≡ is_extended (be e.head.word) = ap (λ (x : Record). is_extended x.flags) e.is
    ∙ extended_kept (be e.head.word) (be e.head.second) in
    omega (arith, head_is kind e.head r.flags e.is_head same, length-append (head_bytes e.head) r.path)

whole23 : (kind : Kind) (bytes : List ℕ) (r : Record) (rest : List ℕ) (e : IsEntry23 kind bytes r rest)
    → length (head_bytes e.head ++ r.path) + length e.padding + length rest ≡ length bytes
whole23 kind bytes r rest e = sym (ap length e.parts ∙ len23 (head_bytes e.head) r.path e.padding rest)

spelled4 : (kind : Kind) (previous : Option (List ℕ)) (bytes : List ℕ) (r : Record) (rest : List ℕ)
    → IsEntry4 kind previous bytes r rest → HasSpelling V4 kind previous bytes r rest
spelled4 kind previous bytes r rest e =
    let own : List ℕ = head_bytes e.head ++ (e.is_offset.spelling ++ (e.tail ++ 0 ∷ [])) in
    let parts : bytes ≡ own ++ rest = e.parts
    ∙ ap (λ (t : List ℕ). head_bytes e.head ++ t)
    (e.is_offset.parts ∙ ap (λ (t : List ℕ). e.is_offset.spelling ++ t) e.is_tail.parts)
    ∙ (simp append_assoc refl) in
    let len : length bytes ≡ length own + length rest = ap length parts ∙ length-append own rest in
    record {
      own = own;
      padding = [];
      is_spelled = (e, parts, refl);
      own_is = omega (arith, len);
      whole = omega (arith, len);
    }

pub spelling_of : (version : Version) (kind : Kind) (previous : Option (List ℕ)) (bytes : List ℕ) (r : Record)
    (rest : List ℕ) → IsEntry version kind previous bytes r rest → HasSpelling version kind previous bytes r rest
spelling_of V2 kind previous bytes r rest e = record {
  own = head_bytes e.head ++ r.path;
  padding = e.padding;
  is_spelled = (e, refl, refl);
  own_is = omega (arith, own23 kind bytes r rest e, whole23 kind bytes r rest e);
  whole = whole23 kind bytes r rest e;
}
spelling_of V3 kind previous bytes r rest e = record {
  own = head_bytes e.head ++ r.path;
  padding = e.padding;
  is_spelled = (e, refl, refl);
  own_is = omega (arith, own23 kind bytes r rest e, whole23 kind bytes r rest e);
  whole = whole23 kind bytes r rest e;
}
spelling_of V4 kind previous bytes r rest e = spelled4 kind previous bytes r rest e

-- ---- its bytes

pub spelled_parts : (version : Version) (kind : Kind) (previous : Option (List ℕ)) (bytes : List ℕ) (s : Spelling)
    (rest : List ℕ) → IsSpelled version kind previous bytes s rest → bytes ≡ s.own ++ (s.padding ++ rest)
spelled_parts V2 kind previous bytes s rest h = h.0.parts
    ∙ rw (h.1, h.2) (sym (append_assoc (head_bytes h.0.head) s.entry.path (h.0.padding ++ rest)))
spelled_parts V3 kind previous bytes s rest h = h.0.parts
    ∙ rw (h.1, h.2) (sym (append_assoc (head_bytes h.0.head) s.entry.path (h.0.padding ++ rest)))
spelled_parts V4 kind previous bytes s rest h = h.1 ∙ ap (λ (p : List ℕ). s.own ++ (p ++ rest)) (sym h.2)
