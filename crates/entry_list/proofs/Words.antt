-- The numbers and words of an entry that were written are read again.
use Rattle.std.proofs.Common.{◌≡◌, ℕ, ◌+◌, ◌*◌, ◌/◌, ◌%◌, ◌^◌, ◌<◌, Bool, true, false, cond, eqb, min, [], ◌∷◌, length}
use Rattle.std.proofs.Common.{refl, sym, ap, ◌∙◌, arith}
use Rattle.std.specs.Prelude.{MatchBool, bit_and}
use Rattle.std.specs.Int.{w16, w32, from_be_bytes}
use Rattle.std.proofs.lemmas.Nat.{from_be_bytes-to_be_bytes_4, from_be_bytes-to_be_bytes_2, or_shifted, or_comm}
use Rattle.std.proofs.lemmas.Nat.{and_block, and_assoc, and_le_r, and_mask, shr_split}
use Rattle.std.proofs.lemmas.Nat.Bits.{and_high, and_pow}
use Rattle.entry_fields.specs.Flags.{is_extended, extended_flags, joined_words, stored_flags}
use Rattle.index_parts.specs.Numbers.{be}
use Rattle.entry_list.specs.EntryImage.{be16, first_word, second_word}
use Rattle.index_parts.specs.Numbers.{be32}
use Rattle.entry_list.specs.Record.{Record}

four : (a b c d : ℕ) → be (a ∷ b ∷ c ∷ d ∷ []) ≡ from_be_bytes w32 (a ∷ b ∷ c ∷ d ∷ [])
four a b c d = omega arith

two : (a b : ℕ) → be (a ∷ b ∷ []) ≡ from_be_bytes w16 (a ∷ b ∷ [])
two a b = omega arith

pub be_be32 : (n : ℕ) → n < 2 ^ 32 → be (be32 n) ≡ n
be_be32 n lt = four _ _ _ _ ∙ from_be_bytes-to_be_bytes_4 n lt

pub be_be16 : (n : ℕ) → n < 2 ^ 16 → be (be16 n) ≡ n
be_be16 n lt = two _ _ ∙ from_be_bytes-to_be_bytes_2 n lt

-- ---- the first word

word_is : (r : Record) → first_word r ≡ (r.flags / 2 ^ 12 % 2 ^ 4) * 2 ^ 12 + min (length r.path) 4095
word_is r =
    rw (and_high r.flags 4 12) (or_shifted (r.flags / 2 ^ 12 % 2 ^ 4) 12 (min (length r.path) 4095) (omega arith))

word_small : (r : Record) → first_word r < 2 ^ 16
word_small r = omega (arith, word_is r)

pub be_first : (r : Record) → be (be16 (first_word r)) ≡ first_word r
be_first r = be_be16 (first_word r) (word_small r)

pub first_len : (r : Record) → bit_and (first_word r) 0xfff ≡ min (length r.path) 0xfff
first_len r = and_mask (first_word r) 12 ∙ omega (arith, word_is r)

extended_same : (f g : ℕ) → f / 2 ^ 14 % 2 ≡ g / 2 ^ 14 % 2 → is_extended f ≡ is_extended g
extended_same f g e = ap (λ (n : ℕ). eqb n 0x4000) (and_pow f 14 ∙ ap (λ (n : ℕ). n * 2 ^ 14) e ∙ sym (and_pow g 14))

rest_same : (f g : ℕ) → f / 2 ^ 12 % 2 ^ 4 ≡ g / 2 ^ 12 % 2 ^ 4 → bit_and f 0xf000 ≡ bit_and g 0xf000
rest_same f g e = and_high f 4 12 ∙ ap (λ (n : ℕ). n * 2 ^ 12) e ∙ sym (and_high g 4 12)

pub first_extended : (r : Record) → is_extended (first_word r) ≡ is_extended r.flags
first_extended r = extended_same (first_word r) r.flags (omega (arith, word_is r))

-- ---- the second word

extended_small : (f : ℕ) → extended_flags f < 2 ^ 16
extended_small f = omega (arith, and_le_r (f / 2 ^ 16) 0x6000)

extended_again : (f : ℕ) → bit_and (extended_flags f) 0x6000 ≡ extended_flags f
extended_again f = and_assoc 0x6000 (f / 2 ^ 16) 0x6000

second_by : (b : Bool) (f : ℕ) → be (cond b (be16 (extended_flags f)) []) ≡ cond b (extended_flags f) 0
second_by true f = be_be16 (extended_flags f) (extended_small f)
second_by false f = refl

legal_by : (b : Bool) (f : ℕ) → MatchBool b ((length (cond b (be16 (extended_flags f)) []) ≡ 2)
    × (bit_and (be (cond b (be16 (extended_flags f)) [])) 0x6000 ≡ be (cond b (be16 (extended_flags f)) [])))
    (cond b (be16 (extended_flags f)) [] ≡ [])
legal_by true f = (refl, rw (be_be16 (extended_flags f) (extended_small f)) (extended_again f))
legal_by false f = refl

pub second_legal : (r : Record) → MatchBool (is_extended r.flags)
    ((length (second_word r) ≡ 2) × (bit_and (be (second_word r)) 0x6000 ≡ be (second_word r))) (second_word r ≡ [])
second_legal r = legal_by (is_extended r.flags) r.flags

-- ---- both words

joined_is : (word second : ℕ) → word < 2 ^ 16 → joined_words word second ≡ second * 2 ^ 16 + word
joined_is word second lt = or_comm word (second * 2 ^ 16) ∙ or_shifted second 16 word lt

-- bits 12 to 15, 29 and 30, half by half
halves : (n : ℕ) → bit_and n 0x6000f000 ≡ bit_and (n / 2 ^ 16) 0x6000 * 2 ^ 16 + bit_and (n % 2 ^ 16) 0xf000
halves n = ap (λ (m : ℕ). bit_and m 0x6000f000) (sym (shr_split n 16))
    ∙ and_block 16 (n / 2 ^ 16) 0x6000 (n % 2 ^ 16) 0xf000 (omega arith) (omega arith)

masked_same : (f g : ℕ) → bit_and (f / 2 ^ 16) 0x6000 ≡ bit_and (g / 2 ^ 16) 0x6000
    → f / 2 ^ 12 % 2 ^ 4 ≡ g / 2 ^ 12 % 2 ^ 4 → bit_and f 0x6000f000 ≡ bit_and g 0x6000f000
masked_same f g e h =
    let low : bit_and (f % 2 ^ 16) 0xf000 ≡ bit_and (g % 2 ^ 16) 0xf000 =
    rest_same (f % 2 ^ 16) (g % 2 ^ 16) (omega arith) in
    halves f ∙ (let k : bit_and (f / 2 ^ 16) 0x6000 * 2 ^ 16 + bit_and (f % 2 ^ 16) 0xf000
    ≡ bit_and (g / 2 ^ 16) 0x6000 * 2 ^ 16 + bit_and (g % 2 ^ 16) 0xf000 = rw (e, low) refl in k) ∙ sym (halves g)

kept_by : (b : Bool) (r : Record) → is_extended r.flags ≡ b
    → stored_flags (joined_words (first_word r) (cond b (extended_flags r.flags) 0)) ≡ stored_flags r.flags
kept_by true r e =
    let s : ℕ = extended_flags r.flags in
    let j : joined_words (first_word r) s ≡ s * 2 ^ 16 + first_word r = joined_is (first_word r) s (word_small r) in
    let same : is_extended (joined_words (first_word r) s) ≡ true =
    extended_same (joined_words (first_word r) s) r.flags (omega (arith, j, word_is r)) ∙ e in
    let high : joined_words (first_word r) s / 2 ^ 16 ≡ s = omega (arith, j, word_small r) in
    let masked = masked_same (joined_words (first_word r) s) r.flags
    (ap (λ (n : ℕ). bit_and n 0x6000) high ∙ extended_again r.flags) (omega (arith, j, word_is r)) in
    rw (same, e) masked
kept_by false r e =
    let j : joined_words (first_word r) 0 ≡ 0 * 2 ^ 16 + first_word r = joined_is (first_word r) 0 (word_small r) in
    let same : is_extended (joined_words (first_word r) 0) ≡ false =
    extended_same (joined_words (first_word r) 0) r.flags (omega (arith, j, word_is r)) ∙ e in
    rw (same, e) (rest_same (joined_words (first_word r) 0) r.flags (omega (arith, j, word_is r)))

-- what is kept of the words that were written is what is kept of the flags
pub kept_again : (r : Record)
    → stored_flags (joined_words (be (be16 (first_word r))) (be (second_word r))) ≡ stored_flags r.flags
kept_again r = rw (be_first r, second_by (is_extended r.flags) r.flags) (kept_by (is_extended r.flags) r refl)
