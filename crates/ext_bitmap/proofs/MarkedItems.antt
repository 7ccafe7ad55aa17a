-- Bits of items, by words.
use Rattle.std.proofs.Common.{◌≡◌, ℕ, zero, suc, ◌+◌, ◌*◌, ◌/◌, ◌%◌, ◌^◌, ◌<◌, ◌≤◌, Bool, true, false, List, [], ◌∷◌, ◌++◌}
use Rattle.std.proofs.Common.{length, take, drop, map, refl, sym, ap, ◌∙◌, arith}
use Rattle.std.specs.Prelude.{min}
use mir.Val.{bool_byte}
use Rattle.std.proofs.lemmas.List.{drop-drop, drop-map, take-map, take_min, length-append, length-drop, length-map, map-append}
use Rattle.ext_bitmap.specs.EncodedBitmap.{word_of, words_within, words_of, before_bits, up_to_last}
use Rattle.ext_bitmap.proofs.EncodedBits.{words_len, word_below}

-- ---- bits up to the last one that is set

pub last_clear : (bits : List Bool) → up_to_last (bits ++ false ∷ []) ≡ up_to_last bits
unfolding up_to_last
last_clear [] = refl
last_clear (bit ∷ bits) = ap (before_bits bit) (last_clear bits)

pub last_kept : (bits : List Bool) → up_to_last (bits ++ true ∷ []) ≡ bits ++ true ∷ []
unfolding up_to_last
last_kept [] = refl
last_kept (bit ∷ []) = refl
last_kept (bit ∷ b ∷ bits) = ap (before_bits bit) (last_kept (b ∷ bits))

pub last_none : up_to_last [] ≡ []
unfolding up_to_last
last_none = refl

-- ---- the word at a place

within_at : (n place : ℕ) (bits : List Bool) → place < n → drop place (words_within n bits)
    ≡ word_of (take 64 (drop (64 * place) bits)) ∷ drop (place + 1) (words_within n bits)
within_at zero place bits lt = absurd (omega (arith, lt))
within_at (suc n) zero bits lt = refl
within_at (suc n) (suc place) bits lt =
    let further : 64 + 64 * place ≡ 64 * suc place = omega arith in
    let next : suc place + 1 ≡ suc (place + 1) = omega arith in
    within_at n place (drop 64 bits) (omega (arith, lt))
    ∙ ap (λ (l : List Bool). word_of (take 64 l) ∷ drop (place + 1) (words_within n (drop 64 bits)))
    (drop-drop (64 * place) 64 bits ∙ ap (λ (k : ℕ). drop k bits) further)
    ∙ ap (λ (k : ℕ). word_of (take 64 (drop (64 * suc place) bits)) ∷ drop k (words_within (suc n) bits)) (sym next)

words_at : (place : ℕ) (bits : List Bool) → place < length (words_of bits)
    → drop place (words_of bits) ≡ word_of (take 64 (drop (64 * place) bits)) ∷ drop (place + 1) (words_of bits)
unfolding words_of
words_at place bits lt = within_at ((length bits + 63) / 64) place bits (omega (arith, lt, words_len bits))

-- of items by their marks
pub marks_at : {X : Type 0} (f : X → Bool) (xs rest piece : List X) (place word : ℕ)
    → place < length (words_of (map f xs)) → rest ≡ drop (64 * place) xs → piece ≡ take (min 64 (length rest)) rest
    → word ≡ word_of (map f piece)
    → drop place (words_of (map f xs)) ≡ word ∷ drop (place + 1) (words_of (map f xs))
marks_at f xs rest piece place word lt e g h =
    let there : map f piece ≡ take 64 (drop (64 * place) (map f xs)) =
    ap (map f) (g ∙ take_min 64 rest ∙ ap (take 64) e) ∙ sym (take-map f 64 (drop (64 * place) xs))
    ∙ ap (take 64) (sym (drop-map f (64 * place) xs)) in
    words_at place (map f xs) lt
    ∙ ap (λ (w : ℕ). w ∷ drop (place + 1) (words_of (map f xs))) (sym (h ∙ ap word_of there))

pub marks_len : {X : Type 0} (f : X → Bool) (xs : List X) → length (words_of (map f xs)) ≡ (length xs + 63) / 64
marks_len f xs = words_len (map f xs) ∙ ap (λ (n : ℕ). (n + 63) / 64) (length-map xs f)

pub marks_count : {X : Type 0} (f : X → Bool) (xs : List X) (count : ℕ)
    → count ≡ length xs / 64 + min 1 (length xs % 64) → count ≡ length (words_of (map f xs))
marks_count f xs count e = omega (arith, e, marks_len f xs)

-- ---- one item

-- before one place there are fewer bits than a word has
pub word_small : {X : Type 0} (f : X → Bool) (xs : List X) (place word : ℕ) → 0 < place → length xs ≤ 64
    → word ≡ word_of (map f (drop place xs)) → word < 2 ^ 63
word_small f xs place word some most e =
    let len : length (map f (drop place xs)) ≤ 63 =
    omega (arith, length-map (drop place xs) f, length-drop place xs, some, most) in
    omega (arith, e, word_below 63 (map f (drop place xs)) len)

pub bit_small : (b : Bool) → bool_byte b ≤ 1
bit_small true = omega arith
bit_small false = omega arith

pub one_less : {X : Type 0} (xs before : List X) (x : X) → xs ≡ before ++ x ∷ [] → length before + 1 ≡ length xs
one_less xs before x e = omega (arith, ap length e, length-append before (x ∷ []))

pub marked_last : {X : Type 0} (f : X → Bool) (xs before : List X) (x : X) → xs ≡ before ++ x ∷ [] → f x ≡ true
    → up_to_last (map f xs) ≡ map f xs
marked_last f xs before x e h =
    let parts : map f xs ≡ map f before ++ true ∷ [] =
    ap (map f) e ∙ map-append f before (x ∷ []) ∙ ap (λ (b : Bool). map f before ++ b ∷ []) h in
    ap up_to_last parts ∙ last_kept (map f before) ∙ sym parts

pub unmarked_last : {X : Type 0} (f : X → Bool) (xs before : List X) (x : X) → xs ≡ before ++ x ∷ [] → f x ≡ false
    → up_to_last (map f xs) ≡ up_to_last (map f before)
unmarked_last {X} f xs before x e h =
    ap (λ (l : List X). up_to_last (map f l)) e ∙ ap up_to_last (map-append f before (x ∷ []))
    ∙ ap (λ (b : Bool). up_to_last (map f before ++ b ∷ [])) h ∙ last_clear (map f before)

pub none_marked : {X : Type 0} (f : X → Bool) (xs : List X) → length xs ≡ 0 → up_to_last (map f xs) ≡ map f xs
none_marked f [] e = last_none
none_marked f (x ∷ xs) e = absurd (omega (arith, e))
