-- A bitmap that was written is read again, and one that was read can be written.
use Rattle.std.proofs.Common.{◌≡◌, ℕ, zero, suc, ◌+◌, ◌-◌, ◌*◌, ◌^◌, ◌<◌, ◌≤◌, List, []}
use Rattle.std.proofs.Common.{◌∷◌, ◌++◌, length, drop, map, All, refl, sym, ap, subst, ◌∙◌, append_assoc}
use Rattle.std.proofs.Common.{length-append, length-drop, arith}
use Rattle.std.specs.Int.{w64, from_be_bytes}
use Rattle.std.specs.List.{concat, flat_map}
use Rattle.std.proofs.lemmas.Bool.{lt-ltb, le-ltb}
use Rattle.std.proofs.lemmas.List.Elements.{All-nil, All-cons, All-head, All-tail}
use Rattle.std.proofs.lemmas.Nat.{from_be_bytes-to_be_bytes_8}
use native.Mathlib.Numerals.{unary_clauses}
use Rattle.ext_bitmap.specs.Bitmap.{Bitmap, AreBitmapWords, IsBitmap}
use Rattle.ext_bitmap.specs.Bits.{literal_count}
use Rattle.index_extensions.proofs.WrittenItems.{be_be32}
use Rattle.index_parts.specs.Numbers.{be, be32}
use Rattle.ext_bitmap.specs.BitmapImage.{be64, last_run_within, last_run, bitmap_bytes, IsSpellableBitmap}

-- ---- lengths

words_len : (words : List ℕ) → length (flat_map be64 words) ≡ 8 * length words
words_len [] = refl
words_len (w ∷ words) = omega (arith, words_len words)

pub bitmap_len : (b : Bitmap) → length (bitmap_bytes b) ≡ 12 + 8 * length b.words
unfolding bitmap_bytes
bitmap_len b = omega (
  arith,
  length-append (flat_map be64 b.words) (be32 (last_run b.words)),
  words_len b.words,
)

-- its parts, if the number of words is known
pub bitmap_parts : (b : Bitmap) → be32 b.num_bits
    ++ (be32 (length b.words) ++ (flat_map be64 b.words ++ be32 (last_run b.words))) ≡ bitmap_bytes b
unfolding bitmap_bytes
bitmap_parts b = refl

-- ---- the last run word

within_same : (f g : ℕ) (words : List ℕ) → length words ≤ f → length words ≤ g
    → last_run_within f words ≡ last_run_within g words
within_same zero zero words h k = refl
within_same zero (suc g) [] h k = refl
within_same zero (suc g) (w ∷ words) h k = absurd (omega arith)
within_same (suc f) zero [] h k = refl
within_same (suc f) zero (w ∷ words) h k = absurd (omega arith)
within_same (suc f) (suc g) [] h k = refl
within_same (suc f) (suc g) (w ∷ words) h k =
    let n : length (drop (literal_count w) words) ≤ length words = omega (arith, length-drop (literal_count w) words) in
    rw (within_same f g (drop (literal_count w) words) (omega arith) (omega arith)) refl

pub no_run : last_run [] ≡ 0
unfolding last_run
no_run = refl

-- no word follows the literal words of a run word
pub run_ends : (run : ℕ) (words : List ℕ) → length words ≤ literal_count run → last_run (run ∷ words) ≡ 0
unfolding last_run
run_ends run words le = rw (le-ltb (literal_count run) (length words) le) refl

-- the next run word follows them
pub run_next : (run : ℕ) (words : List ℕ) → literal_count run < length words
    → last_run (run ∷ words) ≡ 1 + literal_count run + last_run (drop (literal_count run) words)
unfolding last_run
run_next run words lt =
    let rest : List ℕ = drop (literal_count run) words in
    let n : length rest ≤ length words = omega (arith, length-drop (literal_count run) words) in
    rw (lt-ltb (literal_count run) (length words) lt) (ap (λ (m : ℕ). 1 + literal_count run + m)
    (within_same (length words) (length rest) rest n (omega arith)))

-- after a run word and its literal words, or if there are none
pub run_at : (run literals : ℕ) (words behind after : List ℕ) → words ≡ run ∷ behind → literals ≡ literal_count run
    → literals < length behind → after ≡ drop literals behind
    → (last_run words ≡ 1 + literals + last_run after) × (length words ≡ 1 + literals + length after)
run_at run literals words behind after e f lt g =
    let n : literal_count run < length behind = omega (arith, f, lt) in
    let is : after ≡ drop (literal_count run) behind = g ∙ ap (λ (m : ℕ). drop m behind) f in (
      ap last_run e ∙ run_next run behind n
          ∙ ap (λ (l : List ℕ). 1 + literal_count run + last_run l) (sym is)
          ∙ ap (λ (m : ℕ). 1 + m + last_run after) (sym f),
      omega (arith, ap length e, ap length is, length-drop (literal_count run) behind, f, n),
    )

-- ---- what is written is read

eight : (a b c d e f g h : ℕ) → be (a ∷ b ∷ c ∷ d ∷ e ∷ f ∷ g ∷ h ∷ [])
    ≡ from_be_bytes w64 (a ∷ b ∷ c ∷ d ∷ e ∷ f ∷ g ∷ h ∷ [])
eight a b c d e f g h = omega arith

pub be_be64 : (n : ℕ) → n < 2 ^ 64 → be (be64 n) ≡ n
be_be64 n lt = eight _ _ _ _ _ _ _ _ ∙ from_be_bytes-to_be_bytes_8 n lt

spelled : (words : List ℕ) → flat_map be64 words ≡ concat (map be64 words)
spelled [] = refl
spelled (w ∷ words) = ap (λ (l : List ℕ). be64 w ++ l) (spelled words)

spelled_sizes : (words : List ℕ) → All (λ s. length s ≡ 8) (map be64 words)
spelled_sizes [] = All-nil (λ s. length s ≡ 8)
spelled_sizes (w ∷ words) = All-cons (λ s. length s ≡ 8) (be64 w) (map be64 words) refl (spelled_sizes words)

values : (words : List ℕ) → All (λ w. w < 2 ^ 64) words → words ≡ map be (map be64 words)
values [] h = refl
values (w ∷ words) h =
    let first : be (be64 w) ≡ w = be_be64 w (All-head (λ x. x < 2 ^ 64) w words h) in
    let others : words ≡ map be (map be64 words) = values words (All-tail (λ x. x < 2 ^ 64) w words h) in
    ap (λ (x : ℕ). x ∷ words) (sym first) ∙ ap (λ (l : List ℕ). be (be64 w) ∷ l) others

parts_joined : (a b c d rest : List ℕ) → (a ++ (b ++ (c ++ d))) ++ rest ≡ a ++ (b ++ (c ++ (d ++ rest)))
parts_joined a b c d rest = simp append_assoc refl

pub bitmap_there : (b : Bitmap) (rest : List ℕ) → IsSpellableBitmap b → IsBitmap (bitmap_bytes b ++ rest) b rest
unfolding bitmap_bytes
bitmap_there b rest h =
    let count : be (be32 (length b.words)) ≡ length b.words = be_be32 (length b.words) h.count in
    record {
      bits = be32 b.num_bits;
      len = be32 (length b.words);
      words = flat_map be64 b.words;
      last = be32 (last_run b.words);
      parts = parts_joined (be32 b.num_bits) (be32 (length b.words)) (flat_map be64 b.words) (be32 (last_run b.words))
          rest;
      bits_size = refl;
      len_size = refl;
      words_size = words_len b.words ∙ ap (λ (n : ℕ). 8 * n) (sym count);
      last_size = refl;
      num_bits = sym (be_be32 b.num_bits h.bits);
      are_words = record {
        spellings = map be64 b.words;
        parts = spelled b.words;
        sizes = spelled_sizes b.words;
        values = values b.words h.words;
      };
    }

-- ---- what is read can be written

abbrev IsByte : ℕ → Type 0
IsByte n = n < 256

pub bytes_first : (a b : List ℕ) → All IsByte (a ++ b) → All IsByte a
bytes_first [] b h = All-nil IsByte
bytes_first (x ∷ a) b h =
    All-cons IsByte x a (All-head IsByte x (a ++ b) h) (bytes_first a b (All-tail IsByte x (a ++ b) h))

pub bytes_behind : (a b : List ℕ) → All IsByte (a ++ b) → All IsByte b
bytes_behind [] b h = h
bytes_behind (x ∷ a) b h = bytes_behind a b (All-tail IsByte x (a ++ b) h)

power : (n : ℕ) → 256 ^ suc n ≡ 256 * 256 ^ n
power n = simp unary_clauses (omega arith)

below : (b c p v : ℕ) → b + 1 + c ≡ 256 → v < p → b * p + v < 256 * p
below b c p v e lt = rw (← e) (omega (arith, lt))

pub be_below : (bytes : List ℕ) → All IsByte bytes → be bytes < 256 ^ length bytes
be_below [] h = omega arith
be_below (b ∷ bytes) h =
    let first : b < 256 = All-head IsByte b bytes h in
    let others : be bytes < 256 ^ length bytes = be_below bytes (All-tail IsByte b bytes h) in
    subst (λ (n : ℕ). be (b ∷ bytes) < n) (sym (power (length bytes)))
    (below b (255 - b) (256 ^ length bytes) (be bytes) (omega (arith, first)) others)

pub be_four : (bytes : List ℕ) → All IsByte bytes → length bytes ≡ 4 → be bytes < 2 ^ 32
be_four bytes h len =
    let lt : be bytes < 256 ^ 4 = subst (λ (n : ℕ). be bytes < 256 ^ n) len (be_below bytes h) in
    omega (arith, lt)

pub be_eight : (bytes : List ℕ) → All IsByte bytes → length bytes ≡ 8 → be bytes < 2 ^ 64
be_eight bytes h len =
    let lt : be bytes < 256 ^ 8 = subst (λ (n : ℕ). be bytes < 256 ^ n) len (be_below bytes h) in
    omega (arith, lt)

words_below : (ss : List (List ℕ)) → All (λ s. length s ≡ 8) ss → All IsByte (concat ss)
    → All (λ w. w < 2 ^ 64) (map be ss)
words_below [] h k = All-nil (λ w. w < 2 ^ 64)
words_below (s ∷ ss) h k = All-cons (λ w. w < 2 ^ 64) (be s) (map be ss)
    (be_eight s (bytes_first s (concat ss) k) (All-head (λ s. length s ≡ 8) s ss h))
    (words_below ss (All-tail (λ s. length s ≡ 8) s ss h) (bytes_behind s (concat ss) k))

words_number : (ss : List (List ℕ)) → All (λ s. length s ≡ 8) ss → length (concat ss) ≡ 8 * length (map be ss)
words_number [] h = refl
words_number (s ∷ ss) h = omega (
  arith,
  length-append s (concat ss),
  All-head (λ s. length s ≡ 8) s ss h,
  words_number ss (All-tail (λ s. length s ≡ 8) s ss h),
)

-- words are a fourth of the bytes' number
pub words_size : (bytes words : List ℕ) → AreBitmapWords bytes words → length bytes ≡ 8 * length words
words_size bytes words a =
    ap length a.parts ∙ words_number a.spellings a.sizes ∙ ap (λ (l : List ℕ). 8 * length l) (sym a.values)

pub bitmap_spellable : (bytes : List ℕ) (b : Bitmap) (rest : List ℕ) → All IsByte bytes → IsBitmap bytes b rest
    → IsSpellableBitmap b
bitmap_spellable bytes b rest h s =
    let behind_words : List ℕ = s.last ++ rest in
    let behind_len : List ℕ = s.words ++ behind_words in
    let behind_bits : List ℕ = s.len ++ behind_len in
    let whole : All IsByte (s.bits ++ behind_bits) = subst (All IsByte) s.parts h in
    let second : All IsByte behind_bits = bytes_behind s.bits behind_bits whole in
    let third : All IsByte behind_len = bytes_behind s.len behind_len second in
    let words : All IsByte s.words = bytes_first s.words behind_words third in
    let bits : be s.bits < 2 ^ 32 = be_four s.bits (bytes_first s.bits behind_bits whole) s.bits_size in
    let count : be s.len < 2 ^ 32 = be_four s.len (bytes_first s.len behind_len second) s.len_size in
    let number : length s.words ≡ 8 * length b.words = words_size s.words b.words s.are_words in
    let are : All (λ w. w < 2 ^ 64) (map be s.are_words.spellings) =
    words_below s.are_words.spellings s.are_words.sizes (subst (All IsByte) s.are_words.parts words) in
    record {
      bits = omega (arith, bits, s.num_bits);
      count = omega (arith, count, number, s.words_size);
      words = subst (All (λ w. w < 2 ^ 64)) (sym s.are_words.values) are;
    }
