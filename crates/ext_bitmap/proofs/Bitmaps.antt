-- The words that bytes spell, and the bitmap or the fault at the front of bytes.
use Rattle.std.proofs.Common.{◌≡◌, ℕ, zero, suc, ◌+◌, ◌-◌, ◌*◌, List, [], ◌∷◌, ◌++◌, length, take, drop, map, All, refl}
use Rattle.std.proofs.Common.{sym, ap, subst, ◌∙◌, arith, append_assoc, append-nil}
use Rattle.std.specs.List.{concat}
use Rattle.std.proofs.lemmas.List.{take_at, drop_at, take-append-drop, length-append, length-take, length-drop}
use Rattle.std.proofs.lemmas.List.{map-append, nil_from_length}
use Rattle.std.proofs.lemmas.List.Elements.{All-nil, All-cons, All-head, All-tail, All-append}
use Rattle.std.proofs.lemmas.List.Folds.{concat-append}
use Rattle.index_parts.specs.Numbers.{be, StartsWithNumber}
use Rattle.ext_bitmap.specs.Bitmap.{Bitmap, AreBitmapWords, IsBitmap}

-- ---- words read one after another

-- bytes begin with these words, and complete words follow
pub record ReadsWords (bytes words rest : List ℕ) : Type 0 where
  pub front : List ℕ
  pub parts : bytes ≡ front ++ rest
  pub are_words : AreBitmapWords front words
  pub left : ℕ
  pub size : length rest ≡ 8 * left

pub no_spelled_words : AreBitmapWords [] []
no_spelled_words = record {
  spellings = [];
  parts = refl;
  sizes = All-nil (λ spelling. length spelling ≡ 8);
  values = refl;
}

-- one more word after words
word_behind : (front words spelling : List ℕ) (word : ℕ) → length spelling ≡ 8 → word ≡ be spelling
    → AreBitmapWords front words → AreBitmapWords (front ++ spelling) (words ++ word ∷ [])
word_behind front words spelling word size value a =
    let one = concat-append a.spellings (spelling ∷ []) in
    record {
      spellings = a.spellings ++ spelling ∷ [];
      parts = ap (λ (l : List ℕ). l ++ spelling) a.parts
          ∙ ap (λ (l : List ℕ). concat a.spellings ++ l) (sym (append-nil spelling)) ∙ sym one;
      sizes = All-append (λ s. length s ≡ 8) a.spellings (spelling ∷ []) a.sizes
          (All-cons (λ s. length s ≡ 8) spelling [] size (All-nil (λ s. length s ≡ 8)));
      values = ap (λ (l : List ℕ). l ++ word ∷ []) a.values ∙ ap (λ (w : ℕ). map be a.spellings ++ w ∷ []) value
          ∙ sym (map-append be a.spellings (spelling ∷ []));
    }

pub reads_word : (bytes words rest : List ℕ) (word : ℕ) (after : List ℕ) → StartsWithNumber 8 rest word after
    → ReadsWords bytes words rest → ReadsWords bytes (words ++ word ∷ []) after
reads_word bytes words rest word after s r =
    let len : length rest ≡ 8 + length after =
    omega (arith, ap length s.parts, length-append s.spelling after, s.size) in
    record {
      front = r.front ++ s.spelling;
      parts = r.parts ∙ ap (λ (l : List ℕ). r.front ++ l) s.parts ∙ sym (append_assoc r.front s.spelling after);
      are_words = word_behind r.front words s.spelling word s.size s.value r.are_words;
      left = r.left - 1;
      size = omega (arith, len, r.size);
    }

-- whole words spell some numbers
pub some_words : (count : ℕ) (bytes : List ℕ) → length bytes ≡ 8 * count → (words : List ℕ) × AreBitmapWords bytes words
some_words zero bytes size = (
  [],
  subst (λ (l : List ℕ). AreBitmapWords l []) (sym (nil_from_length bytes (omega (arith, size)))) no_spelled_words,
)
some_words (suc count) bytes size =
    let spelling = take 8 bytes in
    let len : length spelling ≡ 8 = omega (arith, size, length-take 8 bytes) in
    let others = some_words count (drop 8 bytes) (omega (arith, size, length-drop 8 bytes)) in (
      be spelling ∷ others.0,
      record {
        spellings = spelling ∷ others.1.spellings;
        parts = sym (take-append-drop 8 bytes) ∙ ap (λ (l : List ℕ). spelling ++ l) others.1.parts;
        sizes = All-cons (λ s. length s ≡ 8) spelling others.1.spellings len others.1.sizes;
        values = ap (λ (l : List ℕ). be spelling ∷ l) others.1.values;
      },
    )

-- ---- one bitmap, or one fault

-- if equal lists are in two pieces, and the first pieces have equal lengths, the pieces are equal
same_pieces : (a b x y : List ℕ) → a ++ x ≡ b ++ y → length a ≡ length b → (a ≡ b) × (x ≡ y)
same_pieces a b x y e len = (
  sym (take_at a x (length a) refl) ∙ ap (take (length a)) e
      ∙ take_at b y (length a) (sym len),
  sym (drop_at a x (length a) refl) ∙ ap (drop (length a)) e
      ∙ drop_at b y (length a) (sym len),
)

same_spellings : (a b : List (List ℕ)) → All (λ s. length s ≡ 8) a → All (λ s. length s ≡ 8) b → concat a ≡ concat b
    → map be a ≡ map be b
same_spellings [] [] h k e = refl
same_spellings [] (s ∷ b) h k e =
    absurd (omega (arith, All-head (λ s. length s ≡ 8) s b k, ap length e, length-append s (concat b)))
same_spellings (s ∷ a) [] h k e =
    absurd (omega (arith, All-head (λ s. length s ≡ 8) s a h, ap length e, length-append s (concat a)))
same_spellings (s ∷ a) (t ∷ b) h k e =
    let p = same_pieces s t (concat a) (concat b) e
    (All-head (λ s. length s ≡ 8) s a h ∙ sym (All-head (λ s. length s ≡ 8) t b k)) in
    rw (p.0, same_spellings a b (All-tail (λ s. length s ≡ 8) s a h) (All-tail (λ s. length s ≡ 8) t b k) p.1) refl

-- bytes spell one list of words
pub one_spelling : (bytes a b : List ℕ) → AreBitmapWords bytes a → AreBitmapWords bytes b → a ≡ b
one_spelling bytes a b x y = x.values ∙ same_spellings x.spellings y.spellings x.sizes y.sizes (sym x.parts ∙ y.parts)
    ∙ sym y.values

-- the two numbers at the start, and what follows them
same_front : (b1 l1 x b2 l2 y : List ℕ) → b1 ++ (l1 ++ x) ≡ b2 ++ (l2 ++ y) → length b1 ≡ 4 → length l1 ≡ 4
    → length b2 ≡ 4 → length l2 ≡ 4 → (b1 ≡ b2) × (l1 ≡ l2) × (x ≡ y)
same_front b1 l1 x b2 l2 y e b1_size l1_size b2_size l2_size =
    let p = same_pieces b1 b2 (l1 ++ x) (l2 ++ y) e (b1_size ∙ sym b2_size) in
    let q = same_pieces l1 l2 x y p.1 (l1_size ∙ sym l2_size) in
    (p.0, q.0, q.1)

same_bitmap : (a b : Bitmap) → a.num_bits ≡ b.num_bits → a.words ≡ b.words → a ≡ b
same_bitmap a b p q =
    let with_num_bits : ℕ → Bitmap = λ n. record { num_bits = n; words = a.words } in
    let with_words : List ℕ → Bitmap = λ l. record { num_bits = b.num_bits; words = l } in
    ap with_num_bits p ∙ ap with_words q

-- bytes begin with one bitmap at most
pub one_bitmap : (bytes : List ℕ) (a b : Bitmap) (x y : List ℕ) → IsBitmap bytes a x → IsBitmap bytes b y
    → (a ≡ b) × (x ≡ y)
one_bitmap bytes a b x y s t =
    let front = same_front s.bits s.len (s.words ++ (s.last ++ x)) t.bits t.len (t.words ++ (t.last ++ y))
    (sym s.parts ∙ t.parts) s.bits_size s.len_size t.bits_size t.len_size in
    let size : length s.words ≡ length t.words = s.words_size ∙ ap (λ (l : List ℕ). 8 * be l) front.1
    ∙ sym t.words_size in
    let words = same_pieces s.words t.words (s.last ++ x) (t.last ++ y) front.2 size in
    let last = same_pieces s.last t.last x y words.1 (s.last_size ∙ sym t.last_size) in
    let num_bits : a.num_bits ≡ b.num_bits = s.num_bits ∙ ap be front.0 ∙ sym t.num_bits in
    let spelled : a.words ≡ b.words =
    one_spelling t.words a.words b.words (subst (λ (l : List ℕ). AreBitmapWords l a.words) words.0 s.are_words)
    t.are_words in
    (same_bitmap a b num_bits spelled, last.1)
