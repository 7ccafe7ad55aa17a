-- Bytes begin with a bitmap, or lack one part of it. Their length and the declared number of words determine which.
use Rattle.std.proofs.Common.{◌≡◌, ℕ, ◌+◌, ◌*◌, ◌<◌, ◌≤◌, ◌⊎◌, inl, inr, List, ◌++◌, length, take, drop, refl, sym, ap}
use Rattle.std.proofs.Common.{◌∙◌, arith}
use Rattle.std.proofs.lemmas.List.{take_at, drop_at, take-append-drop, length-append, length-take, length-drop}
use Rattle.index_parts.specs.Numbers.{be}
use Rattle.ext_bitmap.specs.Bitmap.{HasBitmap, Lacks, BitmapCause}
use Rattle.ext_bitmap.specs.declared.ewah.reading.Error.{Error}
use Rattle.ext_bitmap.specs.declared.ewah.reading.Error.TheVariants as errors
use Rattle.ext_bitmap.proofs.Bitmaps.{some_words}
use Rattle.ext_bitmap.proofs.Unpackings.{le_or_lt}

-- how many bytes the declared words take
abbrev declared_size : List ℕ → ℕ
declared_size bytes = 8 * be (take 4 (drop 4 bytes))

-- what an error implies about the number of bytes and about the number that the words take
abbrev IsLengthFor : Error → ℕ → ℕ → Type 0
IsLengthFor errors.NumBits len size = len < 4
IsLengthFor errors.Length len size = (4 ≤ len) × (len < 8)
IsLengthFor errors.Words len size = (8 ≤ len) × (len < 8 + size)
IsLengthFor errors.LastRun len size = (8 + size ≤ len) × (len < 12 + size)
IsLengthFor errors.Memory len size = 12 + size ≤ len

declared_size_is : (bytes bits len rest : List ℕ) → bytes ≡ bits ++ (len ++ rest) → length bits ≡ 4 → length len ≡ 4
    → declared_size bytes ≡ 8 * be len
declared_size_is bytes bits len rest parts bits_size len_size =
    let behind : drop 4 bytes ≡ len ++ rest = ap (drop 4) parts ∙ drop_at bits (len ++ rest) 4 bits_size in
    let second : take 4 (drop 4 bytes) ≡ len = ap (take 4) behind ∙ take_at len rest 4 len_size in
    ap (λ (l : List ℕ). 8 * be l) second

length_is : (bytes bits len rest : List ℕ) → bytes ≡ bits ++ (len ++ rest) → length bits ≡ 4 → length len ≡ 4
    → length bytes ≡ 8 + length rest
length_is bytes bits len rest parts bits_size len_size =
    omega (arith, ap length parts, length-append bits (len ++ rest), length-append len rest, bits_size, len_size)

says_length : (error : Error) (bytes : List ℕ) → BitmapCause error bytes
    → IsLengthFor error (length bytes) (declared_size bytes)
says_length errors.NumBits bytes h = h
says_length errors.Length bytes h = h
says_length errors.Words bytes h =
    let size = declared_size_is bytes h.bits h.len h.rest h.parts h.bits_size h.len_size in
    let len = length_is bytes h.bits h.len h.rest h.parts h.bits_size h.len_size in
    (omega (arith, len), omega (arith, len, size, h.few))
says_length errors.LastRun bytes h =
    let size = declared_size_is bytes h.bits h.len (h.words ++ h.rest) h.parts h.bits_size h.len_size in
    let len = length_is bytes h.bits h.len (h.words ++ h.rest) h.parts h.bits_size h.len_size in
    let behind = length-append h.words h.rest in
    (omega (arith, len, behind, size, h.words_size), omega (arith, len, behind, size, h.words_size, h.few))
says_length errors.Memory bytes h =
    let b = h.is_bitmap in
    let size = declared_size_is bytes b.bits b.len (b.words ++ (b.last ++ h.rest)) b.parts b.bits_size b.len_size in
    let len = length_is bytes b.bits b.len (b.words ++ (b.last ++ h.rest)) b.parts b.bits_size b.len_size in
    omega (
      arith,
      len,
      length-append b.words (b.last ++ h.rest),
      length-append b.last h.rest,
      size,
      b.words_size,
      b.last_size,
    )

one_length : (error other : Error) (len size : ℕ) → IsLengthFor error len size → IsLengthFor other len size → error
    ≡ other
one_length errors.NumBits errors.NumBits len size h k = refl
one_length errors.Length errors.Length len size h k = refl
one_length errors.Words errors.Words len size h k = refl
one_length errors.LastRun errors.LastRun len size h k = refl
one_length errors.Memory errors.Memory len size h k = refl
one_length error other len size h k = absurd (omega (arith, h, k))

some_length : (len size : ℕ) → (error : Error) × IsLengthFor error len size
some_length len size = elim (le_or_lt 8 len) [
  | inr few ↦ elim (le_or_lt 4 len) [ inr none ↦ (errors.NumBits, none) | inl some ↦ (errors.Length, (some, few)) ]
  | inl front ↦ elim (le_or_lt (8 + size) len) [
    | inr few ↦ (errors.Words, (front, few))
    | inl words ↦ elim (le_or_lt (12 + size) len)
        [ inr few ↦ (errors.LastRun, (words, few)) | inl all ↦ (errors.Memory, all) ]
  ]
]

-- the first bytes, cut in pieces
cut : (bytes : List ℕ) → bytes ≡ take 4 bytes ++ (take 4 (drop 4 bytes) ++ drop 4 (drop 4 bytes))
cut bytes = sym (take-append-drop 4 bytes)
    ∙ ap (λ (l : List ℕ). take 4 bytes ++ l) (sym (take-append-drop 4 (drop 4 bytes)))

module _ (bytes : List ℕ) (front : 8 ≤ length bytes) where
  bits_size : length (take 4 bytes) ≡ 4
  bits_size = omega (arith, length-take 4 bytes)

  len_size : length (take 4 (drop 4 bytes)) ≡ 4
  len_size = omega (arith, length-drop 4 bytes, length-take 4 (drop 4 bytes))

  behind_len : length (drop 4 (drop 4 bytes)) + 8 ≡ length bytes
  behind_len = omega (arith, length-drop 4 bytes, length-drop 4 (drop 4 bytes))

  module _ (words : 8 + declared_size bytes ≤ length bytes) where
    words_size : length (take (declared_size bytes) (drop 4 (drop 4 bytes))) ≡ declared_size bytes
    words_size = omega (arith, behind_len, length-take (declared_size bytes) (drop 4 (drop 4 bytes)))

    words_parts : bytes ≡ take 4 bytes
        ++ (take 4 (drop 4 bytes) ++ (take (declared_size bytes) (drop 4 (drop 4 bytes))
        ++ drop (declared_size bytes) (drop 4 (drop 4 bytes))))
    words_parts = cut bytes ∙ ap (λ (l : List ℕ). take 4 bytes ++ (take 4 (drop 4 bytes) ++ l))
        (sym (take-append-drop (declared_size bytes) (drop 4 (drop 4 bytes))))

    rest_len : length (drop (declared_size bytes) (drop 4 (drop 4 bytes))) + (8 + declared_size bytes) ≡ length bytes
    rest_len = omega (arith, behind_len, length-drop (declared_size bytes) (drop 4 (drop 4 bytes)))

length_says : (error : Error) (bytes : List ℕ) → IsLengthFor error (length bytes) (declared_size bytes)
    → BitmapCause error bytes
length_says errors.NumBits bytes h = h
length_says errors.Length bytes h = h
length_says errors.Words bytes h = record {
  bits = take 4 bytes;
  len = take 4 (drop 4 bytes);
  rest = drop 4 (drop 4 bytes);
  parts = cut bytes;
  bits_size = bits_size bytes h.0;
  len_size = len_size bytes h.0;
  few = omega (arith, behind_len bytes h.0, h.1);
}
length_says errors.LastRun bytes h =
    let front : 8 ≤ length bytes = omega (arith, h.0) in
    record {
      bits = take 4 bytes;
      len = take 4 (drop 4 bytes);
      words = take (declared_size bytes) (drop 4 (drop 4 bytes));
      rest = drop (declared_size bytes) (drop 4 (drop 4 bytes));
      parts = words_parts bytes front h.0;
      bits_size = bits_size bytes front;
      len_size = len_size bytes front;
      words_size = words_size bytes front h.0;
      few = omega (arith, rest_len bytes front h.0, h.1);
    }
length_says errors.Memory bytes h =
    let front : 8 ≤ length bytes = omega (arith, h) in
    let words : 8 + declared_size bytes ≤ length bytes = omega (arith, h) in
    let behind = drop (declared_size bytes) (drop 4 (drop 4 bytes)) in
    let size = words_size bytes front words in
    let some = some_words (be (take 4 (drop 4 bytes))) (take (declared_size bytes) (drop 4 (drop 4 bytes))) size in
    record {
      value = record { num_bits = be (take 4 bytes); words = some.0 };
      rest = drop 4 behind;
      is_bitmap = record {
        bits = take 4 bytes;
        len = take 4 (drop 4 bytes);
        words = take (declared_size bytes) (drop 4 (drop 4 bytes));
        last = take 4 behind;
        parts = words_parts bytes front words
            ∙ ap (λ (l : List ℕ). take 4 bytes
            ++ (take 4 (drop 4 bytes) ++ (take (declared_size bytes) (drop 4 (drop 4 bytes)) ++ l)))
            (sym (take-append-drop 4 behind));
        bits_size = bits_size bytes front;
        len_size = len_size bytes front;
        words_size = size;
        last_size = omega (arith, h, rest_len bytes front words, length-take 4 behind);
        num_bits = refl;
        are_words = some.1;
      };
    }

-- ---- there is a bitmap or a fault, and not both, and no second fault

lacks_says : (error : Error) (bytes : List ℕ) → Lacks error bytes → BitmapCause error bytes
lacks_says errors.NumBits bytes h = h
lacks_says errors.Length bytes h = h
lacks_says errors.Words bytes h = h
lacks_says errors.LastRun bytes h = h
lacks_says errors.Memory bytes h = absurd h

says_either : (error : Error) (bytes : List ℕ) → BitmapCause error bytes
    → HasBitmap bytes ⊎ ((fault : Error) × Lacks fault bytes)
says_either errors.NumBits bytes h = inr (errors.NumBits, h)
says_either errors.Length bytes h = inr (errors.Length, h)
says_either errors.Words bytes h = inr (errors.Words, h)
says_either errors.LastRun bytes h = inr (errors.LastRun, h)
says_either errors.Memory bytes h = inl h

pub bitmap_or_fault : (bytes : List ℕ) → HasBitmap bytes ⊎ ((fault : Error) × Lacks fault bytes)
bitmap_or_fault bytes = let some = some_length (length bytes) (declared_size bytes) in
    says_either some.0 bytes (length_says some.0 bytes some.1)

says_one : (error other : Error) (bytes : List ℕ) → BitmapCause error bytes → BitmapCause other bytes → error
    ≡ other
says_one error other bytes h k =
    one_length error other (length bytes) (declared_size bytes) (says_length error bytes h) (says_length other bytes k)

pub one_fault : (bytes : List ℕ) (fault other : Error) → Lacks fault bytes → Lacks other bytes → fault ≡ other
one_fault bytes fault other h k = says_one fault other bytes (lacks_says fault bytes h) (lacks_says other bytes k)

memory_lacks : (fault : Error) (bytes : List ℕ) → errors.Memory ≡ fault → Lacks fault bytes → ⊥
memory_lacks errors.Memory bytes e h = h
memory_lacks fault bytes e h = absurd cc

pub no_fault : (bytes : List ℕ) (fault : Error) → HasBitmap bytes → Lacks fault bytes → ⊥
no_fault bytes fault b h = memory_lacks fault bytes (says_one errors.Memory fault bytes b (lacks_says fault bytes h)) h
