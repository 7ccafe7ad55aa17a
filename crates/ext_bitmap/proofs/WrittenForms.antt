-- The compressed form of words as bytes, one piece after another.
use Rattle.std.proofs.Common.{◌≡◌, ℕ, suc, ◌+◌, ◌-◌, ◌*◌, ◌^◌, ◌<◌, ◌≤◌, List, [], ◌∷◌, ◌++◌, length, take, drop}
use Rattle.std.proofs.Common.{Result, Ok, Err, refl, sym, ap, ◌∙◌, arith, append_assoc}
use Rattle.std.specs.Prelude.{IsErr}
use Rattle.std.specs.List.{flat_map}
use Rattle.std.proofs.lemmas.Grind.{flat_map-append}
use Rattle.std.proofs.lemmas.List.{drop-drop, length-drop, length-take}
use Rattle.std.proofs.Math.Seq.{take-add}
use Rattle.index_parts.proofs.Puts.{puts_stopped_after}
use Rattle.index_parts.specs.Numbers.{be32}
use Rattle.index_parts.specs.Puts.{Puts}
use Rattle.index_parts.specs.declared.hash.io.Out.{Ghosts}
use Rattle.ext_bitmap.specs.BitmapImage.{be64, last_run, bitmap_bytes}
use Rattle.ext_bitmap.specs.EncodedBitmap.{Marked, as_runs, marked_words, encoded_words, bitmap_of_words}
use Rattle.ext_bitmap.specs.EncodingSteps.{words_between, marked_at}
use Rattle.ext_bitmap.specs.declared.encoding.Chunk.{Chunk}
use Rattle.ext_bitmap.proofs.EncodedForms.{chunk_bytes}
use Rattle.ext_bitmap.proofs.MarkedWords.{between_next}
use Rattle.ext_bitmap.proofs.WrittenBitmaps.{bitmap_parts}

-- after a call that took all its bytes, one that didn't
pub stopped_behind : {S T E U V F : Type 0} {w : Ghosts S} {a b c : S} {x : V} {e : F} (r : Result T E)
    {xs ys all : List ℕ} (rest : List ℕ) → IsErr r → (xs ++ ys) ++ rest ≡ all
    → Puts {T = V} {E = F} w a b (Ok x) xs → Puts {T = U} {E = F} w b c (Err e) ys → Puts w a c r all
stopped_behind r rest h whole p q = puts_stopped_after r rest h whole p.takes p.loan q

-- ---- literal words

between_first : (words : List ℕ) (place end word : ℕ) (rest : List ℕ) → place < end → drop place words ≡ word ∷ rest
    → rest ≡ drop (place + 1) words → words_between place end words ≡ word ∷ words_between (place + 1) end words
between_first words place end word rest lt e f =
    let more : end - place ≡ suc (end - (place + 1)) = omega arith in
    ap (λ (n : ℕ). take n (drop place words)) more ∙ ap (take (suc (end - (place + 1)))) e
    ∙ ap (λ (l : List ℕ). word ∷ take (end - (place + 1)) l) f

between_split : (words : List ℕ) (first place end : ℕ) → first ≤ place → place ≤ end
    → words_between first end words ≡ words_between first place words ++ words_between place end words
between_split words first place end le further =
    let sum : end - first ≡ (place - first) + (end - place) = omega arith in
    let there : first + (place - first) ≡ place = omega arith in
    ap (λ (n : ℕ). take n (drop first words)) sum ∙ take-add (place - first) (end - place) (drop first words)
    ∙ ap (λ (l : List ℕ). words_between first place words ++ take (end - place) l)
    (drop-drop (place - first) first words ∙ ap (λ (n : ℕ). drop n words) there)

-- the words before an index, the one at it, and those after it
pub between_rest : (words : List ℕ) (first place end word : ℕ) → first ≤ place → place < end
    → drop place words ≡ word ∷ drop (place + 1) words
    → (flat_map be64 (words_between first place words) ++ be64 word)
    ++ flat_map be64 (words_between (place + 1) end words) ≡ flat_map be64 (words_between first end words)
between_rest words first place end word le lt e =
    append_assoc (flat_map be64 (words_between first place words)) (be64 word)
    (flat_map be64 (words_between (place + 1) end words))
    ∙ sym (ap (flat_map be64) (between_split words first place end le (omega (arith, lt))
    ∙ ap (λ (l : List ℕ). words_between first place words ++ l)
    (between_first words place end word (drop (place + 1) words) lt e refl))
    ∙ flat_map-append be64 (words_between first place words) (word ∷ words_between (place + 1) end words))

pub words_taken : (words : List ℕ) (first place word : ℕ) (rest : List ℕ) → first ≤ place
    → drop place words ≡ word ∷ rest
    → flat_map be64 (words_between first place words) ++ be64 word
    ≡ flat_map be64 (words_between first (place + 1) words)
words_taken words first place word rest le e =
    sym (ap (flat_map be64) (between_next words first place word rest le e)
    ∙ flat_map-append be64 (words_between first place words) (word ∷ []))

-- ---- a run and its literal words

between_len : (words : List ℕ) (first end : ℕ) → first ≤ end → end ≤ length words
    → length (words_between first end words) ≡ end - first
between_len words first end le inside =
    omega (arith, length-take (end - first) (drop first words), length-drop first words)

pub chunk_parts : (words : List ℕ) (c : Chunk) → c.literals ≤ c.end → c.end ≤ length words
    → be64 (c.bit + 2 * c.repetitions + 2 ^ 33 * (c.end - c.literals))
    ++ flat_map be64 (words_between c.literals c.end words) ≡ flat_map be64 (marked_words (marked_at words c))
chunk_parts words c le inside = ap (λ (n : ℕ). be64 (c.bit + 2 * c.repetitions + 2 ^ 33 * n)
    ++ flat_map be64 (words_between c.literals c.end words)) (sym (between_len words c.literals c.end le inside))

-- what was taken, a chunk, and the rest
pub chunk_rest : (words later done all : List ℕ) (m : Marked) → as_runs words ≡ m ∷ as_runs later
    → done ++ flat_map be64 (flat_map marked_words (as_runs words)) ≡ all
    → (done ++ flat_map be64 (marked_words m)) ++ flat_map be64 (flat_map marked_words (as_runs later)) ≡ all
chunk_rest words later done all m e whole =
    append_assoc done (flat_map be64 (marked_words m)) (flat_map be64 (flat_map marked_words (as_runs later)))
    ∙ ap (λ (l : List ℕ). done ++ l) (sym (chunk_bytes words later m e)) ∙ whole

-- ---- a bitmap

pub form_parts : (num_bits : ℕ) (words : List ℕ) (count last : ℕ) → count ≡ length (encoded_words words)
    → last ≡ last_run (encoded_words words)
    → be32 num_bits ++ (be32 count ++ (flat_map be64 (encoded_words words) ++ be32 last))
    ≡ bitmap_bytes (bitmap_of_words num_bits words)
form_parts num_bits words count last e f =
    ap (λ (n : ℕ). be32 num_bits ++ (be32 n ++ (flat_map be64 (encoded_words words) ++ be32 last))) e
    ∙ ap (λ (n : ℕ). be32 num_bits
    ++ (be32 (length (encoded_words words)) ++ (flat_map be64 (encoded_words words) ++ be32 n))) f
    ∙ bitmap_parts (bitmap_of_words num_bits words)
