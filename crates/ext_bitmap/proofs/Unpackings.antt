-- What words encode, and that it is one list of bits.
use Rattle.std.proofs.Common.{◌≡◌, ℕ, zero, suc, ◌<◌, ◌≤◌, nat_le, true, false, cond, ◌⊎◌, inl, inr, List, [], ◌∷◌}
use Rattle.std.proofs.Common.{◌++◌, length, take, drop, All, refl, sym, ap, ◌∙◌, arith, append_assoc, length-drop}
use Rattle.std.specs.List.{flat_map}
use Rattle.std.proofs.lemmas.Bool.Decides.{nat_tests}
use Rattle.std.proofs.lemmas.List.{take_at, drop_at, take-append-drop, length-append, length-take}
use Rattle.std.proofs.lemmas.List.Elements.{All-nil, All-cons, All-head, All-tail}
use Rattle.ext_bitmap.specs.Bits.{Bit, broken, word_bits, run_bits, literal_count, Chunk, chunk_words, chunk_bits}
use Rattle.ext_bitmap.specs.Bits.{IsWhole, IsEnd, StandFor}
use Rattle.ext_bitmap.specs.UnpackingSteps.{unpacked_within, unpacked}

within_same : (f g : ℕ) (words : List ℕ) → length words ≤ f → length words ≤ g → unpacked_within f words
    ≡ unpacked_within g words
within_same zero zero words h k = refl
within_same zero (suc g) [] h k = refl
within_same zero (suc g) (w ∷ words) h k = absurd (omega arith)
within_same (suc f) zero [] h k = refl
within_same (suc f) zero (w ∷ words) h k = absurd (omega arith)
within_same (suc f) (suc g) [] h k = refl
within_same (suc f) (suc g) (w ∷ words) h k =
    let n : length (drop (literal_count w) words) ≤ length words = omega (arith, length-drop (literal_count w) words) in
    rw (within_same f g (drop (literal_count w) words) (omega arith) (omega arith)) refl

pub unpacked-nil : unpacked [] ≡ []
unfolding unpacked
unpacked-nil = refl

-- the bits after those of a run
abbrev pub behind_run : ℕ → List ℕ → List Bit
behind_run run words = cond (nat_le (literal_count run) (length words))
    (flat_map word_bits (take (literal_count run) words) ++ unpacked (drop (literal_count run) words)) (broken ∷ [])

pub unpacked-cons : (run : ℕ) (words : List ℕ) → unpacked (run ∷ words) ≡ run_bits run ++ behind_run run words
unfolding unpacked
unpacked-cons run words =
    let n : length (drop (literal_count run) words) ≤ length words =
    omega (arith, length-drop (literal_count run) words) in
    rw (within_same (length words) (length (drop (literal_count run) words)) (drop (literal_count run) words) n
    (omega arith)) refl

pub behind_whole : (run : ℕ) (words : List ℕ) → literal_count run ≤ length words → behind_run run words
    ≡ flat_map word_bits (take (literal_count run) words) ++ unpacked (drop (literal_count run) words)
behind_whole run words h = let e : nat_le (literal_count run) (length words) ≡ true = grind (arith, nat_tests) in
    rw e refl

pub behind_broken : (run : ℕ) (words : List ℕ) → length words < literal_count run → behind_run run words ≡ broken ∷ []
behind_broken run words h = let e : nat_le (literal_count run) (length words) ≡ false = grind (arith, nat_tests) in
    rw e refl

-- ---- words encode what is unpacked from them

-- a whole chunk before words
with_chunk : (run : ℕ) (literals words : List ℕ) (bits : List Bit) → length literals ≡ literal_count run
    → StandFor words bits → StandFor (run ∷ (literals ++ words)) (run_bits run ++ (flat_map word_bits literals ++ bits))
with_chunk run literals words bits len s =
    let chunk : Chunk = record { run = run; literals = literals } in
    record {
      chunks = chunk ∷ s.chunks;
      last = s.last;
      last_bits = s.last_bits;
      parts = ap (λ (rest : List ℕ). run ∷ (literals ++ rest)) s.parts
          ∙ sym (append_assoc (run ∷ literals) (flat_map chunk_words s.chunks) s.last);
      whole = All-cons IsWhole chunk s.chunks len s.whole;
      is_end = s.is_end;
      joined = ap (λ (rest : List Bit). run_bits run ++ (flat_map word_bits literals ++ rest)) s.joined
          ∙ sym (append_assoc (run_bits run) (flat_map word_bits literals)
          (flat_map chunk_bits s.chunks ++ s.last_bits))
          ∙ sym (append_assoc (chunk_bits chunk) (flat_map chunk_bits s.chunks) s.last_bits);
    }

no_words : StandFor [] []
no_words = record {
  chunks = [];
  last = [];
  last_bits = [];
  parts = refl;
  whole = All-nil IsWhole;
  is_end = refl;
  joined = refl;
}

short_chunk : (run : ℕ) (literals : List ℕ) → length literals < literal_count run
    → StandFor (run ∷ literals) (run_bits run ++ broken ∷ [])
short_chunk run literals few = record {
  chunks = [];
  last = run ∷ literals;
  last_bits = run_bits run ++ broken ∷ [];
  parts = refl;
  whole = All-nil IsWhole;
  is_end = (few, refl);
  joined = refl;
}

pub le_or_lt : (m n : ℕ) → (m ≤ n) ⊎ (n < m)
le_or_lt m n = elim (nat_le m n) as (λ t. nat_le m n ≡ t → (m ≤ n) ⊎ (n < m))
    [ true ↦ λ e. inl (grind (arith, nat_tests)) | false ↦ λ e. inr (grind (arith, nat_tests)) ] refl

stands_within : (most : ℕ) (words : List ℕ) → length words ≤ most → StandFor words (unpacked words)
stands_within most [] h = rw unpacked-nil no_words
stands_within zero (run ∷ words) h = absurd (omega arith)
stands_within (suc most) (run ∷ words) h =
    let count = literal_count run in
    rw (unpacked-cons run words) (elim (le_or_lt count (length words)) [
      | inl fits ↦
          let len : length (take count words) ≡ count = omega (arith, length-take count words) in
          let s = stands_within most (drop count words) (omega (arith, length-drop count words)) in
          let t = with_chunk run (take count words) (drop count words) (unpacked (drop count words)) len s in
          rw (behind_whole run words fits) (rw (take-append-drop count words) at t)
      | inr few ↦ rw (behind_broken run words few) (short_chunk run words few)
    ])

-- words encode some bits
pub stand_for_unpacked : (words : List ℕ) → StandFor words (unpacked words)
stand_for_unpacked words = stands_within (length words) words (omega arith)

-- ---- and for nothing else

unpacked-chunk : (run : ℕ) (literals words : List ℕ) → length literals ≡ literal_count run
    → unpacked (run ∷ (literals ++ words)) ≡ run_bits run ++ (flat_map word_bits literals ++ unpacked words)
unpacked-chunk run literals words len =
    let fits : literal_count run ≤ length (literals ++ words) = omega (arith, length-append literals words) in
    unpacked-cons run (literals ++ words)
    ∙ rw (
      behind_whole run (literals ++ words) fits,
      take_at literals words (literal_count run) len,
      drop_at literals words (literal_count run) len,
    ) refl

unpacked-chunks : (chunks : List Chunk) (last : List ℕ) → All IsWhole chunks
    → unpacked (flat_map chunk_words chunks ++ last) ≡ flat_map chunk_bits chunks ++ unpacked last
unpacked-chunks [] last h = refl
unpacked-chunks (chunk ∷ chunks) last h =
    let rest = flat_map chunk_words chunks in
    let behind = flat_map chunk_bits chunks in
    let literals = flat_map word_bits chunk.literals in
    ap unpacked (append_assoc (chunk_words chunk) rest last)
    ∙ unpacked-chunk chunk.run chunk.literals (rest ++ last) (All-head IsWhole chunk chunks h)
    ∙ ap (λ (bits : List Bit). run_bits chunk.run ++ (literals ++ bits))
    (unpacked-chunks chunks last (All-tail IsWhole chunk chunks h))
    ∙ sym (append_assoc (run_bits chunk.run) literals (behind ++ unpacked last))
    ∙ sym (append_assoc (chunk_bits chunk) behind (unpacked last))

unpacked_end : (last : List ℕ) (bits : List Bit) → IsEnd last bits → unpacked last ≡ bits
unpacked_end [] bits h = unpacked-nil ∙ sym h
unpacked_end (run ∷ literals) bits h = unpacked-cons run literals
    ∙ ap (λ (rest : List Bit). run_bits run ++ rest) (behind_broken run literals h.0) ∙ sym h.1

pub unpacked_is : (words : List ℕ) (bits : List Bit) → StandFor words bits → unpacked words ≡ bits
unpacked_is words bits s = ap unpacked s.parts ∙ unpacked-chunks s.chunks s.last s.whole
    ∙ ap (λ (rest : List Bit). flat_map chunk_bits s.chunks ++ rest) (unpacked_end s.last s.last_bits s.is_end)
    ∙ sym s.joined

-- words encode one list of bits
pub one_unpacking : (words : List ℕ) (a b : List Bit) → StandFor words a → StandFor words b → a ≡ b
one_unpacking words a b s t = sym (unpacked_is words a s) ∙ unpacked_is words b t
