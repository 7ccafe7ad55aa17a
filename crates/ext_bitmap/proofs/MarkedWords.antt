-- Runs of words and the literal words after them, found one after another.
use Rattle.std.proofs.Common.{◌≡◌, ℕ, zero, suc, ◌+◌, ◌-◌, ◌%◌, ◌^◌, ◌<◌, ◌≤◌, Bool, true, false, eqb, ◌⊎◌}
use Rattle.std.proofs.Common.{inl, inr, List, [], ◌∷◌, ◌++◌, length, take, drop, All, refl, sym, ap, subst, ◌∙◌, arith}
use Rattle.std.proofs.Common.{take-append-drop}
use Rattle.std.specs.Prelude.{replicate}
use Rattle.std.proofs.lemmas.Bool.{eq-eqb, ne_eqb}
use Rattle.std.proofs.lemmas.List.{drop-drop, length-take}
use Rattle.std.proofs.lemmas.List.Elements.{All-head, All-tail}
use Rattle.std.proofs.Math.Seq.{take-add}
use Rattle.ext_bitmap.specs.EncodedBitmap.{Marked, with_run_word, with_literal, with_word, as_runs}
use Rattle.ext_bitmap.specs.EncodingSteps.{IsLiteral, EndsWordRun, EndsLiterals, words_between}

-- ---- places among words

-- the words from a place on are those up to another, and those from there on
pub words_split : (words : List ℕ) (first end : ℕ) → first ≤ end
    → drop first words ≡ words_between first end words ++ drop end words
words_split words first end le =
    let there : first + (end - first) ≡ end = omega arith in
    sym (take-append-drop (end - first) (drop first words))
    ∙ ap (λ (l : List ℕ). words_between first end words ++ l)
    (drop-drop (end - first) first words ∙ ap (λ (n : ℕ). drop n words) there)

-- one word more
pub between_next : (words : List ℕ) (first end word : ℕ) (rest : List ℕ) → first ≤ end → drop end words ≡ word ∷ rest
    → words_between first (end + 1) words ≡ words_between first end words ++ word ∷ []
between_next words first end word rest le e =
    let more : end + 1 - first ≡ end - first + 1 = omega arith in
    let there : first + (end - first) ≡ end = omega arith in
    let behind : drop (end - first) (drop first words) ≡ word ∷ rest =
    drop-drop (end - first) first words ∙ ap (λ (n : ℕ). drop n words) there ∙ e in
    ap (λ (n : ℕ). take n (drop first words)) more ∙ take-add (end - first) 1 (drop first words)
    ∙ ap (λ (l : List ℕ). words_between first end words ++ take 1 l) behind

pub between_none : (words : List ℕ) (first : ℕ) → words_between first first words ≡ []
between_none words first = let none : first - first ≡ 0 = omega arith in rw none refl

-- ---- a run

replicate_more : (n word : ℕ) (rest : List ℕ) → replicate n word ++ word ∷ rest ≡ replicate (n + 1) word ++ rest
replicate_more zero word rest = refl
replicate_more (suc n) word rest =
    let more : suc (n + 1) ≡ suc n + 1 = omega arith in
    ap (λ (l : List ℕ). word ∷ l) (replicate_more n word rest) ∙ ap (λ (k : ℕ). replicate k word ++ rest) more

pub run_next : (words : List ℕ) (place end word : ℕ) → place ≤ end
    → drop place words ≡ replicate (end - place) word ++ drop end words
    → drop end words ≡ word ∷ drop (end + 1) words
    → drop place words ≡ replicate (end + 1 - place) word ++ drop (end + 1) words
run_next words place end word le e f =
    let more : end + 1 - place ≡ end - place + 1 = omega arith in
    e ∙ ap (λ (l : List ℕ). replicate (end - place) word ++ l) f
    ∙ replicate_more (end - place) word (drop (end + 1) words)
    ∙ ap (λ (n : ℕ). replicate n word ++ drop (end + 1) words) (sym more)

-- ---- what comes first among runs and literal words

-- literal words before others that begin with a run
abbrev front : List ℕ → List Marked → List Marked
front [] ms = ms
front (word ∷ words) ms = record { bit = 0; repetitions = 0; literals = word ∷ words } ∷ ms

-- a run of this bit comes first, if anything does
abbrev BeginsRun : List Marked → Type 0
BeginsRun [] = Unit {0}
BeginsRun (m ∷ ms) = 1 ≤ m.repetitions

some_not_zero : (n : ℕ) → 1 ≤ n → eqb n 0 ≡ false
some_not_zero n h = ne_eqb n 0 (λ e. omega (arith, e, h))

literal_before : (word : ℕ) (ms : List Marked) → BeginsRun ms
    → with_literal word ms ≡ record { bit = 0; repetitions = 0; literals = word ∷ [] } ∷ ms
unfolding with_literal
literal_before word [] h = refl
literal_before word (m ∷ ms) h = rw (some_not_zero m.repetitions h) refl

literal_front : (word : ℕ) (words : List ℕ) (ms : List Marked) → BeginsRun ms
    → with_literal word (front words ms) ≡ front (word ∷ words) ms
unfolding with_literal
literal_front word [] ms h = literal_before word ms h
literal_front word (w ∷ words) ms h = refl

literal_is : (word : ℕ) (ms : List Marked) → IsLiteral word → with_word word ms ≡ with_literal word ms
unfolding with_word
literal_is word ms h = rw (ne_eqb word 0 h.0, ne_eqb word (2 ^ 64 - 1) h.1) refl

run_is : (word : ℕ) (ms : List Marked) → (word ≡ 0) ⊎ (word ≡ 2 ^ 64 - 1)
    → with_word word ms ≡ with_run_word (word % 2) ms
unfolding with_word
run_is word ms (inl e) = rw e refl
run_is word ms (inr e) = rw e refl

-- ---- a run before others

record FirstRun (bit : ℕ) (ms : List Marked) : Type 0 where
  first : Marked
  others : List Marked
  parts : ms ≡ first ∷ others
  some : 1 ≤ first.repetitions
  bit_is : first.bit ≡ bit

first_by : (bit : ℕ) (m : Marked) (ms : List Marked) (s t : Bool) → eqb m.repetitions 0 ≡ s → eqb m.bit bit ≡ t
    → FirstRun bit (with_run_word bit (m ∷ ms))
unfolding with_run_word
first_by bit m ms true t e f = rw e (record {
  first = record { bit = bit; repetitions = 1; literals = m.literals };
  others = ms;
  parts = refl;
  some = omega arith;
  bit_is = refl;
})
first_by bit m ms false true e f = rw (e, f) (record {
  first = record { bit = bit; repetitions = m.repetitions + 1; literals = m.literals };
  others = ms;
  parts = refl;
  some = omega arith;
  bit_is = refl;
})
first_by bit m ms false false e f = rw (e, f) (record {
  first = record { bit = bit; repetitions = 1; literals = [] };
  others = m ∷ ms;
  parts = refl;
  some = omega arith;
  bit_is = refl;
})

first_run : (bit : ℕ) (ms : List Marked) → FirstRun bit (with_run_word bit ms)
unfolding with_run_word
first_run bit [] = record {
  first = record { bit = bit; repetitions = 1; literals = [] };
  others = [];
  parts = refl;
  some = omega arith;
  bit_is = refl;
}
first_run bit (m ∷ ms) = first_by bit m ms (eqb m.repetitions 0) (eqb m.bit bit) refl refl

marked_nil : as_runs [] ≡ []
unfolding as_runs
marked_nil = refl

marked_cons : (word : ℕ) (words : List ℕ) → as_runs (word ∷ words) ≡ with_word word (as_runs words)
unfolding as_runs
marked_cons word words = refl

-- words that no literal word comes first of
run_first : (word : ℕ) (words : List ℕ) → EndsLiterals (word ∷ words) → FirstRun (word % 2) (as_runs (word ∷ words))
run_first word words h =
    subst (FirstRun (word % 2)) (sym (marked_cons word words ∙ run_is word (as_runs words) h))
    (first_run (word % 2) (as_runs words))

begins_by : (bit : ℕ) (ms : List Marked) → FirstRun bit ms → BeginsRun ms
begins_by bit ms f = subst BeginsRun (sym f.parts) f.some

begins : (words : List ℕ) → EndsLiterals words → BeginsRun (as_runs words)
begins [] h = subst BeginsRun (sym marked_nil) tt
begins (word ∷ words) h = begins_by (word % 2) (as_runs (word ∷ words)) (run_first word words h)

-- ---- literal words

literals_marked : (literals words : List ℕ) → All IsLiteral literals → EndsLiterals words
    → as_runs (literals ++ words) ≡ front literals (as_runs words)
literals_marked [] words h ends = refl
literals_marked (word ∷ literals) words h ends =
    marked_cons word (literals ++ words)
    ∙ literal_is word (as_runs (literals ++ words)) (All-head IsLiteral word literals h)
    ∙ ap (with_literal word) (literals_marked literals words (All-tail IsLiteral word literals h) ends)
    ∙ literal_front word literals (as_runs words) (begins words ends)

-- ---- a run and its literal words

grows : (bit n : ℕ) (literals : List ℕ) (ms : List Marked) → 1 ≤ n
    → with_run_word bit (record { bit = bit; repetitions = n; literals = literals } ∷ ms)
    ≡ record { bit = bit; repetitions = n + 1; literals = literals } ∷ ms
unfolding with_run_word
grows bit n literals ms h = rw (some_not_zero n h, eq-eqb bit bit refl) refl

other_run : (bit : ℕ) (m : Marked) (ms : List Marked) → 1 ≤ m.repetitions → (m.bit ≡ bit → ⊥)
    → with_run_word bit (m ∷ ms) ≡ record { bit = bit; repetitions = 1; literals = [] } ∷ (m ∷ ms)
unfolding with_run_word
other_run bit m ms h other = rw (some_not_zero m.repetitions h, ne_eqb m.bit bit other) refl

before_run : (bit : ℕ) (ms : List Marked) (other : ℕ) → FirstRun other ms → (other ≡ bit → ⊥)
    → with_run_word bit ms ≡ record { bit = bit; repetitions = 1; literals = [] } ∷ ms
before_run bit ms other f h =
    ap (with_run_word bit) f.parts ∙ other_run bit f.first f.others f.some (λ e. h (sym f.bit_is ∙ e))
    ∙ ap (λ (l : List Marked). record { bit = bit; repetitions = 1; literals = [] } ∷ l) (sym f.parts)

before_nil : (bit : ℕ) → with_run_word bit [] ≡ record { bit = bit; repetitions = 1; literals = [] } ∷ []
unfolding with_run_word
before_nil bit = refl

before_literals : (bit word : ℕ) (words : List ℕ) (ms : List Marked)
    → with_run_word bit (front (word ∷ words) ms) ≡ record { bit = bit; repetitions = 1; literals = word ∷ words } ∷ ms
unfolding with_run_word
before_literals bit word words ms = refl

-- the lowest bits of two such words differ as they do
same_bits : (v w : ℕ) → (v ≡ 0) ⊎ (v ≡ 2 ^ 64 - 1) → (w ≡ 0) ⊎ (w ≡ 2 ^ 64 - 1) → v % 2 ≡ w % 2 → v ≡ w
same_bits v w (inl e) (inl f) h = e ∙ sym f
same_bits v w (inl e) (inr f) h = absurd (omega (arith, e, f, h))
same_bits v w (inr e) (inl f) h = absurd (omega (arith, e, f, h))
same_bits v w (inr e) (inr f) h = e ∙ sym f

-- one word of a run before what ends it
run_begins : (word : ℕ) (literals words : List ℕ) → (word ≡ 0) ⊎ (word ≡ 2 ^ 64 - 1)
    → EndsWordRun word (literals ++ words) → EndsLiterals words
    → with_run_word (word % 2) (front literals (as_runs words))
    ≡ record { bit = word % 2; repetitions = 1; literals = literals } ∷ as_runs words
run_begins word [] [] h ends k =
    subst (λ (ms : List Marked). with_run_word (word % 2) ms
    ≡ record { bit = word % 2; repetitions = 1; literals = [] } ∷ ms) (sym marked_nil) (before_nil (word % 2))
run_begins word [] (w ∷ words) h ends k =
    before_run (word % 2) (as_runs (w ∷ words)) (w % 2) (run_first w words k) (λ e. ends (same_bits w word k h e))
run_begins word (l ∷ literals) words h ends k = before_literals (word % 2) l literals (as_runs words)

run_marked : (n word : ℕ) (literals words : List ℕ) → (word ≡ 0) ⊎ (word ≡ 2 ^ 64 - 1) → All IsLiteral literals
    → EndsWordRun word (literals ++ words) → EndsLiterals words
    → as_runs (replicate (suc n) word ++ (literals ++ words))
    ≡ record { bit = word % 2; repetitions = suc n; literals = literals } ∷ as_runs words
run_marked zero word literals words h are ends k =
    marked_cons word (literals ++ words) ∙ run_is word (as_runs (literals ++ words)) h
    ∙ ap (with_run_word (word % 2)) (literals_marked literals words are k)
    ∙ run_begins word literals words h ends k
run_marked (suc n) word literals words h are ends k =
    let more : suc n + 1 ≡ suc (suc n) = omega arith in
    marked_cons word (replicate (suc n) word ++ (literals ++ words))
    ∙ run_is word (as_runs (replicate (suc n) word ++ (literals ++ words))) h
    ∙ ap (with_run_word (word % 2)) (run_marked n word literals words h are ends k)
    ∙ grows (word % 2) (suc n) literals (as_runs words) (omega arith)
    ∙ ap (λ (i : ℕ). record { bit = word % 2; repetitions = i; literals = literals } ∷ as_runs words) more

-- ---- at a place

-- no run, but literal words
pub literals_at : (words : List ℕ) (place end word : ℕ) (rest : List ℕ) → drop place words ≡ word ∷ rest
    → IsLiteral word → place ≤ end → All IsLiteral (words_between place end words) → EndsLiterals (drop end words)
    → (place < end) × (as_runs (drop place words)
    ≡ record { bit = 0; repetitions = 0; literals = words_between place end words } ∷ as_runs (drop end words))
literals_at words place end word rest e literal le are ends =
    by (words_between place end words) refl
  where
    split : drop place words ≡ words_between place end words ++ drop end words
    split = words_split words place end le

    by : (l : List ℕ) → words_between place end words ≡ l
        → (place < end) × (as_runs (drop place words)
        ≡ record { bit = 0; repetitions = 0; literals = words_between place end words } ∷ as_runs (drop end words))
    by [] f =
        let same : word ∷ rest ≡ drop end words = sym e ∙ split ∙ ap (λ (l : List ℕ). l ++ drop end words) f in
        let empty : EndsLiterals (word ∷ rest) = subst EndsLiterals (sym same) ends in
        absurd (elim empty [ inl z ↦ literal.0 z | inr m ↦ literal.1 m ])
    by (w ∷ l) f =
        let some : place < end = omega (arith, ap length f, length-take (end - place) (drop place words)) in (
          some,
          ap as_runs split ∙ literals_marked (words_between place end words) (drop end words) are ends
              ∙ ap (λ (x : List ℕ). front x (as_runs (drop end words))) f
              ∙ ap (λ (x : List ℕ). record { bit = 0; repetitions = 0; literals = x } ∷ as_runs (drop end words)) (sym f),
        )

-- a run, and the literal words after it
pub run_at : (words : List ℕ) (place literals end word : ℕ) (rest : List ℕ) → drop place words ≡ word ∷ rest
    → (word ≡ 0) ⊎ (word ≡ 2 ^ 64 - 1) → place ≤ literals → literals ≤ end
    → drop place words ≡ replicate (literals - place) word ++ drop literals words
    → EndsWordRun word (drop literals words) → All IsLiteral (words_between literals end words)
    → EndsLiterals (drop end words)
    → (place < literals) × (as_runs (drop place words) ≡ record {
      bit = word % 2;
      repetitions = literals - place;
      literals = words_between literals end words;
    } ∷ as_runs (drop end words))
run_at words place literals end word rest e h le further run ends are stops = by (literals - place) refl
  where
    split : drop literals words ≡ words_between literals end words ++ drop end words
    split = words_split words literals end further

    behind : EndsWordRun word (words_between literals end words ++ drop end words)
    behind = subst (EndsWordRun word) split ends

    by : (n : ℕ) → literals - place ≡ n → (place < literals) × (as_runs (drop place words) ≡ record {
      bit = word % 2;
      repetitions = literals - place;
      literals = words_between literals end words;
    } ∷ as_runs (drop end words))
    by zero f =
        let same : word ∷ rest ≡ drop literals words =
        sym e ∙ run ∙ ap (λ (n : ℕ). replicate n word ++ drop literals words) f in
        let other : EndsWordRun word (word ∷ rest) = subst (EndsWordRun word) (sym same) ends in
        absurd (other refl)
    by (suc n) f = (
      omega (arith, f),
      ap as_runs (run ∙ ap (λ (k : ℕ). replicate k word ++ drop literals words) f
          ∙ ap (λ (l : List ℕ). replicate (suc n) word ++ l) split)
          ∙ run_marked n word (words_between literals end words) (drop end words) h are behind stops
          ∙ ap (λ (k : ℕ). record {
            bit = word % 2;
            repetitions = k;
            literals = words_between literals end words;
          } ∷ as_runs (drop end words)) (sym f),
    )
