-- What the encoder of a bitmap finds at an index among words (git's bitmap-format document, "Serialization format for
-- an EWAH bitmap"). Public clauses cite none of these.
use Rattle.std.specs.Prelude.{◌≡◌, ◌≢◌, ◌⊎◌, ℕ, ◌+◌, ◌-◌, ◌^◌, ◌≤◌, List, [], ◌∷◌, ◌++◌, All, length, take, drop}
use Rattle.std.specs.Prelude.{replicate}
use Rattle.ext_bitmap.specs.EncodedBitmap.{Marked}
use Rattle.ext_bitmap.specs.declared.encoding.Chunk.{Chunk}

-- its bits aren't all equal
abbrev pub IsLiteral : ℕ → Type 0
IsLiteral word = (word ≢ 0) × (word ≢ 2 ^ 64 - 1)

-- a run of this word ends before these words
abbrev pub EndsWordRun : ℕ → List ℕ → Type 0
EndsWordRun word [] = Unit {0}
EndsWordRun word (w ∷ words) = w ≢ word

-- no literal word comes first
abbrev pub EndsLiterals : List ℕ → Type 0
EndsLiterals [] = Unit {0}
EndsLiterals (word ∷ words) = (word ≡ 0) ⊎ (word ≡ 2 ^ 64 - 1)

-- the words from one index up to another
abbrev pub words_between : ℕ → ℕ → List ℕ → List ℕ
words_between first end words = take (end - first) (drop first words)

-- all words from one index up to another are equal to `word`, and the next one isn't
pub record IsWordRun (word first end : ℕ) (words : List ℕ) : Type 0 where
  pub run : drop first words ≡ replicate (end - first) word ++ drop end words
  pub ends : EndsWordRun word (drop end words)
  pub behind : first ≤ end
  pub inside : first ≤ length words → end ≤ length words

-- all words from one index up to another are literal, and the next one isn't
pub record AreLiterals (first end : ℕ) (words : List ℕ) : Type 0 where
  pub literal : All IsLiteral (words_between first end words)
  pub ends : EndsLiterals (drop end words)
  pub behind : first ≤ end
  pub inside : first ≤ length words → end ≤ length words

-- a run and its literal words, which are among these words
abbrev pub marked_at : List ℕ → Chunk → Marked
marked_at words c =
    record { bit = c.bit; repetitions = c.repetitions; literals = words_between c.literals c.end words }

-- the position of the last run word of these runs after `before` words of the compressed form, or `last` if there are
-- no runs
abbrev pub last_behind : ℕ → ℕ → List Marked → ℕ
last_behind before last [] = last
last_behind before last (m ∷ ms) = last_behind (before + 1 + length m.literals) before ms
