-- The bytes that a writer took of those that it was given, and that a hasher over it took in (`std::io::Write`: a call
-- that fails may have taken a prefix).
use Rattle.std.specs.Prelude.{◌≡◌, ℕ, List, ◌∷◌, ◌++◌, MatchResult, Option, Result}
use Rattle.std.specs.List.{concat}
use Rattle.std.specs.Io.KnownBytes.{Appends}
use Rattle.index_parts.specs.declared.hash.Kind.{Kind}

-- the bytes taken, if they are known, grew by a prefix of these
pub record AppendsPrefix (old new : Option (List ℕ)) (bytes : List ℕ) : Type 0 where
  pub prefix : List ℕ
  pub rest : List ℕ
  pub parts : bytes ≡ prefix ++ rest
  pub taken : Appends old new prefix

-- each hasher took in these bytes after those that it had, for each hash algorithm; the nearest hasher has depth 0
abbrev pub Hashes : {S : Type 0} → (S → ℕ → Kind → List ℕ → Type 0) → S → S → List ℕ → Type 0
Hashes hashed old new bytes = (depth : ℕ) (k : Kind) (m : List ℕ) → hashed old depth k m
    → hashed new depth k (m ++ bytes)

-- each hasher has taken in exactly what it had before
abbrev pub KeepsHashed : {S : Type 0} → (S → ℕ → Kind → List ℕ → Type 0) → S → S → Type 0
KeepsHashed hashed old new = (depth : ℕ) (k : Kind) (m : List ℕ) → hashed old depth k m → hashed new depth k m

-- these bytes were taken, and were hashed
pub record Took {S : Type 0} (taken : S → Option (List ℕ)) (hashed : S → ℕ → Kind → List ℕ → Type 0) (old new : S)
    (bytes : List ℕ) : Type 0 where
  pub grew : Appends (taken old) (taken new) bytes
  pub into_hash : Hashes hashed old new bytes

-- after Ok all of these bytes were taken, after Err a prefix of them
abbrev pub Takes : {S T E : Type 0} → (S → Option (List ℕ)) → (S → ℕ → Kind → List ℕ → Type 0) → S → S → Result T E
    → List ℕ → Type 0
Takes taken hashed old new r bytes =
    MatchResult r (λ _. Took taken hashed old new bytes) (λ _. AppendsPrefix (taken old) (taken new) bytes)

-- The first of the pieces were taken completely, and of the next one a prefix. The hasher took in those that were taken
-- completely.
pub record Breaks {S : Type 0} (taken : S → Option (List ℕ)) (hashed : S → ℕ → Kind → List ℕ → Type 0) (old new : S)
    (pieces : List (List ℕ)) : Type 0 where
  pub whole : List (List ℕ)
  pub prefix : List ℕ
  pub rest : List ℕ
  pub after : List (List ℕ)
  pub parts : pieces ≡ whole ++ (prefix ++ rest) ∷ after
  pub grew : Appends (taken old) (taken new) (concat whole ++ prefix)
  pub into_hash : Hashes hashed old new (concat whole)
