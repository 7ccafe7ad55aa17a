-- Bytes that are collected before they are written as one piece (the library's own).
use Rattle.std.specs.Prelude.{◌≡◌, ℕ, List, ◌++◌, take, Bool, false}
use Rattle.index_parts.specs.Taking.{Took}
use Rattle.index_parts.specs.declared.hash.io.Out.{Ghosts}

-- the bytes, and whether a piece was rejected for lack of room
pub record Gathered : Type 0 where
  pub bytes : List ℕ
  pub is_full : Bool

-- the first bytes alone, with room after them
abbrev pub cut_to : Gathered → ℕ → Gathered
cut_to g len = record { bytes = take len g.bytes; is_full = false }

-- Of these bytes a writer took all except the last ones, which are still held.
pub record Gathers {S : Type 0} (writer : Ghosts S) (old new : S) (held bytes : List ℕ) : Type 0 where
  pub gone : List ℕ
  pub took : Took writer.taken writer.hashed old new gone
  pub parts : bytes ≡ gone ++ held
  pub failed : writer.failed new ≡ writer.failed old
  pub loan : writer.loan new ≡ writer.loan old
