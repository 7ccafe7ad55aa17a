-- What a call that puts trees into a caller's rooms returns, and what it leaves there (the library's own).
use Rattle.std.specs.Prelude.{◌≡◌, ◌≤◌, ◌<◌, ◌⊎◌, ℕ, Bool, true, false, List, length, Some, Result, IfErr, IfOk}
use Rattle.gix_index.specs.Kind.{Kind}
use Rattle.capi_table.specs.declared.row.Row.{Row}
use Rattle.capi_table.specs.declared.write.Fault.{Fault}
use Rattle.capi_table.specs.Blaming.{HasNoTrees}
use Rattle.capi_table.specs.Collecting.{collected}
use Rattle.capi_table.specs.Trees.{HoldTrees, IfNoTreeRoom, IfTreesRejected, MakesTrees, Objects, PassRoom}
use Rattle.capi_table.specs.declared.collected.Collected.{Collected}
use Rattle.capi_table.specs.declared.trees.Counts.{Counts}
use Rattle.capi_table.specs.declared.trees.Tree.{Tree}
use Rattle.capi_table.specs.declared.trees.Unmade.{Unmade}

-- whether one of the rooms has less than the trees need
pub record TreesRoomTest (counts : Counts) (trees : List Tree) (bytes : List ℕ) (lacks : Bool) : Type 0 where
  pub small : lacks ≡ true → (length trees < counts.trees) ⊎ (length bytes < counts.bytes)
  pub trees_fit : lacks ≡ false → counts.trees ≤ length trees
  pub bytes_fit : lacks ≡ false → counts.bytes ≤ length bytes

-- What is returned if objects are put into rooms. Ok: their counts, and the rooms hold them. Err: their counts, as a
-- room is too small; or the error; or that memory ran out. After an error both rooms are as they were.
pub record PutWith (Given : (Objects → Type 0) → Type 0) (Refuses : Fault → Type 0) (old new : List Tree)
    (before after : List ℕ) (r : Result Counts Unmade) : Type 0 where
  pub done : IfOk r (λ told. Given (HoldTrees told old new before after))
  pub refused : IfTreesRejected r Refuses
  pub no_room : IfNoTreeRoom r (λ told. Given (PassRoom told old before))
  pub trees : IfErr r (λ _. new ≡ old)
  pub bytes : IfErr r (λ _. after ≡ before)

-- the result of putting the objects that are collected; none is rejected
abbrev pub PutsCollected : Collected → List Tree → List Tree → List ℕ → List ℕ → Result Counts Unmade → Type 0
PutsCollected c old new before after r =
    PutWith (λ P. (os : Objects) → collected c ≡ Some os → P os) (λ fault. ⊥) old new before after r

-- the result of putting the objects that a table makes
abbrev pub WritesTrees : Kind → List ℕ → List Row → List Tree → List Tree → List ℕ → List ℕ → Result Counts Unmade
    → Type 0
WritesTrees kind paths rows old new before after r =
    PutWith (MakesTrees kind paths rows) (HasNoTrees kind paths rows) old new before after r
