-- The result of writing the trees of a list: the directory of which they are made, or why there is none
-- (git-write-tree).
use Rattle.std.specs.Prelude.{◌≡◌, ◌<◌, ◌^◌, All, List, length, Result, Ok, Err}
use Rattle.index_parts.specs.declared.hash.Kind.{Kind}
use Rattle.entry_list.specs.Order.{IsStrictlyOrdered}
use Rattle.entry_list.specs.Record.{IsSized, Record}
use Rattle.tree_encode.specs.Directory.{DirectoryItems, IsTreeOf}
use Rattle.tree_encode.specs.Refusals.{AreFit, NameCheck, AreRefused, Refusal}
use Rattle.tree_encode.specs.Staged.{staged_in}

-- a directory, which determines the objects, their ids and the cache tree; or a rejection, which names its paths
abbrev pub TreesAnswer : Type 0
TreesAnswer = Result DirectoryItems Refusal

-- If a cache tree can count the records and none is invalid, it is the directory whose leaves are the staged ones.
-- Otherwise it is the first rejection.
abbrev pub IsTreesAnswer : NameCheck → Kind → List Record → TreesAnswer → Type 0
IsTreesAnswer check kind rs (Ok items) =
    (length rs < 2 ^ 31) × AreFit check kind rs × IsTreeOf kind (staged_in rs) items
IsTreesAnswer check kind rs (Err refusal) = AreRefused check kind rs refusal

-- whatever a check returns, records that strictly increase, and whose ids have the length of their hash algorithm, have
-- an answer
abbrev pub AllHaveTreesAnswer : Type 0
AllHaveTreesAnswer =
    (check : NameCheck) (kind : Kind) (rs : List Record) → IsStrictlyOrdered rs → All IsSized rs
    → (a : TreesAnswer) × IsTreesAnswer check kind rs a

-- records that strictly increase have at most one answer
abbrev pub AllHaveOneTreesAnswer : Type 0
AllHaveOneTreesAnswer =
    (check : NameCheck) (kind : Kind) (rs : List Record) → IsStrictlyOrdered rs → (a b : TreesAnswer)
    → IsTreesAnswer check kind rs a → IsTreesAnswer check kind rs b → a ≡ b
