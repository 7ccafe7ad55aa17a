-- Whether a cached tree has what the entries give: each directory's id, and the number of entries below it
-- (gitformat-index, "Cache tree").
use Rattle.std.specs.Prelude.{◌≡◌, ◌≢◌, ◌⊎◌, ℕ, ◌==◌, List, [], ◌∷◌, ◌++◌, All, false, Option, Some, None, IfSome}
use Rattle.std.specs.Prelude.{if◌then◌else◌}
use Rattle.std.specs.List.{filter_map}
use Rattle.std.specs.Option.{option_and_then, option_map}
use Rattle.bstr.specs.Owned.{bstring_bytes}
use Rattle.index_parts.specs.declared.hash.Kind.{Kind}
use Rattle.index_parts.specs.declared.hash.ObjectId.{ObjectId}
use Rattle.index_parts.specs.declared.object.tree.EntryKind.TheVariants as kinds
use Rattle.ext_tree.specs.Tree.{Node, Nodes, node, none, more, node_name}
use Rattle.tree_encode.specs.Directory.{DirectoryItems, IsTreeOf, leaf_count, items_id}
use Rattle.entry_list.specs.Record.{Record}
use Rattle.tree_encode.specs.Refusals.{AreFit, NameCheck, AreRefused, TreesFaultCause}
use Rattle.tree_encode.specs.Staged.{Staged, merged_in, staged_in, unmerged_in}
use Rattle.tree_encode.specs.declared.tree_ids.Error.{Error}
use Rattle.tree_encode.specs.declared.tree_ids.Error.TheVariants as errors

-- ---- what is below a directory

-- What follows the first slash of a path, if `name` is the name before it.
abbrev pub behind : List ℕ → List ℕ → Option (List ℕ)
behind name [] = None
behind [] (b ∷ path) = if b == 47 then Some path else None
behind (c ∷ name) (b ∷ path) = if b == 47 then None else if b == c then behind name path else None

-- What follows these names in a path, one after another.
abbrev pub behind_all : List (List ℕ) → List ℕ → Option (List ℕ)
behind_all [] path = Some path
behind_all (name ∷ names) path = option_and_then (behind_all names) (behind name path)

-- The staged entry with another path.
abbrev pub moved : Staged → List ℕ → Staged
moved s path = record { path = path; kind = s.kind; id = s.id; later = s.later }

-- What is staged below the directory that is reached by these names, with paths from there.
abbrev pub staged_at : List (List ℕ) → List Staged → List Staged
staged_at names staged = filter_map (λ s. option_map (moved s) (behind_all names s.path)) staged

-- ---- what entries give

-- The staged entries make a directory, and each is in a tree: so they give its id, and their number. Except for the
-- root, there is at least one.
pub record IsMadeOf (kind : Kind) (names : List (List ℕ)) (below : List Staged) (id : ObjectId) (count : ℕ)
    : Type 0 where
  pub items : DirectoryItems
  pub is_tree : IsTreeOf kind below items
  pub some : (names ≡ []) ⊎ (below ≢ [])
  pub is_id : id ≡ items_id kind items
  pub counted : leaf_count below ≡ Some count

-- One sparse directory entry is the directory, and counts as one.
abbrev pub IsWholeDirectory : List Staged → ObjectId → ℕ → Type 0
IsWholeDirectory below id count =
    (below ≡ record { path = []; kind = kinds.Tree; id = id; later = false } ∷ []) × (count ≡ 1)

-- The entries give this id and this count to the directory that is reached by these names.
abbrev pub GivesId : Kind → List Staged → List (List ℕ) → ObjectId → ℕ → Type 0
GivesId kind staged names id count =
    IsMadeOf kind names (staged_at names staged) id count ⊎ IsWholeDirectory (staged_at names staged) id count

-- No unmerged record is below the directory.
abbrev pub IsMergedAt : List Record → List (List ℕ) → Type 0
IsMergedAt rs names = All (λ r. behind_all names r.path ≡ None) (unmerged_in rs)

-- The records give the directory this id and this count: those of the merged records, if all below it are merged.
abbrev pub GivesTreeId : Kind → List Record → List (List ℕ) → ObjectId → ℕ → Type 0
GivesTreeId kind rs names id count = IsMergedAt rs names × GivesId kind (staged_in (merged_in rs)) names id count

-- The records give the directory no id with a count.
abbrev pub GivesNone : Kind → List Record → List (List ℕ) → Type 0
GivesNone kind rs names = (id : ObjectId) (count : ℕ) → GivesTreeId kind rs names id count → ⊥

-- ---- nodes

-- The id and the count that a cached tree has for the directory that is reached by these names.
pub record Spot : Type 0 where
  pub names : List (List ℕ)
  pub id : ObjectId
  pub count : Option ℕ

abbrev mutual
  -- The node that is reached by these names, and then all nodes below it, in preorder.
  pub spots : List (List ℕ) → Node → List Spot
  spots names (node name id count children) =
      record { names = names; id = id; count = count } ∷ spots_below names children

  pub spots_below : List (List ℕ) → Nodes → List Spot
  spots_below names none = []
  spots_below names (more t ts) = spots (names ++ node_name t ∷ []) t ++ spots_below names ts

-- If the node has a count, its id and count are those that the records give.
abbrev pub IsRight : Kind → List Record → Spot → Type 0
IsRight kind rs s = IfSome s.count (λ count. GivesTreeId kind rs s.names s.id count)

-- Each node is right. The root is reached by no name.
abbrev pub AreRight : Kind → List Record → Node → Type 0
AreRight kind rs t = All (IsRight kind rs) (spots [] t)

-- ---- errors

-- `P` holds for the first of these nodes that isn't right.
abbrev pub IsFirstWrongSpot : Kind → List Record → List Spot → (Spot → Type 0) → Type 0
IsFirstWrongSpot kind rs ss P =
    (before : List Spot) × (s : Spot) × (after : List Spot) × (ss ≡ before ++ s ∷ after)
    × All (IsRight kind rs) before × (IsRight kind rs s → ⊥) × P s

-- The names as one path. The path of the root is empty.
abbrev pub joined : List (List ℕ) → List ℕ
joined [] = []
joined (name ∷ []) = name
joined (name ∷ next ∷ names) = name ++ 47 ∷ joined (next ∷ names)

-- The path, the id and the count are those of the node.
abbrev pub Names : List ℕ → ObjectId → ℕ → Spot → Type 0
Names path id count s = (joined s.names ≡ path) × (s.id ≡ id) × (s.count ≡ Some count)

-- A check that accepts each name.
abbrev pub any_name : NameCheck
any_name = λ name symlink. None

-- Why the comparison fails. If no merged record has an error, it is the first node that isn't right, and what the
-- records give instead, or that they give nothing. Otherwise it is the error of the merged records. Nothing is stated
-- of an allocation failure.
abbrev pub TreeIdsCause : Kind → List Record → Node → Error → Type 0
TreeIdsCause kind rs t (errors.Other path id count given number) =
    AreFit any_name kind (merged_in rs)
    × IsFirstWrongSpot kind rs (spots [] t)
    (λ s. Names (bstring_bytes path) id count s × GivesTreeId kind rs s.names given number)
TreeIdsCause kind rs t (errors.Ungiven path id count) =
    AreFit any_name kind (merged_in rs)
    × IsFirstWrongSpot kind rs (spots [] t)
    (λ s. Names (bstring_bytes path) id count s × GivesNone kind rs s.names)
TreeIdsCause kind rs t (errors.Entries fault) =
    TreesFaultCause fault (λ n. ⊥) (AreRefused any_name kind (merged_in rs))
TreeIdsCause kind rs t errors.Memory = Unit {0}
