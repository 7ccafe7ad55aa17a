-- The results of the calls that edit a state, and the state after them (the library's own).
use Rattle.std.specs.Prelude.{◌≡◌, ℕ, Bool, not, List, [], filter}
use denote.Param.Members.{Mut}
use denote.Ref.{Bor, MutBor}
use Rattle.ext_tree.specs.Tree.{Node}
use Rattle.entry_list.specs.Record.{Record}
use Rattle.entry_list.specs.Removed.{Answered, AnswersBy, AnswersByPlace, RemovesWith, Shown, left_by}
use Rattle.entry_list.specs.declared.Entry.{Entry}
use Rattle.tree_encode.specs.Kept.{KeepsCounts}
use Rattle.index_state.specs.Edits.{with_cached_tree}
use Rattle.index_state.specs.State.{contents, entries_of, records, storage_of}
use Rattle.index_state.specs.declared.State.{State}

-- ---- the parts that aren't entries

-- the cache tree is one that was made from the entries, with only those counts that the former one has
abbrev pub HasRenewedTree : Node → State → State → Type 0
HasRenewedTree made old new =
    (t : Node) × KeepsCounts (contents old).kind [] (contents old).extensions.tree made t
    × (contents new ≡ with_cached_tree (contents old) t)

-- ---- entries

-- the closure was called once for each entry, and those for which it returned true are removed
pub record RemovesFrom {F : Type 0} (step : F → ℕ → Bor (List ℕ) → MutBor Entry → Bool → MutBor Entry → F → Type 0)
    (first : F) (old new : State) : Type 0 where
  pub last : F
  pub calls : RemovesWith step (storage_of old) first (entries_of old) last (entries_of new)

-- if the closure returns a test of the record, or of the index and the record, the records remain for which it is false
abbrev pub FiltersBy : {F : Type 0} → Mut F Shown Answered → F → State → State → Type 0
FiltersBy g f old new =
    (test : Record → Bool) → AnswersBy g test f → records new ≡ filter (λ r. not (test r)) (records old)

abbrev pub FiltersByPlace : {F : Type 0} → Mut F Shown Answered → F → State → State → Type 0
FiltersByPlace g f old new =
    (test : ℕ → Record → Bool) → AnswersByPlace g test f → records new ≡ left_by test (records old)
