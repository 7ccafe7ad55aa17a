-- The readable entries of a file that are saved, and the first of them that is unfit.
use Rattle.std.specs.Prelude.{◌≡◌, ◌≢◌, ◌↔◌, ℕ, ◌+◌, ◌==◌, Bool, not, List, [], ◌∷◌, Contains, length, take, filter}
use Rattle.std.specs.Prelude.{Option, Some, None, MatchOption, is_some}
use Rattle.std.specs.List.{HoldsAt}
use Rattle.std.specs.Ordering.{is_eq}
use Rattle.gix_index.specs.Kind.{Kind}
use Rattle.gix_index.specs.Order.{IsStrictlyOrdered, record_cmp}
use Rattle.gix_index.specs.Record.{Record}
use Rattle.gix_index.specs.Sorted.{IsFall}
use Rattle.view_salvage.specs.Accepted.{AreAcceptable, record_fault}
use Rattle.view_salvage.specs.declared.chosen.FirstUnfit.{FirstUnfit}
use Rattle.view_salvage.specs.declared.chosen.Keep.{Keep}
use Rattle.view_salvage.specs.declared.chosen.Keep.TheVariants as keeps
use Rattle.view_salvage.specs.declared.chosen.Unfit.{Unfit}
use Rattle.view_salvage.specs.declared.chosen.Unfit.TheVariants as faults

-- The record has an empty path.
abbrev pub is_nameless : Record → Bool
is_nameless r = length r.path == 0

-- Git doesn't work with the record.
abbrev pub is_unfit : Kind → Record → Bool
is_unfit kind r = is_some (record_fault kind r)

-- The records that have a path.
abbrev pub named_of : List Record → List Record
named_of rs = filter (λ r. not (is_nameless r)) rs

-- The records that git works with, each by itself.
abbrev pub fit_of : Kind → List Record → List Record
fit_of kind rs = filter (λ r. not (is_unfit kind r)) rs

-- Git doesn't work with the entry at an index, for this reason. Or git does, and the entry isn't greater than the one
-- before it.
abbrev pub IsUnfitAt : Kind → List Record → ℕ → Unfit → Type 0
IsUnfitAt kind rs place (faults.Entry e) = HoldsAt (λ r. record_fault kind r ≡ Some e) rs place
IsUnfitAt kind rs place faults.Order = HoldsAt (λ r. record_fault kind r ≡ None) rs place × IsFall rs place

-- The first unfit entry, with the numbers of entries before it and after it. Git works with all before it.
pub record IsFirstUnfit (kind : Kind) (rs : List Record) (first : FirstUnfit) : Type 0 where
  pub count : length rs ≡ first.before + 1 + first.behind
  pub front : AreAcceptable kind (take first.before rs)
  pub fault : IsUnfitAt kind rs first.before first.fault

-- The first unfit entry; or there is none, and git works with all entries.
abbrev pub IsFirstUnfitOrNone : Kind → List Record → Option FirstUnfit → Type 0
IsFirstUnfitOrNone kind rs first = MatchOption first (AreAcceptable kind rs) (IsFirstUnfit kind rs)

-- The records before the first unfit one.
abbrev pub records_before : Option FirstUnfit → List Record → List Record
records_before None rs = rs
records_before (Some first) rs = take first.before rs

-- The entries with the path and the stage of a record, in their order.
abbrev pub with_key_of : Record → List Record → List Record
with_key_of r rs = filter (λ q. is_eq (record_cmp r q)) rs

-- The record has a path, and is the first of the entries with its path and stage.
pub record IsFirst (rs : List Record) (r : Record) : Type 0 where
  pub named : r.path ≢ []
  pub others : List Record
  pub first : with_key_of r rs ≡ r ∷ others

-- The first entry of each path and stage, once, in order by path and stage, and no other.
pub record IsSortedSelection (rs kept : List Record) : Type 0 where
  pub ordered : IsStrictlyOrdered kept
  pub are : (r : Record) → Contains kept r ↔ IsFirst rs r

-- The saved entries are those before the first unfit one. Or they are all that git works with, in order by path and
-- stage, of each the first.
abbrev pub IsKept : Keep → Kind → List Record → Option FirstUnfit → List Record → Type 0
IsKept keeps.Front kind rs first kept = kept ≡ records_before first rs
IsKept keeps.All kind rs first kept = IsSortedSelection (fit_of kind rs) kept
