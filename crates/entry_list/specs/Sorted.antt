-- Entries in order, by path and then by stage, and the first index at which a list of records isn't (gitformat-index,
-- "Index entries are sorted in ascending order").
use Rattle.std.specs.Prelude.{◌≡◌, ◌≢◌, ℕ, ◌-◌, ◌<◌, Bool, true, false, List, length, take, slice_index_or, Option}
use Rattle.std.specs.Prelude.{Some, None}
use denote.Param.Members.{Mut}
use denote.Ref.{Bor}
use Rattle.std.specs.Cmp.{IsStrictWeakOrder}
use Rattle.std.specs.Fn.{ComparesAs}
use Rattle.std.specs.List.Sorted.{IsSorted, IsSortedBy, IsStableBy}
use Rattle.std.specs.Ordering.{is_lt}
use Rattle.std.specs.declared.cmp.Ordering.{Ordering}
use Rattle.std.specs.declared.cmp.Ordering.TheVariants.{Less, Equal, Greater}
use Rattle.entry_list.specs.declared.Entry.{Entry}
use Rattle.entry_list.specs.Order.{record_cmp, IsStrictlyOrdered}
use Rattle.entry_list.specs.Record.{Record, record_in}

-- the first entry is below the second, by path and stage
abbrev pub is_entry_before : List ℕ → Entry → Entry → Bool
is_entry_before storage a b = is_lt (record_cmp (record_in storage a) (record_in storage b))

-- no record is below the one before it, by path and stage
abbrev pub IsOrdered : List Record → Type 0
IsOrdered rs = IsSorted record_cmp rs

-- below, or the result of the second test if both are equal
abbrev pub is_below_or : Ordering → Bool → Bool
is_below_or Less b = true
is_below_or Equal b = b
is_below_or Greater b = false

-- the first entry is below the second: by path, then by stage, then by a test of the caller's
abbrev pub is_before_by : List ℕ → (Entry → Entry → Bool) → Entry → Entry → Bool
is_before_by storage by a b = is_below_or (record_cmp (record_in storage a) (record_in storage b)) (by a b)

-- If each call of the closure answers by an order, entries of the same path and stage are in that order. Those that are
-- equal in it keep their order.
abbrev pub TiesFollow : {F : Type 0} → Mut F (Bor Entry × (Bor Entry × Unit {0})) Ordering → F → List ℕ → List Entry
    → List Entry → Type 0
TiesFollow g f storage old new = (by : Entry → Entry → Bool) → IsStrictWeakOrder by → ComparesAs g by f
    → IsSortedBy (is_before_by storage by) new × IsStableBy (is_before_by storage by) old new

-- the record at this index isn't above the one before it
pub record IsFall (rs : List Record) (place : ℕ) : Type 0 where
  pub behind_one : 0 < place
  pub in_range : place < length rs
  pub falls : (d : Record) → record_cmp (slice_index_or rs (place - 1) d) (slice_index_or rs place d) ≢ Less

-- the first index of a record that isn't above the one before it, or None if path and stage strictly increase
abbrev pub IsFirstFall : List Record → Option ℕ → Type 0
IsFirstFall rs None = IsStrictlyOrdered rs
IsFirstFall rs (Some place) = IsFall rs place × IsStrictlyOrdered (take place rs)

-- the answer is the first order, and the closure is unchanged; if that order is equal, the answer is the closure's
abbrev pub IsOrElse : {F : Type 0} → Ordering → (Ordering → F → Type 0) → F → Ordering → F → Type 0
IsOrElse Less asks f r g = (r ≡ Less) × (g ≡ f)
IsOrElse Equal asks f r g = asks r g
IsOrElse Greater asks f r g = (r ≡ Greater) × (g ≡ f)

-- How an entry compares with another one: by path, by stage, and then as a call of the closure answers. Public clauses
-- don't use it.
abbrev pub AsksThird : {F : Type 0} → (F → Bor Entry → Bor Entry → Ordering → F → Type 0) → List ℕ → F → Bor Entry
    → Bor Entry → Ordering → F → Type 0
AsksThird step storage f a b r g =
    IsOrElse (record_cmp (record_in storage a.now) (record_in storage b.now)) (step f a b) f r g
