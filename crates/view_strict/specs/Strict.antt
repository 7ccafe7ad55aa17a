-- The entries of an index that git works with (gitformat-index, "Index entry", "Sparse Directory Entries").
use Rattle.std.specs.Prelude.{◌≡◌, ◌<◌, ℕ, true, false, List, All, length, Some, None, position}
use Rattle.std.specs.List.{AllWithin, HoldsAt}
use Rattle.bstr.specs.Owned.{bstring_bytes}
use Rattle.gix_index.specs.Kind.{Kind}
use Rattle.gix_index.specs.Record.{Record}
use Rattle.view_salvage.specs.Accepted.{record_fault}
use Rattle.view_strict.specs.Beside.{has_sides_beside, is_beside}
use Rattle.view_strict.specs.declared.verify.Error.{Error}
use Rattle.view_strict.specs.declared.verify.Error.TheVariants as errors

-- Git works with the record, and none of the records conflicts with it.
pub record IsSoundIn (kind : Kind) (rs : List Record) (r : Record) : Type 0 where
  pub accepted : record_fault kind r ≡ None
  pub merged : has_sides_beside r rs ≡ false
  pub alone : All (λ q. is_beside r q ≡ false) rs

-- Git works with each record, and no two records conflict.
abbrev pub IsStrict : Kind → List Record → Type 0
IsStrict kind rs = All (IsSoundIn kind rs) rs

-- The path is that of the first of the records that is below this one.
pub record NamesBeside (rs : List Record) (r : Record) (path : List ℕ) : Type 0 where
  pub place : ℕ
  pub first : position (is_beside r) rs ≡ Some place
  pub named : HoldsAt (λ q. q.path ≡ path) rs place

-- The error describes what is wrong with the record at an index of the list.
abbrev pub RecordCause : Kind → List Record → ℕ → Record → Error → Type 0
RecordCause kind rs place r (errors.Entry index path fault) =
    (index ≡ place) × (bstring_bytes path ≡ r.path) × (record_fault kind r ≡ Some fault)
RecordCause kind rs place r (errors.Sides index path) =
    (index ≡ place) × (bstring_bytes path ≡ r.path) × (record_fault kind r ≡ None) × (has_sides_beside r rs ≡ true)
RecordCause kind rs place r (errors.Beside index path other) =
    (index ≡ place) × (bstring_bytes path ≡ r.path) × (record_fault kind r ≡ None)
    × NamesBeside rs r (bstring_bytes other)
RecordCause kind rs place r errors.Memory = IsSoundIn kind rs r → ⊥

-- The error describes the first record for which a check fails, or is an allocation failure.
pub record UnsoundCause (kind : Kind) (rs : List Record) (e : Error) : Type 0 where
  pub place : ℕ
  pub within : place < length rs
  pub before : AllWithin (IsSoundIn kind rs) rs 0 place
  pub says : HoldsAt (λ r. RecordCause kind rs place r e) rs place
