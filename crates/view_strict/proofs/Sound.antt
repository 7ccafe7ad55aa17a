-- The error for a record that git doesn't work with, or with which another conflicts.
use Rattle.std.proofs.Common.{◌≡◌, ℕ, ◌+◌, ◌<◌, ◌≤◌, ◌⊎◌, inl, inr, List, length, get_or, Option, Some, sym, subst}
use Rattle.std.proofs.Common.{arith}
use Rattle.std.specs.List.{AllWithin, HoldsAt}
use Rattle.std.proofs.lemmas.Bool.{cases_lt}
use Rattle.gix_index.specs.Kind.{Kind}
use Rattle.gix_index.specs.Record.{Record}
use Rattle.base_search.proofs.Halving.{position_none}
use Rattle.base_search.proofs.Places.{some_of}
use Rattle.view_strict.specs.Beside.{IsFirstPlace, is_beside}
use Rattle.view_strict.specs.Strict.{IsSoundIn, IsStrict, RecordCause, UnsoundCause}
use Rattle.view_strict.specs.declared.verify.Error.{Error}
use Rattle.view_strict.specs.declared.verify.Error.TheVariants as errors

-- ---- another record below it

module _ (rs : List Record) (place : ℕ) (found : Option ℕ) (other : ℕ)
    (first : HoldsAt (λ r. IsFirstPlace (is_beside r) rs found) rs place) (is : found ≡ Some other) where
  there : (d : Record) → IsFirstPlace (is_beside (get_or rs place d)) rs (Some other)
  there d = subst (λ (o : Option ℕ). IsFirstPlace (is_beside (get_or rs place d)) rs o) is (first d)

  pub other_within : place < length rs → other < length rs
  other_within within = (there (some_of rs place within)).0

  pub not_alone : (kind : Kind) (d : Record) → IsSoundIn kind rs (get_or rs place d) → ⊥
  not_alone kind d sound =
      let told = (there d).1 in
      let none = position_none (is_beside (get_or rs place d)) rs sound.alone in
      cc

-- ---- the first that isn't sound

-- the error for a record doesn't hold of one that passes all checks
says_not : (kind : Kind) (rs : List Record) (place : ℕ) (r : Record) (e : Error) → RecordCause kind rs place r e
    → IsSoundIn kind rs r → ⊥
says_not kind rs place r (errors.Entry index path fault) says sound =
    let told = says.2 in
    let none = sound.accepted in
    cc
says_not kind rs place r (errors.Sides index path) says sound =
    let told = says.3 in
    let none = sound.merged in
    cc
says_not kind rs place r (errors.Beside index path other) says sound =
    let told = says.3.first in
    let none = position_none (is_beside r) rs sound.alone in
    cc
says_not kind rs place r errors.Memory says sound = says sound

pub unsound : (kind : Kind) (rs : List Record) (e : Error) → UnsoundCause kind rs e → IsStrict kind rs → ⊥
unsound kind rs e says strict =
    let d = some_of rs says.place says.within in
    says_not kind rs says.place (get_or rs says.place d) e (says.says d) (strict says.place d says.within)

pub more_sound : (kind : Kind) (rs : List Record) (place : ℕ) → AllWithin (IsSoundIn kind rs) rs 0 place
    → HoldsAt (IsSoundIn kind rs) rs place → AllWithin (IsSoundIn kind rs) rs 0 (place + 1)
more_sound kind rs place before here k d l u = by (cases_lt k place)
  where
    by : (k < place) ⊎ (place ≤ k) → IsSoundIn kind rs (get_or rs k d)
    by (inl front) = before k d l front
    by (inr back) =
        let same : k ≡ place = omega arith in
        subst (λ (i : ℕ). IsSoundIn kind rs (get_or rs i d)) (sym same) (here d)

module _ (kind own : Kind) (rs records : List Record) (place : ℕ) (same_kind : kind ≡ own) (same : rs ≡ records)
    (before : AllWithin (IsSoundIn kind rs) rs 0 place) where
  pub all_sound : length rs ≤ place → IsStrict own records
  all_sound past =
      let all : IsStrict kind rs = λ k d inside. before k d (omega arith) (omega (arith, past, inside)) in
      let A : Kind → Type 0 = λ q. IsStrict q records in
      let B : List Record → Type 0 = λ l. IsStrict kind l in
      subst A same_kind (subst B same all)

  pub first_unsound : (e : Error) → place < length rs → HoldsAt (λ r. RecordCause kind rs place r e) rs place
      → UnsoundCause own records e
  first_unsound e within says =
      let first : UnsoundCause kind rs e = record { place = place; within = within; before = before; says = says } in
      let A : Kind → Type 0 = λ q. UnsoundCause q records e in
      let B : List Record → Type 0 = λ l. UnsoundCause kind l e in
      subst A same_kind (subst B same first)
