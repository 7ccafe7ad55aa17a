-- The indices of the records at a path, or with a prefix (the library's own). Each definition is for any list. For
-- records ordered by path such indices are adjacent.
use Rattle.std.specs.Prelude.{◌≡◌, ℕ, ◌<◌, ◌≤◌, ◌⊎◌, Bool, true, false, List, [], ◌∷◌, length, All, Option, Some, None}
use Rattle.std.specs.Prelude.{IfSome, MatchOption, nat_eq, slice_range}
use Rattle.std.specs.List.{AllWithin, starts_with}
use Rattle.std.specs.Option.{option_or}
use Rattle.std.specs.Str.{bytes_eq}
use Rattle.std.specs.declared.ops.Range.{Range}
use Rattle.entry_lookup.specs.Lookup.{HasKey, record_index}
use Rattle.entry_list.specs.Record.{Record}

-- the record's path is this one
abbrev pub is_at : List ℕ → Record → Bool
is_at path r = bytes_eq r.path path

-- the record's path begins with these bytes
abbrev pub begins_with : List ℕ → Record → Bool
begins_with prefix r = starts_with nat_eq r.path prefix

-- the indices that pass are those from start up to end, and no others
pub record IsRun {X : Type 0} (test : X → Bool) (xs : List X) (start end : ℕ) : Type 0 where
  pub in_order : start ≤ end
  pub in_range : end ≤ length xs
  pub before : AllWithin (λ x. test x ≡ false) xs 0 start
  pub within : AllWithin (λ x. test x ≡ true) xs start end
  pub behind : AllWithin (λ x. test x ≡ false) xs end (length xs)

-- the range is in the list: it ends inside it, and not before it starts
abbrev pub LiesWithin : {X : Type 0} → List X → Range ℕ → Type 0
LiesWithin xs p = (p.start ≤ p.end) × (p.end ≤ length xs)

-- the range is in the list, and has at least one index
abbrev pub IsPart : {X : Type 0} → List X → Range ℕ → Type 0
IsPart xs p = (p.start < p.end) × (p.end ≤ length xs)

-- all indices that pass; None if none does
abbrev pub IsRange : {X : Type 0} → (X → Bool) → List X → Option (Range ℕ) → Type 0
IsRange test xs r = MatchOption r (All (λ x. test x ≡ false) xs) (λ p. (p.start < p.end) × IsRun test xs p.start p.end)

-- all indices that pass, if the list is in order; else some indices of the list, or None
pub record FindsRange {X : Type 0} (test : X → Bool) (ordered : Type 0) (xs : List X) (r : Option (Range ℕ)) : Type 0
  where
    pub in_range : IfSome r (IsPart xs)
    pub exactly : ordered → IsRange test xs r

-- all records that begin with the prefix, or None; for the empty one always the complete list
abbrev pub IsPrefixRange : List ℕ → List Record → Option (Range ℕ) → Type 0
IsPrefixRange [] rs r = MatchOption r ⊥ (λ p. (p.start ≡ 0) × (p.end ≡ length rs))
IsPrefixRange (b ∷ bs) rs r = IsRange (begins_with (b ∷ bs)) rs r

-- the elements at the indices of a range
abbrev pub part_at : {X : Type 0} → List X → Range ℕ → List X
part_at xs p = slice_range xs p.start p.end

-- the elements at the indices of an optional range; nothing if there is no range
abbrev pub part_of : {X : Type 0} → List X → Option (Range ℕ) → List X
part_of xs None = []
part_of xs (Some p) = part_at xs p

-- the index of the record at a path: at stage 0, or else at stage 2
abbrev pub place_of_path : List ℕ → List Record → Option ℕ
place_of_path path rs = option_or (record_index path 0 rs) (record_index path 2 rs)

-- the record is at the path, at stage 0 or stage 2
abbrev pub HasStageOf : List ℕ → Record → Type 0
HasStageOf path r = HasKey path 0 r ⊎ HasKey path 2 r
