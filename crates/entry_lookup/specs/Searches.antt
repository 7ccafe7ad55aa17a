-- The results of searches of records, and their numbers of comparisons (the library's own). For records in any order, a
-- record that is found matches. For ordered records it is determined which one it is, or that there is none.
use Rattle.std.specs.Prelude.{◌≡◌, ℕ, ◌+◌, ◌<◌, ◌≤◌, Bool, List, length, Option, Result, IfErr, IfOk, ok_or}
use Rattle.base_search.specs.Digits.{digits}
use Rattle.entry_list.specs.Order.{IsOrderedByPath, IsStrictlyOrdered}
use Rattle.entry_list.specs.Record.{Record}
use Rattle.entry_lookup.specs.Folded.{IsNamed, folded_closest, folded_place}
use Rattle.entry_lookup.specs.Lookup.{IsKeyAt, IsPathAt, IsPathGap, insertion_of, insertion_of_path, record_index}

-- by halving, n paths take at most one comparison more than n has binary digits, and at least one if n isn't 0
pub record IsHalving (n count : ℕ) : Type 0 where
  pub at_most : count ≤ digits n + 1
  pub at_least_one : 0 < n → 1 ≤ count

-- ---- an index

-- the index of the path, or that at which it would be inserted
pub record FindsPath (path : List ℕ) (rs : List Record) (r : Result ℕ ℕ) : Type 0 where
  pub found : IfOk r (IsPathAt path rs)
  pub in_range : IfErr r (λ i. i ≤ length rs)
  pub absent : IsOrderedByPath rs → IfErr r (IsPathGap path rs)

-- the index of the path and the stage, or that at which they would be inserted
pub record FindsKey (path : List ℕ) (stage : ℕ) (rs : List Record) (r : Result ℕ ℕ) : Type 0 where
  pub found : IfOk r (IsKeyAt path stage rs)
  pub in_range : IfErr r (λ i. i ≤ length rs)
  pub answer : IsStrictlyOrdered rs → r ≡ ok_or (record_index path stage rs) (insertion_of path stage rs)

-- ---- an index, and the number of comparisons

-- the index of the path, with a number of comparisons that is bounded by `few`
pub record PathAnswer (few : ℕ → Type 0) (path : List ℕ) (rs : List Record) (r : Result ℕ ℕ × ℕ) : Type 0 where
  pub place : FindsPath path rs r.0
  pub count : few r.1

-- the index of the path and the stage, with a number of comparisons that is bounded by `few`
pub record KeyAnswer (few : ℕ → Type 0) (path : List ℕ) (stage : ℕ) (rs : List Record) (r : Result ℕ ℕ × ℕ) : Type 0
  where
    pub place : FindsKey path stage rs r.0
    pub count : few r.1

-- the index of the path, found by halving the records
abbrev pub SearchesPath : List ℕ → List Record → Result ℕ ℕ × ℕ → Type 0
SearchesPath path rs r = PathAnswer (IsHalving (length rs)) path rs r

abbrev pub SearchesKey : List ℕ → ℕ → List Record → Result ℕ ℕ × ℕ → Type 0
SearchesKey path stage rs r = KeyAnswer (IsHalving (length rs)) path stage rs r

-- the index at which the paths with the prefix begin
pub record SearchesPrefix (prefix : List ℕ) (rs : List Record) (r : ℕ × ℕ) : Type 0 where
  pub in_range : r.0 ≤ length rs
  pub place : IsOrderedByPath rs → r.0 ≡ insertion_of_path prefix rs
  pub count : IsHalving (length rs) r.1

-- the index of the first record at the path, optionally with case ignored
pub record SearchesFolded (ignore_case : Bool) (path : List ℕ) (rs : List Record) (r : Option ℕ × ℕ) : Type 0 where
  pub answer : r.0 ≡ folded_place ignore_case path rs
  pub count : IsHalving (length rs) r.1

-- The index of the first record that is the directory or is below it, optionally with case ignored. The names of the
-- directories are compared.
pub record SearchesDirectory (ignore_case : Bool) (directory : List ℕ) (rs : List Record) (r : Option ℕ × ℕ) : Type 0
  where
    pub answer : r.0 ≡ folded_closest ignore_case directory rs
    pub count : (names : List (List ℕ)) × IsNamed ignore_case rs names × IsHalving (length names) r.1
