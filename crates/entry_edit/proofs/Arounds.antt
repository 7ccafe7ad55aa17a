-- The paths in a complete directory: one of their directories, with the slash at its end, is the path of an entry for
-- one.
use Rattle.std.proofs.Common.{◌≡◌, ℕ, ◌-◌, ◌<◌, ◌≤◌, ◌==◌, Bool, true, false, ◌&&◌, ◌||◌, List, [], ◌∷◌, length, get_or, take}
use Rattle.std.proofs.Common.{◌+◌, ◌++◌, ◌⊎◌, inl, inr, length-append, Option, None, refl, sym, ap, subst, ◌∙◌, arith, length-take-le, get_or-take, take_all}
use Rattle.std.specs.List.{list_any, starts_with}
use Rattle.std.specs.Prelude.{nat_eq, nat_lt, slice_range}
use Rattle.std.specs.declared.ops.Range.{Range}
use Rattle.std.proofs.lemmas.Bool.{cases_lt}
use Rattle.std.proofs.lemmas.Bool.Decides.{nat_tests}
use Rattle.std.proofs.lemmas.List.{append-nil}
use Rattle.std.proofs.lemmas.List.Folds.{Any-from_list_any, list_any_at, list_any_none}
use Rattle.std.proofs.Math.Seq.{take-append_seam}
use Rattle.index_parts.specs.Mode.{directory_mode}
use Rattle.entry_list.specs.Record.{Record, has_directory}
use Rattle.entry_lookup.specs.Range.{IsRange, is_at, part_of}
use Rattle.entry_lookup.proofs.RunFilters.{range_is_filter}
use Rattle.entry_lookup.proofs.TableMade.{and_both, and_to, same_from, same_to}
use Rattle.base_search.proofs.Halving.{position_none}
use Rattle.entry_edit.specs.Changes.{change_path}
use Rattle.entry_edit.specs.Wholes.{first_in_whole, goes_on, is_around, lies_in_whole}
use Rattle.entry_edit.specs.declared.change.Change.{Change}
use Rattle.entry_edit.proofs.Anys.{any_filter}

same_number : (m n : ℕ) → (m == n) ≡ true → m ≡ n
same_number m n h = grind (arith, nat_tests, h)

number_to : (m n : ℕ) → m ≡ n → (m == n) ≡ true
number_to m n h = grind (arith, nat_tests, h)

less_from : (m n : ℕ) → nat_lt m n ≡ true → m < n
less_from m n h = grind (arith, nat_tests, h)

less_to : (m n : ℕ) → m < n → nat_lt m n ≡ true
less_to m n h = grind (arith, nat_tests, h)

false_from : (b : Bool) → (b ≡ true → ⊥) → b ≡ false
false_from true h = absurd (h refl)
false_from false h = refl

-- ---- folders above a path

-- a front of the path that ends in a slash goes on in it
goes_to : (path : List ℕ) (at : ℕ) → 1 ≤ at → at < length path → get_or path (at - 1) 0 ≡ 47
    → goes_on (take at path) path ≡ true
goes_to path at some within slash =
    let front = take at path in
    let n : length front ≡ at = length-take-le at path (omega (arith, within)) in
    let last : get_or front (length front - 1) 0 ≡ 47 =
    ap (λ m. get_or front (m - 1) 0) n ∙ get_or-take at path (at - 1) 0 (omega (arith, some)) ∙ slash in
    and_to (get_or front (length front - 1) 0 == 47) (starts_with nat_eq path front && nat_lt (length front) (length path))
    (number_to (get_or front (length front - 1) 0) 47 last)
    (and_to (starts_with nat_eq path front) (nat_lt (length front) (length path))
    (same_to front (take (length front) path) (sym (ap (λ m. take m path) n)))
    (less_to (length front) (length path) (omega (arith, n, within))))

some_last : (folder : List ℕ) → get_or folder (length folder - 1) 0 ≡ 47 → 1 ≤ length folder
some_last [] h = absurd cc
some_last (b ∷ bs) h = omega arith

-- what goes on is such a front
record IsFront (folder path : List ℕ) : Type 0 where
  pub front : folder ≡ take (length folder) path
  pub within : length folder < length path
  pub some : 1 ≤ length folder
  pub slash : get_or path (length folder - 1) 0 ≡ 47

goes_from : (folder path : List ℕ) → goes_on folder path ≡ true → IsFront folder path
goes_from folder path t =
    let n = length folder in
    let both = and_both (get_or folder (n - 1) 0 == 47) (starts_with nat_eq path folder && nat_lt n (length path)) t in
    let parts = and_both (starts_with nat_eq path folder) (nat_lt n (length path)) both.1 in
    let last = same_number (get_or folder (n - 1) 0) 47 both.0 in
    let front = same_from folder (take n path) parts.0 in
    let some = some_last folder last in
    record {
      front = front;
      within = less_from n (length path) parts.1;
      some = some;
      slash = sym (get_or-take n path (n - 1) 0 (omega (arith, some))) ∙ sym (ap (λ (l : List ℕ). get_or l (n - 1) 0) front)
          ∙ last;
    }

-- a path that begins with a directory, which has a slash at the end, is the directory's, or continues after it
pub goes_behind : (folder path rest : List ℕ) → path ≡ folder ++ rest → get_or folder (length folder - 1) 0 ≡ 47
    → (path ≡ folder) ⊎ (goes_on folder path ≡ true)
goes_behind folder path [] e slash = inl (e ∙ append-nil folder)
goes_behind folder path (b ∷ rest) e slash =
    let n = length folder in
    let front : folder ≡ take n path = sym (ap (take n) e ∙ take-append_seam folder (b ∷ rest)) in
    let longer : n < length path = omega (arith, ap length e, length-append folder (b ∷ rest)) in
    inr (and_to (get_or folder (n - 1) 0 == 47) (starts_with nat_eq path folder && nat_lt n (length path))
    (number_to (get_or folder (n - 1) 0) 47 slash)
    (and_to (starts_with nat_eq path folder) (nat_lt n (length path)) (same_to folder (take n path) front)
    (less_to n (length path) longer)))

-- ---- whole directories at a path

-- the record has the path, and is for a complete directory
abbrev pub is_whole_at : List ℕ → Record → Bool
is_whole_at path r = is_at path r && (r.mode == directory_mode)

pub whole_at : (path : List ℕ) (rs : List Record) (range : Option (Range ℕ)) → IsRange (is_at path) rs range
    → has_directory (part_of rs range) ≡ list_any (is_whole_at path) rs
whole_at path rs range h =
    ap has_directory (range_is_filter (is_at path) rs range h) ∙ any_filter (λ r. r.mode == directory_mode) (is_at path) rs

pub around_at : (path : List ℕ) (rs : List Record) (at : ℕ) → 1 ≤ at → at < length path → get_or path (at - 1) 0 ≡ 47
    → list_any (is_whole_at (take at path)) rs ≡ true → lies_in_whole path rs ≡ true
around_at path rs at some within slash h =
    let a = Any-from_list_any (is_whole_at (take at path)) rs h in
    let r = a.1 in
    let both = and_both (is_at (take at path) r) (r.mode == directory_mode) a.4 in
    let goes : goes_on r.path path ≡ true =
    subst (λ (l : List ℕ). goes_on l path ≡ true) (sym (same_from r.path (take at path) both.0))
    (goes_to path at some within slash) in
    let here : is_around path r ≡ true = and_to (r.mode == directory_mode) (goes_on r.path path) both.1 goes in
    list_any_at (is_around path) rs a.0 r a.2 (subst (λ (q : Record). is_around path q ≡ true) (sym a.3) here)

pub none_around : (path : List ℕ) (rs : List Record) → ((k : ℕ) → 1 ≤ k → k < length path → get_or path (k - 1) 0 ≡ 47
    → list_any (is_whole_at (take k path)) rs ≡ false) → false ≡ lies_in_whole path rs
none_around path rs h = sym (list_any_none (is_around path) rs (λ i d inside.
    let r = get_or rs i d in
    false_from (is_around path r) (λ t.
    let both = and_both (r.mode == directory_mode) (goes_on r.path path) t in
    let f = goes_from r.path path both.1 in
    let front = take (length r.path) path in
    let none = h (length r.path) f.some f.within f.slash in
    let here = and_to (is_at front r) (r.mode == directory_mode) (same_to r.path front f.front) both.0 in
    let clash : true ≡ false = sym (list_any_at (is_whole_at front) rs i d inside here) ∙ none in
    cc)))

-- one front more
pub one_more : (path : List ℕ) (rs : List Record) (at : ℕ)
    → ((k : ℕ) → 1 ≤ k → k < at → get_or path (k - 1) 0 ≡ 47 → list_any (is_whole_at (take k path)) rs ≡ false)
    → (get_or path (at - 1) 0 ≡ 47 → list_any (is_whole_at (take at path)) rs ≡ false)
    → (k : ℕ) → 1 ≤ k → k < at + 1 → get_or path (k - 1) 0 ≡ 47 → list_any (is_whole_at (take k path)) rs ≡ false
one_more path rs at before here k low within slash = by (cases_lt k at)
  where
    by : (k < at) ⊎ (at ≤ k) → list_any (is_whole_at (take k path)) rs ≡ false
    by (inl lt) = before k low lt slash
    by (inr ge) =
        let e : k ≡ at = omega (arith, ge, within) in
        rw e (here (rw e at slash))

-- ---- no whole directory at all

pub all_of : (rs : List Record) → slice_range rs 0 (length rs) ≡ rs
all_of rs = take_all (length rs - 0) rs (omega arith)

pub none_inside : (path : List ℕ) (rs : List Record) → has_directory rs ≡ false → lies_in_whole path rs ≡ false
none_inside path [] h = refl
none_inside path (r ∷ rs) h = by (r.mode == directory_mode) h (none_inside path rs)
  where
    by : (b : Bool) → (b || has_directory rs) ≡ false → (has_directory rs ≡ false → lies_in_whole path rs ≡ false)
        → ((b && goes_on r.path path) || lies_in_whole path rs) ≡ false
    by true e rest = absurd cc
    by false e rest = rest e

pub no_change_inside : (cs : List Change) (rs : List Record) → has_directory rs ≡ false → first_in_whole cs rs ≡ None
no_change_inside cs rs h =
    position_none (λ c. lies_in_whole (change_path c) rs) cs (λ i d within. none_inside (change_path (get_or cs i d))
    rs h)
