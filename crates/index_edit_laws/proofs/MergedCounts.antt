-- The number of merged entries after changes.
use Rattle.std.proofs.Common.{ℕ, ◌+◌, ◌≤◌, List, [], ◌∷◌, Bool, true, false, cond, filter, length, not, arith}
use Rattle.std.specs.Prelude.{count_by}
use Rattle.std.proofs.lemmas.List.Sums.{length-filter, sum_by-cons, sum_by-insert}
use Rattle.entry_list.specs.Order.{record_stage}
use Rattle.entry_list.specs.Record.{Record, with_path}
use Rattle.entry_lookup.specs.Lookup.{insertion_of}
use Rattle.entry_lookup.specs.Range.{is_at}
use Rattle.entry_edit.specs.Changes.{applied, applied_one}
use Rattle.entry_edit.specs.Edits.{is_displaced, staged, unstaged}
use Rattle.entry_edit.specs.declared.change.Change.{Change}
use Rattle.entry_edit.specs.declared.change.Change.TheVariants as changes
use Rattle.tree_encode.specs.Staged.{is_unmerged, merged_in}

abbrev one : (Record → Bool) → Record → ℕ
one p r = cond (p r) 1 0

-- no more pass of those that another test lets pass
fewer_pass : (p q : Record → Bool) (rs : List Record) → count_by p (filter q rs) ≤ count_by p rs
fewer_pass p q [] = omega arith
fewer_pass p q (r ∷ rs) = by (q r) (fewer_pass p q rs)
  where
    by : (b : Bool) → count_by p (filter q rs) ≤ count_by p rs
        → count_by p (cond b (r ∷ filter q rs) (filter q rs)) ≤ count_by p (r ∷ rs)
    by true h = omega (arith, h, sum_by-cons (one p) r (filter q rs), sum_by-cons (one p) r rs)
    by false h = omega (arith, h, sum_by-cons (one p) r rs)

at_most_one : (p : Record → Bool) (r : Record) → one p r ≤ 1
at_most_one p r = by (p r)
  where
    by : (b : Bool) → cond b 1 0 ≤ 1
    by true = omega arith
    by false = omega arith

abbrev is_merged : Record → Bool
is_merged r = not (is_unmerged r.flags)

one_more : (c : Change) (rs : List Record) → count_by is_merged (applied_one c rs) ≤ count_by is_merged rs + 1
unfolding staged unstaged
one_more (changes.Stage entry path) rs =
    let new = with_path path.now entry in
    let keep : Record → Bool = λ r. not (is_displaced new r) in
    let ks = filter keep rs in
    omega (
      arith,
      sum_by-insert (one is_merged) ks (insertion_of new.path (record_stage new) ks) new,
      at_most_one is_merged new,
      fewer_pass is_merged keep rs,
    )
one_more (changes.Unstage path) rs =
    let keep : Record → Bool = λ r. not (is_at path.now r) in
    omega (arith, fewer_pass is_merged keep rs)

counted : (cs : List Change) (rs : List Record)
    → count_by is_merged (applied cs rs) ≤ count_by is_merged rs + length cs
unfolding applied
counted [] rs = omega arith
counted (c ∷ cs) rs = omega (arith, counted cs (applied_one c rs), one_more c rs)

pub merged_more : (cs : List Change) (rs : List Record)
    → length (merged_in (applied cs rs)) ≤ length (merged_in rs) + length cs
merged_more cs rs =
    omega (arith, counted cs rs, length-filter is_merged (applied cs rs), length-filter is_merged rs)
