-- The merge of a split index's entries into those of its shared index (gitformat-index, "Split index"), over lists of
-- records.
use Rattle.std.specs.Prelude.{◌≡◌, ℕ, ◌+◌, ◌==◌, ◌||◌, nat_le, not, List, [], ◌∷◌, ◌++◌, length, drop, codes, Option}
use Rattle.std.specs.Prelude.{Some, None, Result, Ok, Err, if◌then◌else◌, option_and_then, slice_get}
use Rattle.std.specs.List.{list_any, position_from}
use Rattle.std.specs.List.Sorted.{IsPermutation, IsSorted, IsStable}
use Rattle.ext_bitmap.specs.Bits.{ListPlaces}
use Rattle.ext_bitmap.specs.declared.ewah.iter.Malformed.{Malformed}
use Rattle.entry_list.specs.EntryImage.{is_removed}
use Rattle.entry_list.specs.Order.{record_cmp}
use Rattle.entry_list.specs.Record.{Record}

-- the positions that a bitmap lists before it breaks off
abbrev pub listed_places : List (Result ℕ Malformed) → List ℕ
listed_places [] = []
listed_places (Ok place ∷ items) = place ∷ listed_places items
listed_places (Err fault ∷ items) = []

-- ---- the candidates

-- a record with everything but its path taken from another, if there is another
abbrev pub replaced : Record → Option Record → Record
replaced r None = r
replaced r (Some s) = record s { path = r.path }

-- the shared record at index i; if i is a replace position, everything but the path is that of its split record
abbrev pub candidate : List Record → List ℕ → ℕ → Record → Record
candidate split replace i r = replaced r (option_and_then (slice_get split) (position_from (λ p. p == i) 0 replace))

-- the candidates of shared records, of which the first has index i
abbrev pub candidates_from : List Record → List ℕ → ℕ → List Record → List Record
candidates_from split replace i [] = []
candidates_from split replace i (r ∷ rs) = candidate split replace i r ∷ candidates_from split replace (i + 1) rs

-- the shared records, and then the split ones that replace none
abbrev pub candidates : List Record → List Record → List ℕ → List Record
candidates shared split replace = candidates_from split replace 0 shared ++ drop (length replace) split

-- the records at no delete position that aren't marked REMOVE; the first has index i
abbrev pub retained_from : List ℕ → ℕ → List Record → List Record
retained_from delete i [] = []
retained_from delete i (r ∷ rs) =
    if list_any (λ p. p == i) delete || is_removed r.flags then retained_from delete (i + 1) rs
    else r ∷ retained_from delete (i + 1) rs

-- ---- the errors, as texts

abbrev pub first_of : Option (List ℕ) → Option (List ℕ) → Option (List ℕ)
first_of None o = o
first_of (Some fault) o = Some fault

-- the error of replacing a shared record by a split one, or by none if no split record is left
abbrev pub replaced_record_fault : Record → Option Record → Option (List ℕ)
replaced_record_fault r None =
    if is_removed r.flags then Some (codes "entry is marked as both replace and delete")
    else Some
    (codes "replace bitmap length exceeds split index length - more entries in bitmap than found in split index")
replaced_record_fault r (Some s) =
    if is_removed r.flags then Some (codes "entry is marked as both replace and delete")
    else (if not (length s.path == 0)
    then Some (codes "paths in split index entries that are for replacement should be empty")
    else (if length r.path == 0 then Some (codes "paths in shared index entries that are replaced should not be empty")
    else None))

-- the error of replacing at a position, which may have no shared record
abbrev pub place_fault : Option Record → Option Record → Option (List ℕ)
place_fault None s =
    Some (codes "replace bitmap length exceeds shared index length - more entries in bitmap than found in shared index")
place_fault (Some r) s = replaced_record_fault r s

-- the first error of the replace positions, of which the first takes split record j
abbrev pub replace_fault : List Record → List Record → ℕ → List (Result ℕ Malformed) → Option (List ℕ)
replace_fault shared split j [] = None
replace_fault shared split j (Ok place ∷ items) =
    first_of (place_fault (slice_get shared place) (slice_get split j)) (replace_fault shared split (j + 1) items)
replace_fault shared split j (Err fault ∷ items) = Some (codes "replace bitmap is malformed")

-- the first error of the delete positions among `n` candidates
abbrev pub delete_fault : ℕ → List (Result ℕ Malformed) → Option (List ℕ)
delete_fault n [] = None
delete_fault n (Ok place ∷ items) =
    if nat_le n place
    then Some
    (codes "delete bitmap length exceeds shared index length - more entries in bitmap than found in shared index")
    else delete_fault n items
delete_fault n (Err fault ∷ items) = Some (codes "delete bitmap is malformed")

abbrev pub merge_fault : List Record → List Record → List (Result ℕ Malformed) → List (Result ℕ Malformed)
    → Option (List ℕ)
merge_fault shared split delete replace =
    first_of (replace_fault shared split 0 replace)
    (delete_fault (length (candidates shared split (listed_places replace))) delete)

-- ---- the merge

-- the items that two bitmaps of these words list
pub record AreListed (delete_words replace_words : List ℕ) (delete replace : List (Result ℕ Malformed)) : Type 0 where
  pub of_delete : ListPlaces delete delete_words
  pub of_replace : ListPlaces replace replace_words

-- the bitmaps have no error, and the records are the retained candidates, sorted stably by path and stage
pub record IsMerge (delete_words replace_words : List ℕ) (shared split merged : List Record) : Type 0 where
  pub delete : List (Result ℕ Malformed)
  pub replace : List (Result ℕ Malformed)
  pub listed : AreListed delete_words replace_words delete replace
  pub sound : merge_fault shared split delete replace ≡ None
  pub permutation : IsPermutation
      (retained_from (listed_places delete) 0 (candidates shared split (listed_places replace))) merged
  pub sorted : IsSorted record_cmp merged
  pub stable : IsStable record_cmp
      (retained_from (listed_places delete) 0 (candidates shared split (listed_places replace))) merged

-- the first error of the bitmaps
pub record IsMergeFault (delete_words replace_words : List ℕ) (shared split : List Record) (fault : List ℕ)
    : Type 0 where
  pub delete : List (Result ℕ Malformed)
  pub replace : List (Result ℕ Malformed)
  pub listed : AreListed delete_words replace_words delete replace
  pub is : merge_fault shared split delete replace ≡ Some fault
