-- The effects of the steps of a merge (gitformat-index, "Split index"). Public clauses cite none of these.
use Rattle.std.specs.Prelude.{◌≡◌, ℕ, zero, suc, ◌<◌, ◌||◌, ◌==◌, false, slice_index_or, List, [], ◌∷◌, length, None}
use Rattle.std.specs.Prelude.{Some, Result}
use Rattle.std.specs.List.{list_any}
use Rattle.ext_bitmap.specs.Bits.{ListPlaces}
use Rattle.ext_bitmap.specs.declared.ewah.iter.Malformed.{Malformed}
use Rattle.entry_list.specs.declared.Entry.{Entry}
use Rattle.ext_split.specs.declared.merge.Error.{Error}
use Rattle.ext_split.specs.declared.merge.Error.TheVariants as errors
use Rattle.ext_split.specs.declared.link.decode.Error.{Error as LinkError}
use Rattle.ext_split.specs.declared.link.decode.Error.TheVariants as links
use Rattle.entry_list.specs.EntryImage.{is_removed}
use Rattle.ext_split.specs.Merge.{listed_places, candidates_from, retained_from, replace_fault, delete_fault}
use Rattle.entry_list.specs.Record.{Record}

-- what an error implies: it is the first error; out of memory implies nothing
abbrev pub MergeCause : Error → (List ℕ → Type 0) → Type 0
MergeCause (errors.Corrupt text) P = P text.now
MergeCause errors.Memory P = Unit {0}

-- the link's error for an error of merging entries
abbrev pub merge_error : Error → LinkError
merge_error (errors.Corrupt text) = links.Corrupt text
merge_error errors.Memory = links.Memory

-- ---- replacing

-- no replace position has an error, and `taken` split records were used
pub record ReplacesEntries (words : List ℕ) (shared split new : List Record) (taken : ℕ) : Type 0 where
  pub items : List (Result ℕ Malformed)
  pub listed : ListPlaces items words
  pub sound : replace_fault shared split 0 items ≡ None
  pub number : taken ≡ length (listed_places items)
  pub replaced : new ≡ candidates_from split (listed_places items) 0 shared

pub record IsReplaceFault (words : List ℕ) (shared split : List Record) (fault : List ℕ) : Type 0 where
  pub items : List (Result ℕ Malformed)
  pub listed : ListPlaces items words
  pub is : replace_fault shared split 0 items ≡ Some fault

-- the list with the element at index k changed, if there is one
abbrev pub changed_at : {X : Type 0} → (X → X) → ℕ → List X → List X
changed_at f k [] = []
changed_at f zero (x ∷ xs) = f x ∷ xs
changed_at f (suc k) (x ∷ xs) = x ∷ changed_at f k xs

-- ---- deleting

-- The entry at index i, marked if i is one of these positions. Otherwise it is unchanged.
pub record IsRemovedAt (places : List ℕ) (i : ℕ) (old new : Entry) : Type 0 where
  pub removed : is_removed new.flags.0 ≡ (list_any (λ p. p == i) places || is_removed old.flags.0)
  pub same : list_any (λ p. p == i) places ≡ false → new ≡ old
  pub range : new.path ≡ old.path

-- lists of equal length, in which each new entry is marked if its index is one of these positions
pub record AreRemovedAt (places : List ℕ) (old new : List Entry) : Type 0 where
  pub len : length new ≡ length old
  pub each : (k : ℕ) (d : Entry) → k < length old
      → IsRemovedAt places k (slice_index_or old k d) (slice_index_or new k d)

-- no delete position has an error, and each of them is marked
pub record RemovesAt (words : List ℕ) (old new : List Entry) : Type 0 where
  pub items : List (Result ℕ Malformed)
  pub listed : ListPlaces items words
  pub sound : delete_fault (length old) items ≡ None
  pub marked : AreRemovedAt (listed_places items) old new

-- no delete position has an error, and the records at no such position are retained
pub record Keeps (words : List ℕ) (old new : List Record) : Type 0 where
  pub items : List (Result ℕ Malformed)
  pub listed : ListPlaces items words
  pub sound : delete_fault (length old) items ≡ None
  pub retained : new ≡ retained_from (listed_places items) 0 old

pub record IsDeleteFault (words : List ℕ) (n : ℕ) (fault : List ℕ) : Type 0 where
  pub items : List (Result ℕ Malformed)
  pub listed : ListPlaces items words
  pub is : delete_fault n items ≡ Some fault
