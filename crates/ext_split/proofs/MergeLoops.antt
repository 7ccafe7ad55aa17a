-- What the loops of a merge have done so far.
use Rattle.std.specs.Prelude.{◌≡◌, ℕ, List, ◌++◌, length, map, Result, Ok}
use Rattle.ext_bitmap.specs.Ascending.{Ascends}
use Rattle.ext_bitmap.specs.Bits.{ListPlaces}
use Rattle.ext_bitmap.specs.declared.ewah.iter.Malformed.{Malformed}
use Rattle.entry_list.specs.Record.{Record}
use Rattle.entry_list.specs.declared.Entry.{Entry}
use Rattle.ext_split.specs.Merge.{candidates_from, delete_fault, replace_fault}
use Rattle.ext_split.specs.MergeSteps.{AreRemovedAt}

-- some shared records are replaced, and these items of the bitmap are left
pub record IsReplacing (words : List ℕ) (shared split : List Record) (rest : List (Result ℕ Malformed)) (taken : ℕ)
    (now : List Record) : Type 0 where
  pub seen : List ℕ
  pub listed : ListPlaces (map Ok seen ++ rest) words
  pub ascending : Ascends 0 (map Ok seen ++ rest)
  pub sound : replace_fault shared split 0 (map Ok seen ++ rest) ≡ replace_fault shared split taken rest
  pub number : taken ≡ length seen
  pub replaced : now ≡ candidates_from split seen 0 shared

-- some entries are marked, and these items of the bitmap are left
pub record IsMarking (words : List ℕ) (old : List Entry) (rest : List (Result ℕ Malformed))
    (now : List Entry) : Type 0 where
  pub seen : List ℕ
  pub listed : ListPlaces (map Ok seen ++ rest) words
  pub sound : delete_fault (length old) (map Ok seen ++ rest) ≡ delete_fault (length old) rest
  pub marked : AreRemovedAt seen old now
