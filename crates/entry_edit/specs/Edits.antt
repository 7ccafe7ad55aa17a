-- The records that a staged entry replaces, and the list after it (git-update-index, "--replace" and "--cacheinfo";
-- gitformat-index, "Index entries are sorted in ascending order"). Each definition is for any list.
use Rattle.std.specs.Prelude.{◌≡◌, ℕ, ◌==◌, ◌&&◌, ◌||◌, Bool, true, false, not, nat_lt, List, All, Contains, filter}
use Rattle.std.specs.Prelude.{length}
use Rattle.std.specs.Prelude.{bit_and, slice_set}
use Rattle.std.specs.List.{insert, list_any}
use Rattle.entry_list.specs.Order.{IsStrictlyOrdered, record_stage}
use Rattle.entry_list.specs.Record.{Record}
use Rattle.entry_lookup.specs.Closest.{is_below}
use Rattle.entry_lookup.specs.Lookup.{HasKey, IsKeyAt, insertion_of}
use Rattle.entry_lookup.specs.Range.{is_at}
use Rattle.entry_list.specs.declared.Pathless.{Pathless}
use Rattle.entry_edit.specs.declared.stage.Displaced.{Displaced}

-- at the same stage, one is a file where the other needs a directory
abbrev pub have_df_conflict : Record → Record → Bool
have_df_conflict r q = (record_stage q == record_stage r) && (is_below r.path q || is_below q.path r)

-- the record has the new one's path, at its stage or, if the new one is merged, at any stage
abbrev pub is_succeeded : Record → Record → Bool
is_succeeded new r = is_at new.path r && ((record_stage new == 0) || (record_stage r == record_stage new))

-- the new record replaces this one
abbrev pub is_displaced : Record → Record → Bool
is_displaced new r = is_succeeded new r || have_df_conflict new r

-- the records that the new one replaces
abbrev pub displaced : Record → List Record → List Record
displaced new rs = filter (is_displaced new) rs

-- the list with the new record at its position, after those that are below it by path, then stage
abbrev pub put_in : Record → List Record → List Record
put_in new rs = insert rs (insertion_of new.path (record_stage new) rs) new

-- the list without the records that the new one replaces, and with the new record
unfoldable pub staged : Record → List Record → List Record
staged new rs = put_in new (filter (λ r. not (is_displaced new r)) rs)

-- the entry at stage 0: bits 12 and 13 are clear
abbrev pub merged : Pathless → Pathless
merged e = record e { flags = record { 0 = bit_and e.flags.0 0xffffcfff } }

-- the list without any stage of the path
unfoldable pub unstaged : List ℕ → List Record → List Record
unstaged path rs = filter (λ r. not (is_at path r)) rs

-- none is a file where another of its stage needs a directory
pub record LieApart (rs : List Record) : Type 0 where
  pub apart : (r q : Record) → Contains rs r → Contains rs q → have_df_conflict r q ≡ false

-- how many records are replaced, and whether the stages of a conflict are among them
pub record AreDisplacedCounts (new : Record) (rs : List Record) (told : Displaced) : Type 0 where
  pub count : told.count ≡ length (displaced new rs)
  pub conflict : told.conflict ≡ list_any (λ r. nat_lt 0 (record_stage r)) (displaced new rs)

-- The list after it has the new record staged. Path and stage strictly increase again. None is a file where another
-- needs a directory, if none was. A record that isn't replaced is still there. If only the record of its path and its
-- stage is replaced, the new record is at its index. If none is replaced, and none has the path, removing the path
-- gives the list back.
pub record IsStagedInto (new : Record) (old now : List Record) : Type 0 where
  pub is : now ≡ staged new old
  pub ordered : IsStrictlyOrdered now
  pub apart : LieApart old → LieApart now
  pub others : (r : Record) → Contains old r → is_displaced new r ≡ false → Contains now r
  pub again : (i : ℕ) → IsKeyAt new.path (record_stage new) old i
      → All (λ r. is_displaced new r ≡ true → HasKey new.path (record_stage new) r) old → now ≡ slice_set old i new
  pub back : All (λ r. is_displaced new r ≡ false) old → All (λ r. is_at new.path r ≡ false) old
      → unstaged new.path now ≡ old

-- The list after it lacks the path. Path and stage strictly increase again. None is a file where another needs a
-- directory, if none was. A record with another path is still there.
pub record IsUnstagedFrom (path : List ℕ) (old now : List Record) : Type 0 where
  pub is : now ≡ unstaged path old
  pub ordered : IsStrictlyOrdered now
  pub apart : LieApart old → LieApart now
  pub others : (r : Record) → Contains old r → is_at path r ≡ false → Contains now r

-- a merged record is staged, and no other record has its path
pub record IsResolvedInto (new : Record) (old now : List Record) : Type 0 where
  pub staged : IsStagedInto new old now
  pub merged : record_stage new ≡ 0
  pub alone : (r : Record) → Contains now r → is_at new.path r ≡ true → r ≡ new
