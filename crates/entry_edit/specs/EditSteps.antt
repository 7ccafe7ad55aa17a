-- A list around the position of a new record, and the other records that it replaces (the library's own). The clauses
-- of steps use these definitions, and those of complete edits don't.
use Rattle.std.specs.Prelude.{◌≡◌, ℕ, ◌==◌, nat_eq, ◌&&◌, Bool, false, not, List, [], ◌∷◌, ◌++◌, All, if◌then◌else◌}
use Rattle.std.specs.Prelude.{◌<◌, ◌≤◌, Option, Result, drop, filter, length, position, slice_index, take}
use Rattle.std.specs.List.{insert, list_any, starts_with}
use Rattle.std.specs.declared.cmp.Ordering.TheVariants.{Less, Greater}
use Rattle.entry_list.specs.Order.{IsOrderedByPath, IsStrictlyOrdered, path_cmp, record_cmp, record_stage}
use Rattle.entry_list.specs.Record.{Record, record_in, records_in, with_path}
use Rattle.entry_list.specs.declared.Entry.{Entry}
use Rattle.entry_list.specs.declared.Pathless.{Pathless}
use Rattle.entry_lookup.specs.Closest.{is_below}
use Rattle.entry_lookup.specs.Lookup.{HasKey}
use Rattle.entry_lookup.specs.Range.{begins_with, is_at}
use Rattle.entry_fields.specs.Flags.{stage_code, stage_number}
use Rattle.entry_fields.specs.declared.entry.Stage.{Stage}
use Rattle.entry_edit.specs.Edits.{have_df_conflict}
use Rattle.entry_edit.specs.EntryEdits.{Entries, PutsEntry, StayInStorage, Storage}

-- The new record is in the new list between those below it and those above it. It replaces the record of its path and
-- stage.
pub record IsPutInto (new : Record) (old now : List Record) : Type 0 where
  pub front : List Record
  pub gone : List Record
  pub behind : List Record
  pub was : old ≡ front ++ (gone ++ behind)
  pub is : now ≡ front ++ new ∷ behind
  pub below : All (λ r. record_cmp r new ≡ Less) front
  pub same : All (HasKey new.path (record_stage new)) gone
  pub above : All (λ r. record_cmp r new ≡ Greater) behind

-- an entry is put at its position
abbrev pub InsertsEntry : {T E : Type 0} → Pathless → List ℕ → Storage → Entries → Storage → Entries → Result T E
    → Type 0
InsertsEntry entry path s es t ds r = PutsEntry (IsPutInto (with_path path entry)) path s es t ds r

-- the last entry is moved to this index, before the others from there on
abbrev pub MovesLast : ℕ → List Entry → List Entry → Type 0
MovesLast place old now = (es : List Entry) (e : Entry) → old ≡ es ++ e ∷ [] → now ≡ insert es place e

-- the record of an entry with its path
abbrev pub entry_record : List ℕ → Entry → Record
entry_record path e = record { path = path; stat = e.stat; id = e.id; flags = e.flags.0; mode = e.mode.0 }

-- the record is of this stage, or without `same` of another one
abbrev pub is_of_stage : Bool → ℕ → ℕ → Bool
is_of_stage same stage n = if same then n == stage else not (n == stage)

-- the record has the path, and is a side of a conflict
abbrev pub is_side_at : List ℕ → Record → Bool
is_side_at path r = is_at path r && not (record_stage r == 0)

-- the record has the stage, and is below the path, as in a directory
abbrev pub stands_below : List ℕ → ℕ → Record → Bool
stands_below path stage r = is_below path r && (record_stage r == stage)

-- the record has the stage, and is a file where the path needs a directory
abbrev pub stands_above : List ℕ → ℕ → Record → Bool
stands_above path stage r = (record_stage r == stage) && starts_with nat_eq path (r.path ++ 47 ∷ [])

-- the new record replaces it, but it has another path or another stage
abbrev pub is_other : Record → Record → Bool
is_other new r =
    if is_at new.path r then (record_stage new == 0) && not (record_stage r == 0) else have_df_conflict new r

-- the record comes after the path, and after all that begin with it
pub record IsBeyond (path : List ℕ) (r : Record) : Type 0 where
  pub greater : path_cmp r.path path ≡ Greater
  pub apart : begins_with path r ≡ false

-- the first of the bytes of this value has this index
abbrev pub IsFirstAt : ℕ → List ℕ → ℕ → Type 0
IsFirstAt byte bytes at =
    (at < length bytes) × (slice_index bytes at ≡ byte) × All (λ b. (b == byte) ≡ false) (take at bytes)

-- if paths rise, the records from this index on come after the path, and after all that begin with it
abbrev pub AreBeyond : List ℕ → List Record → ℕ → Type 0
AreBeyond path rs count = IsOrderedByPath rs → All (IsBeyond path) (drop count rs)

-- one of the records is of this stage, or without `same` of another one
abbrev pub has_stage : Bool → ℕ → List Record → Bool
has_stage same stage rs = list_any (λ r. is_of_stage same stage (record_stage r)) rs

-- one of the stage is below the path, as in a directory
abbrev pub has_below : List ℕ → ℕ → List Record → Bool
has_below path stage rs = list_any (stands_below path stage) rs

-- the index of the first record of the stage that is a file where the path needs a directory
abbrev pub first_above : List ℕ → Stage → List Record → Option ℕ
first_above path stage rs = position (stands_above path (stage_code stage)) rs

-- one is a file where the entry at the path needs a directory, or is below the path
abbrev pub has_df_conflict : List ℕ → Pathless → List Record → Bool
has_df_conflict path entry rs = list_any (have_df_conflict (with_path path entry)) rs

-- the entry is merged, and sides of a conflict are at its path
abbrev pub ends_conflict : List ℕ → Pathless → List Record → Bool
ends_conflict path entry rs = (stage_number entry.flags.0 == 0) && list_any (is_side_at path) rs

-- no record of the stage is a file where the path needs a directory
abbrev pub IsClear : List ℕ → ℕ → List Record → Type 0
IsClear path stage rs = All (λ r. stands_above path stage r ≡ false) rs

-- no record of the entry's stage is a file where the first bytes of its path need a directory
abbrev pub IsClearUpto : ℕ → List ℕ → Pathless → List Record → Type 0
IsClearUpto known path entry rs = IsClear (take known path) (stage_number entry.flags.0) rs

-- If the records strictly increase: whether the entry at the path ends a conflict. And whether others are removed, if
-- the first bytes of the path are clear.
pub record ReportsInTheWay (known : ℕ) (path : List ℕ) (entry : Pathless) (rs : List Record)
    (told_sides told_others : Bool) : Type 0 where
  pub sides : IsStrictlyOrdered rs → told_sides ≡ ends_conflict path entry rs
  pub others : IsStrictlyOrdered rs → IsClearUpto known path entry rs
      → told_others ≡ list_any (is_other (with_path path entry)) rs

-- the entries that the new record doesn't replace
abbrev pub staying : List ℕ → Record → List Entry → List Entry
staying storage new es = filter (λ e. not (is_other new (record_in storage e))) es

-- If the records strictly increase, those entries are removed that the new record replaces, and that have another path
-- or another stage.
pub record RemovesOthers (new : Record) (storage : List ℕ) (old now : Entries) : Type 0 where
  pub left : IsStrictlyOrdered (records_in storage old.items)
      → records_in storage now.items ≡ filter (λ r. not (is_other new r)) (records_in storage old.items)
  pub fewer : length now.items ≤ length old.items
  pub placed : StayInStorage storage old.items storage now.items
