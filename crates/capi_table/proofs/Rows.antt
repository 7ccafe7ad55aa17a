-- A value whose records are replaced.
use Rattle.std.proofs.Common.{◌≡◌, ℕ, Bool, true, false, not, List, [], ◌∷◌, ◌++◌, All, filter, length, map, refl, ap}
use Rattle.std.proofs.Common.{◌∙◌}
use Rattle.std.proofs.lemmas.List.Elements.{All-nil}
use Rattle.gix_index.specs.Contents.{Contents}
use Rattle.gix_index.specs.Edits.{edited, empty_contents, refit}
use Rattle.gix_index.specs.EntryImage.{written}
use Rattle.gix_index.specs.EntryType.{Entry}
use Rattle.gix_index.specs.FileTime.{FileTime}
use Rattle.gix_index.specs.Kind.{Kind}
use Rattle.gix_index.specs.Record.{IsPlaced, Record, record_in}
use Rattle.gix_index.specs.State.{PathsInStorage, entries_of, records, storage_of}
use Rattle.gix_index.specs.StateType.{State}
use Rattle.capi_table.specs.Table.{records_of}
use Rattle.capi_table.specs.Writing.{IsSpelledBy}
use Rattle.capi_table.specs.declared.row.Row.{Row}

-- set twice, it has the later ones
pub set_again : (v w u : Contents) (rs : List Record) → w ≡ refit v w.records w.fit → u ≡ refit w rs u.fit
    → u ≡ refit v rs u.fit
set_again v w u rs e f = f ∙ ap (λ (x : Contents). refit x rs u.fit) e

-- all are inserted if there were none any more, and extensions that weren't known to fit
pub put_anew : (v w u : Contents) (rs : List Record) → w ≡ edited v [] → u ≡ refit w (w.records ++ rs) u.fit
    → (w.fit ≡ false → u.fit ≡ false) → u ≡ edited v rs
put_anew v w u rs e f unfit =
    f ∙ ap (λ (x : Contents). refit x (x.records ++ rs) u.fit) e
    ∙ ap (λ (b : Bool). refit v rs b) (unfit (ap (λ (x : Contents). x.fit) e))

no_records : (rs : List Record) → filter (λ (r : Record). not true) rs ≡ []
no_records [] = refl
no_records (r ∷ rs) = no_records rs

-- if all are removed, there is none
pub none_left : (v w : Contents) → w ≡ edited v w.records → w.records ≡ filter (λ r. not true) v.records
    → w ≡ edited v []
none_left v w e h = e ∙ ap (edited v) (h ∙ no_records v.records)

-- if there is no record, no path is outside of the storage
pub none_placed : (s : State) → records s ≡ [] → PathsInStorage s
none_placed s e = by (entries_of s) e
  where
    by : (es : List Entry) → map (record_in (storage_of s)) es ≡ [] → All (IsPlaced (length (storage_of s))) es
    by [] e = All-nil (IsPlaced (length (storage_of s)))
    by (x ∷ es) e = absurd cc

-- an empty value into which the records of rows are put
pub spelled_from : (kind : Kind) (time : FileTime) (paths : List ℕ) (rows : List Row) (v w : Contents)
    → v ≡ empty_contents kind time
    → w ≡ refit v (v.records ++ written (records_of paths rows)) w.fit → IsSpelledBy kind paths rows w
spelled_from kind time paths rows v w e f = record {
  kind_is = ap (λ (x : Contents). x.kind) f ∙ ap (λ (x : Contents). x.kind) e;
  records_are = ap (λ (x : Contents). x.records) f ∙ ap (λ (x : Contents). x.records ++ written (records_of paths rows)) e;
  bare = ap (λ (x : Contents). x.extensions) f ∙ ap (λ (x : Contents). x.extensions) e;
}
