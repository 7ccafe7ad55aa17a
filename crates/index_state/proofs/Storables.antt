-- An empty index is storable, and so is one of leaves only. A storable index stays storable if a storable entry is
-- added, if entries are moved, and if one is removed.
use Rattle.std.proofs.Common.{◌≡◌, ℕ, ◌<◌, ◌≤◌, Bool, false, List, ◌∷◌, length, get_or, All, ap, ◌∙◌}
use Rattle.std.specs.Prelude.{◌≢◌, IfSome}
use Rattle.std.proofs.lemmas.List.Elements.{All-nil, All-push, All-tail, All-weaker}
use Rattle.std.specs.List.{remove}
use Rattle.std.specs.List.Sorted.{IsPermutation}
use Rattle.std.proofs.lemmas.List.Sorted.{All-permutation, IsPermutation-map, IsPermutation-remove}
use Rattle.index_parts.specs.Id.{id_kind}
use Rattle.index_parts.specs.declared.hash.Kind.{Kind}
use Rattle.entry_fields.specs.declared.entry.stat.FileTime.{FileTime}
use Rattle.entry_list.specs.Held.{Appends}
use Rattle.entry_list.specs.declared.Entry.{Entry}
use Rattle.entry_list.specs.Record.{IdsAreOf, Record, IsSized, record_in, records_in}
use Rattle.entry_list.specs.Storable.{IsStorableIn}
use Rattle.ext_tree.specs.StoredTree.{IsStorableTree}
use Rattle.tree_decode.proofs.Fits.{FitsFile}
use Rattle.index_state.specs.Edits.{edited, empty_contents, refit, with_record, with_records}
use Rattle.index_model.specs.Contents.{Contents}
use Rattle.index_model.specs.Storable.{IsStorable}

abbrev HasLegalPath : Record → Type 0
HasLegalPath r = 4095 ≤ length r.path → All (λ b. b ≢ 0) r.path

pub empty_storable : (kind : Kind) (time : FileTime) → IsStorable (empty_contents kind time)
empty_storable kind time = record {
  ids = All-nil (λ r. id_kind r.id ≡ kind);
  paths = All-nil HasLegalPath;
  fits = All-nil IsSized;
  tree = tt;
}

pub push_storable : (v : Contents) (r : Record) → IsStorable v → id_kind r.id ≡ v.kind
    → (4095 ≤ length r.path → All (λ b. b ≢ 0) r.path) → IsSized r → IsStorable (with_record v r)
push_storable v r h id path fits = record {
  ids = All-push (λ x. id_kind x.id ≡ v.kind) v.records r h.ids id;
  paths =
      All-push HasLegalPath v.records r h.paths path;
  fits = All-push IsSized v.records r h.fits fits;
  tree = h.tree;
}

-- Other records instead of the value's. Each property that all of those have, all of these have.
keeps_storable : (v : Contents) (rs : List Record) (fit : Bool) → IsStorable v
    → ((P : Record → Type 0) → All P v.records → All P rs) → IsStorable (refit v rs fit)
keeps_storable v rs fit h keeps = record {
  ids = keeps (λ r. id_kind r.id ≡ v.kind) h.ids;
  paths = keeps HasLegalPath h.paths;
  fits = keeps IsSized h.fits;
  tree = h.tree;
}

pub permuted_storable : (v : Contents) (rs : List Record) (fit : Bool) → IsPermutation v.records rs → IsStorable v
    → IsStorable (refit v rs fit)
permuted_storable v rs fit moved h = keeps_storable v rs fit h (λ P. All-permutation P v.records rs moved)

pub fewer_storable : (v : Contents) (storage : List ℕ) (es : List Entry) (i : ℕ) (e : Entry)
    → v.records ≡ records_in storage es → i < length es → e ≡ get_or es i e → IsStorable v
    → IsStorable (edited v (records_in storage (remove es i)))
fewer_storable v storage es i e is inside read h =
    let moved : IsPermutation (records_in storage es) (record_in storage e ∷ records_in storage (remove es i)) =
    IsPermutation-map (record_in storage) es (e ∷ remove es i) (IsPermutation-remove es i e inside read) in
    keeps_storable v (records_in storage (remove es i)) false h (λ P a. All-tail P (record_in storage e)
    (records_in storage (remove es i)) (All-permutation P (records_in storage es) _ moved (rw is at a)))

-- all ids are of a hash algorithm if an entry of that algorithm is appended
pub appended_ids : (kind : Kind) (s : List ℕ) (es : List Entry) (r : Record) (t : List ℕ) (fs : List Entry)
    → Appends s es r t fs → IdsAreOf kind es → id_kind r.id ≡ kind → IdsAreOf kind fs
appended_ids kind s es r t fs a h same =
    rw a.entries (All-push (λ e. id_kind e.id ≡ kind) es a.entry h (ap (λ (x : Record). id_kind x.id) a.is ∙ same))

-- records that a file holds all of, in an index with nothing else
pub fitting_storable : (kind : Kind) (time : FileTime) (rs : List Record) → All (FitsFile kind) rs
    → IsStorable (with_records (empty_contents kind time) rs)
fitting_storable kind time rs h = record {
  ids = All-weaker (FitsFile kind) (λ r. id_kind r.id ≡ kind) (λ r f. f.id) rs h;
  paths = All-weaker (FitsFile kind) HasLegalPath (λ r f long. f.path) rs h;
  fits = All-weaker (FitsFile kind) IsSized (λ r f. f.sized) rs h;
  tree = tt;
}

-- ---- what is looked at

-- the records are storable one by one, and so is the tree
pub parts_storable : (v : Contents) → All (IsStorableIn v.kind) v.records
    → IfSome v.extensions.tree (IsStorableTree v.kind) → IsStorable v
parts_storable v all tree = record {
  ids = All-weaker (IsStorableIn v.kind) (λ r. id_kind r.id ≡ v.kind) (λ r h. h.id) v.records all;
  paths = All-weaker (IsStorableIn v.kind) HasLegalPath (λ r h. h.plain) v.records all;
  fits = All-weaker (IsStorableIn v.kind) IsSized (λ r h. h.fits) v.records all;
  tree = tree;
}

pub each_storable : (v : Contents) → IsStorable v → All (IsStorableIn v.kind) v.records
each_storable v h = λ i d within. record { id = h.ids i d within; plain = h.paths i d within; fits = h.fits i d within }
