-- What stays of entries whose size is set to 0.
use Rattle.std.proofs.Common.{◌≡◌, ◌+◌, ◌≤◌, ◌<◌, ℕ, Bool, true, false, List, [], ◌∷◌, ◌++◌, All, length, map}
use Rattle.std.proofs.Common.{take, drop, get_or, set, refl, inr, sym, subst, ap, ◌∙◌, cond, rules, arith}
use Rattle.std.specs.Prelude.{◌≢◌}
use Rattle.std.proofs.lemmas.Grind.{drop_more_same}
use Rattle.std.proofs.lemmas.List.{drop-set-lt, get_or-drop, length-drop, map-append, take_more, take_more_set}
use Rattle.std.proofs.lemmas.List.Elements.{All-nil, All-cons, All-map, All-weaker}
use Rattle.index_parts.specs.Id.{id_kind}
use Rattle.index_parts.specs.declared.hash.Kind.{Kind}
use Rattle.entry_fields.specs.declared.entry.stat.FileTime.{FileTime}
use Rattle.entry_list.specs.Record.{IdsAreOf, IsPlaced, IsSized, Record, record_in, records_in}
use Rattle.entry_list.specs.declared.Entry.{Entry}
use Rattle.index_state.specs.Edits.{with_records}
use Rattle.index_state.specs.Racy.{MayBeTrusted, is_smudged, smudged, smudged_entry}
use Rattle.index_model.specs.Contents.{Contents}
use Rattle.index_model.specs.Storable.{IsStorable}

-- a property of each element that is preserved by the change holds for each changed one
pub all_mapped : {A B : Type 0} (P : A → Type 0) (Q : B → Type 0) (f : A → B) → ((x : A) → P x → Q (f x))
    → (xs : List A) → All P xs → All Q (map f xs)
all_mapped P Q f each xs h = All-map Q f xs (All-weaker P (λ x. Q (f x)) each xs h)

pub all_of : {A : Type 0} (P : A → Type 0) → ((x : A) → P x) → (xs : List A) → All P xs
all_of P each [] = All-nil P
all_of P each (x ∷ xs) = All-cons P x xs (each x) (all_of P each xs)

-- ---- each in its place

module _ {A : Type 0} (f : A → A) (old xs : List A) (i : ℕ) (inside : i < length xs) (rest : drop i xs ≡ drop i old) where
  still_inside : i < length old
  still_inside = omega (arith, ap (λ (l : List A). length l) rest, length-drop i xs, length-drop i old)

  same_element : (d : A) → get_or xs i d ≡ get_or old i d
  same_element d =
      let here : (l : List A) → get_or (drop i l) 0 d ≡ get_or l i d =
      λ l. get_or-drop i l 0 d ∙ ap (λ n. get_or l n d) (omega arith) in
      sym (here xs) ∙ ap (λ (l : List A). get_or l 0 d) rest ∙ here old

  pub one_more : (d x : A) → x ≡ f (get_or xs i d) → take i xs ≡ map f (take i old)
      → take (i + 1) (set xs i x) ≡ map f (take (i + 1) old)
  one_more d x is front =
      take_more_set xs i x inside
      ∙ ap (λ (l : List A). l ++ x ∷ []) front
      ∙ ap (λ (y : A). map f (take i old) ++ y ∷ []) (is ∙ ap f (same_element d))
      ∙ sym (map-append f (take i old) (get_or old i d ∷ []))
      ∙ ap (map f) (sym (take_more old i d still_inside))

  pub others_stay : (x : A) → drop (i + 1) (set xs i x) ≡ drop (i + 1) old
  others_stay x = drop-set-lt (i + 1) xs i x (omega arith) ∙ drop_more_same xs old i rest

pub records_smudged : (time : FileTime) (storage : List ℕ) (es : List Entry)
    → records_in storage (map (smudged_entry time) es) ≡ map (smudged time) (records_in storage es)
records_smudged time storage [] = refl
records_smudged time storage (e ∷ es) =
    let rest = records_smudged time storage es in
    subst (λ rs. record_in storage (smudged_entry time e) ∷ records_in storage (map (smudged_entry time) es)
    ≡ smudged time (record_in storage e) ∷ rs) rest refl

sized_so : (b : Bool) (r : Record) → IsSized r
    → IsSized (record r { stat = (cond b (record r.stat { size = 0 }) r.stat) })
sized_so true r p = record {
  ctime_secs = p.ctime_secs;
  ctime_nsecs = p.ctime_nsecs;
  mtime_secs = p.mtime_secs;
  mtime_nsecs = p.mtime_nsecs;
  dev = p.dev;
  ino = p.ino;
  uid = p.uid;
  gid = p.gid;
  size = search rules;
  mode = p.mode;
  id = p.id;
}
sized_so false r p = record {
  ctime_secs = p.ctime_secs;
  ctime_nsecs = p.ctime_nsecs;
  mtime_secs = p.mtime_secs;
  mtime_nsecs = p.mtime_nsecs;
  dev = p.dev;
  ino = p.ino;
  uid = p.uid;
  gid = p.gid;
  size = p.size;
  mode = p.mode;
  id = p.id;
}

pub smudged_storable : (time : FileTime) (v : Contents) → IsStorable v
    → IsStorable (with_records v (map (smudged time) v.records))
smudged_storable time v h = record {
  ids = all_mapped (λ r. id_kind r.id ≡ v.kind) (λ r. id_kind r.id ≡ v.kind) (smudged time) (λ r p. p) v.records h.ids;
  paths = all_mapped (λ r. 4095 ≤ length r.path → All (λ b. b ≢ 0) r.path)
      (λ r. 4095 ≤ length r.path → All (λ b. b ≢ 0) r.path) (smudged time) (λ r p. p) v.records h.paths;
  fits = all_mapped IsSized IsSized (smudged time)
      (λ r p. sized_so (is_smudged time r.mode r.stat) r p) v.records h.fits;
  tree = h.tree;
}

pub smudged_placed : (time : FileTime) (len : ℕ) (es : List Entry) → All (IsPlaced len) es
    → All (IsPlaced len) (map (smudged_entry time) es)
smudged_placed time len es h =
    all_mapped (IsPlaced len) (IsPlaced len) (smudged_entry time)
    (λ e p. record { inside = p.inside }) es h

pub smudged_ids : (time : FileTime) (kind : Kind) (es : List Entry) → IdsAreOf kind es
    → IdsAreOf kind (map (smudged_entry time) es)
smudged_ids time kind es h =
    all_mapped (λ e. id_kind e.id ≡ kind) (λ e. id_kind e.id ≡ kind) (smudged_entry time) (λ e p. p) es h

-- what may be trusted then, may have been before
trusted_so : (b : Bool) (time : FileTime) (r : Record) → is_smudged time r.mode r.stat ≡ b
    → (cond b (record r.stat { size = 0 }) r.stat).size ≢ 0 → MayBeTrusted time r
trusted_so true time r is h = absurd (h refl)
trusted_so false time r is h = record { in_time = inr is; sized = h }

pub trusted_before : (time later : FileTime) (r : Record) → MayBeTrusted later (smudged time r) → MayBeTrusted time r
trusted_before time later r h = trusted_so (is_smudged time r.mode r.stat) time r refl h.sized
