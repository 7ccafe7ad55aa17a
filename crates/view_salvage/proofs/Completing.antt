-- An index that is merged with its shared one, or stays as it is.
use Rattle.std.proofs.Common.{◌≡◌, ◌⊎◌, inl, inr, ℕ, ◌==◌, ◌||◌, Bool, true, false, List, [], ◌∷◌, Option, Some, None}
use Rattle.std.proofs.Common.{Result, Err, option_map, refl, sym, ap, subst, ◌∙◌}
use Rattle.std.specs.Prelude.{IsOk, IsSome, is_some}
use Rattle.std.specs.List.{list_any}
use Rattle.gix_index.specs.Contents.{Contents}
use Rattle.gix_index.specs.Dissolve.{IsDissolved, IsDissolveFault, MergesBy}
use Rattle.gix_index.specs.Edits.{IsUnchanged, empty_contents, refit, with_records}
use Rattle.gix_index.specs.EntryType.{Entry}
use Rattle.gix_index.specs.FileTime.{FileTime}
use Rattle.gix_index.specs.Id.{id_bytes, is_null}
use Rattle.gix_index.specs.Kind.{Kind}
use Rattle.gix_index.specs.Link.{BitmapPair, LinkFault, LinkValue, link_of}
use Rattle.gix_index.specs.Mode.{directory_mode}
use Rattle.gix_index.specs.Record.{Record, has_directory, records_in}
use Rattle.gix_index.specs.Sorted.{IsOrdered}
use Rattle.gix_index.specs.Outcome.{Outcome, no_extension}
use Rattle.gix_index.specs.State.{PathsInStorage, contents, entries_of, records, storage_of}
use Rattle.gix_index.specs.StateType.{State}
use Rattle.gix_index.specs.Storable.{IsStorable}
use Rattle.gix_index.specs.Version.TheVariants.{V2}
use Rattle.view_salvage.specs.Remains.{IsPlainIndex, with_mark}
use Rattle.view_salvage.specs.Salvage.{CanBeShared, IsCompleted, IsWanted, MergesByBitmaps, MergesOrSorts}
use Rattle.view_salvage.specs.Salvage.{absent, merged, unfit, unlinked, unread, unshared}
use Rattle.view_salvage.specs.declared.chosen.Keep.{Keep}
use Rattle.view_salvage.specs.declared.chosen.Keep.TheVariants.{All}
use Rattle.view_salvage.specs.declared.remains.Remains.{Remains}
use Rattle.view_salvage.specs.SalvageSteps.{Completes, IsIndexOf}
use Rattle.view_salvage.specs.declared.salvage.SharedEntries.{SharedEntries}
use Rattle.view_salvage.specs.declared.salvage.SharedEntries.TheVariants as fates

-- ---- plain indices

pub index_of : (s : State) → IsPlainIndex s → IsIndexOf (contents s).kind (records s) s
index_of s h = record {
  time = (contents s).time;
  sparse = has_directory (records s);
  fit = true;
  is = h.alone;
  placed = h.placed;
  storable = h.storable;
}

-- with other records it is an index of these
index_moved : (old new : State) (fit : Bool) → contents new ≡ refit (contents old) (records new) fit
    → IsPlainIndex old → PathsInStorage new → IsStorable (contents new)
    → IsIndexOf (contents old).kind (records new) new
index_moved old new fit e h placed storable = record {
  time = (contents old).time;
  sparse = has_directory (records old);
  fit = fit;
  is = e ∙ ap (λ (c : Contents). refit c (records new) fit) h.alone;
  placed = placed;
  storable = storable;
}

-- ---- the mark of a sparse index

mark_storable : (v : Contents) (sparse fit : Bool) → IsStorable v
    → IsStorable (refit (with_mark v sparse) v.records fit)
mark_storable v sparse fit h = record { ids = h.ids; paths = h.paths; fits = h.fits; tree = h.tree }

abbrev marked_as : State → Contents
marked_as s = with_mark (with_records (empty_contents (contents s).kind (contents s).time) (records s))
    (has_directory (records s))

same_time : (s : State) (h : IsIndexOf (contents s).kind (records s) s) → h.time ≡ (contents s).time
same_time s h = sym (ap (λ (c : Contents). c.time) h.is)

-- an index with the mark that its entries ask for, and nothing else
pub plain_marked : (old new : State) → IsIndexOf (contents old).kind (records old) old
    → contents new ≡ marked_as old → PathsInStorage new → IsPlainIndex new
plain_marked old new h e placed = record {
  alone = subst (λ (c : Contents). c ≡ with_mark (with_records (empty_contents c.kind c.time) c.records)
      (has_directory c.records)) (sym e) refl;
  placed = placed;
  storable = subst IsStorable (sym (e ∙ sym same))
      (mark_storable (contents old) (has_directory (records old)) true h.storable);
}
  where
    same : refit (with_mark (contents old) (has_directory (records old))) (records old) true ≡ marked_as old
    same = ap (λ (c : Contents). refit (with_mark c (has_directory (records old))) (records old) true) h.is
        ∙ ap (λ (t : FileTime). with_mark (with_records (empty_contents (contents old).kind t) (records old))
        (has_directory (records old))) (same_time old h)

pub any_directory : (storage : List ℕ) (entries : List Entry)
    → list_any (λ e. e.mode.0 == directory_mode) entries ≡ has_directory (records_in storage entries)
any_directory storage [] = refl
any_directory storage (e ∷ entries) =
    ap (λ (b : Bool). (e.mode.0 == directory_mode) || b) (any_directory storage entries)

pub marked_contents : (old : State) (new : Contents) (kind : Kind) (time : FileTime) (storage : List ℕ)
    (entries : List Entry) (outcome : Outcome) (sparse : Bool)
    → new ≡ record {
      kind = kind;
      time = time;
      version = V2;
      records = records_in storage entries;
      extensions =
          record outcome { sparse = sparse };
      fit = true;
    } → kind ≡ (contents old).kind → time ≡ (contents old).time
    → entries ≡ entries_of old → storage ≡ storage_of old → outcome ≡ no_extension
    → sparse ≡ has_directory (records old) → new ≡ marked_as old
marked_contents old new kind time storage entries outcome sparse is a b c d e f = is ∙ rw (a, b, c, d, e, f) refl

-- ---- what becomes of one

pub stays : (link : Option LinkValue) (found : Bool) (shared : Option Contents) (own : State) (fate : SharedEntries)
    → IsCompleted link found shared (records own) (records own) fate
    → Completes link found shared own (record { state = own; shared = fate })
stays link found shared own fate is = record { is = is; same_kind = refl; index = index_of own }

merged_others : (b : Option BitmapPair) (shared old new : Contents) → MergesBy b shared old new
    → new ≡ refit old new.records new.fit
merged_others None shared old new e = subst (λ (c : Contents). c ≡ refit old c.records c.fit) (sym e) refl
merged_others (Some b) shared old new h =
    h.others ∙ ap (λ (f : Bool). refit old new.records f) (sym (ap (λ (c : Contents). c.fit) h.others))

-- what else a merged index has, it may have had before
merged_anew : (b : Option BitmapPair) (shared old new : Contents) → MergesBy b shared old new
    → MergesBy b shared (with_records new old.records) new
merged_anew None shared old new e = subst (λ (c : Contents). new ≡ with_records new c.records) e refl
merged_anew (Some b) shared old new h = record {
  is = h.is;
  others = ap (λ (f : Bool). refit new new.records f) (ap (λ (c : Contents). c.fit) h.others);
}

pub joins : (l : LinkValue) (found : Bool) (own new shared : State) → is_null (id_bytes l.shared) ≡ false
    → CanBeShared own shared → IsDissolved l (contents shared) (contents own) (contents new)
    → (PathsInStorage own → PathsInStorage new)
    → (IsStorable (contents own) → IsStorable (contents shared) → (contents shared).kind ≡ (contents own).kind
    → IsStorable (contents new))
    → Completes (Some l) found (Some (contents shared)) own (record { state = new; shared = fates.Merged })
joins l found own new shared named fits d placed storable =
    let e : contents new ≡ refit (contents own) (records new) (contents new).fit =
    merged_others l.bitmaps (contents shared) (contents own) (contents new) d.merged in
    record {
      is = merged l (contents shared) (contents new) (refl, named) refl (record {
        alone = d.alone;
        merged = merged_anew l.bitmaps (contents shared) (contents own) (contents new) d.merged;
      })
          refl;
      same_kind = ap (λ (c : Contents). c.kind) e;
      index = λ h.
          index_moved own new (contents new).fit e h (placed h.placed)
          (storable h.storable fits.storable fits.same_kind);
    }

pub fits_not : (l : LinkValue) (found : Bool) (own new shared : State) (fault : LinkFault)
    → is_null (id_bytes l.shared) ≡ false → IsDissolveFault l (contents shared) (contents own) fault
    → IsUnchanged own new → (PathsInStorage own → PathsInStorage new)
    → Completes (Some l) found (Some (contents shared)) own (record { state = new; shared = fates.Missing })
fits_not l found own new shared fault named is_fault u placed =
    let same : records new ≡ records own = ap (λ (c : Contents). c.records) u.same_contents in
    let e : contents new ≡ with_records (contents own) (records new) =
    u.same_contents ∙ ap (λ (rs : List Record). with_records (contents own) rs) (sym same) in
    record {
      is = unfit l (contents shared) (contents own) fault (refl, named) refl is_fault same refl;
      same_kind = ap (λ (c : Contents). c.kind) u.same_contents;
      index = λ h.
          index_moved own new (contents own).fit e h (placed h.placed)
          (subst IsStorable (sym u.same_contents) h.storable);
    }

-- ---- when memory is allocated

pub linked : {A B : Type 0} (f : A → B) (o : Option A) → is_some o ≡ true → IsSome (option_map f o)
linked f None e = absurd cc
linked f (Some x) e = refl

pub unlinked_on : {A B : Type 0} (f : A → B) (o : Option A) → is_some o ≡ false → option_map f o ≡ None
unlinked_on f None e = refl
unlinked_on f (Some x) e = absurd cc

-- a refusal of what succeeds without bitmaps has some
pub has_bitmaps : {A E : Type 0} (b : Option BitmapPair) (r : Result A E) (e : E) → r ≡ Err e → (b ≡ None → IsOk r)
    → IsSome b
has_bitmaps None r e is h = absurd cc (subst IsOk is (h refl))
has_bitmaps (Some b) r e is h = refl

bitmaps_or_own : (b : Option BitmapPair) (s v : Contents) (own all : List Record)
    → MergesBy b s (with_records v own) (with_records v all) → IsSome b ⊎ (all ≡ own)
bitmaps_or_own None s v own all e = inr (ap (λ (c : Contents). c.records) e)
bitmaps_or_own (Some b) s v own all h = inl refl

merges_or : (link : Option LinkValue) (shared : Option Contents) (l : LinkValue) (s : Contents) (own all : List Record)
    → IsWanted link l → shared ≡ Some s → s.extensions.link ≡ None → IsSome l.bitmaps ⊎ (all ≡ own)
    → MergesByBitmaps link shared ⊎ (all ≡ own)
merges_or link shared l s own all wanted given alone (inl some) =
    inl (record { l = l; s = s; wanted = wanted; given = given; bitmaps = some; alone = alone })
merges_or link shared l s own all wanted given alone (inr same) = inr same

-- without a merge by bitmaps the entries are the file's own
pub merged_or_own : (link : Option LinkValue) (found : Bool) (shared : Option Contents) (own all : List Record)
    (fate : SharedEntries) → IsCompleted link found shared own all fate → MergesByBitmaps link shared ⊎ (all ≡ own)
merged_or_own link found shared own all fate (unlinked e n same f) = inr same
merged_or_own link found shared own all fate (unshared l e n same f) = inr same
merged_or_own link found shared own all fate (unread e n same f) = inr same
merged_or_own link found shared own all fate (absent l w e same f) = inr same
merged_or_own link found shared own all fate (unfit l s v fault w e b same f) = inr same
merged_or_own link found shared own all fate (merged l s v w e d f) =
    merges_or link shared l s own all w e d.alone (bitmaps_or_own l.bitmaps s v own all d.merged)

pub merges_or_sorts : (keep : Keep) (r : Remains) (shared : Option Contents) (all : List Record)
    → MergesByBitmaps (option_map link_of r.link) shared ⊎ (all ≡ records r.front) → keep ≡ All → (IsOrdered all → ⊥)
    → MergesOrSorts keep r shared
merges_or_sorts keep r shared all (inl merges) is unordered = inl merges
merges_or_sorts keep r shared all (inr same) is unordered =
    inr (is, λ up. unordered (subst IsOrdered (sym same) up))

-- ---- with no shared index

pub none_given : (link : Option LinkValue) (found : Bool) (own all : List Record) (fate : SharedEntries)
    → IsCompleted link found None own all fate → all ≡ own
none_given link found own all fate (unlinked e n same f) = same
none_given link found own all fate (unshared l e n same f) = same
none_given link found own all fate (unread e n same f) = same
none_given link found own all fate (absent l w e same f) = same
none_given link found own all fate (unfit l s v fault w e b same f) = same
none_given link found own all fate (merged l s v w e d f) = absurd cc

pub none_wanted : (found : Bool) (shared : Option Contents) (own all : List Record) (fate : SharedEntries)
    → IsCompleted None found shared own all fate → all ≡ own
none_wanted found shared own all fate (unlinked e n same f) = same
none_wanted found shared own all fate (unshared l e n same f) = same
none_wanted found shared own all fate (unread e n same f) = same
none_wanted found shared own all fate (absent l w e same f) = same
none_wanted found shared own all fate (unfit l s v fault w e b same f) = same
none_wanted found shared own all fate (merged l s v w e d f) = absurd (cc w.0)
