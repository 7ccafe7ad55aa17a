-- The properties that are preserved if a shared index is merged into a split one.
use Rattle.std.proofs.Common.{◌≡◌, ℕ, ◌≤◌, List, length, All, Option, Some, None, refl, sym, ap, subst}
use Rattle.std.specs.Prelude.{◌≢◌, IfSome}
use Rattle.index_parts.specs.Id.{id_kind}
use Rattle.index_parts.specs.declared.hash.Kind.{Kind}
use Rattle.ext_tree.specs.StoredTree.{IsStorableTree}
use Rattle.entry_list.specs.declared.Entry.{Entry}
use Rattle.ext_split.specs.declared.merge.Error.{Error as MergeError}
use Rattle.ext_split.specs.declared.merge.Error.TheVariants as merges
use Rattle.ext_split.specs.Merge.{replaced, IsMerge, IsMergeFault}
use Rattle.ext_split.specs.MergeSteps.{MergeCause, merge_error}
use Rattle.entry_list.specs.Record.{Record, IsSized, IdsAreOf, records_in}
use Rattle.ext_split.proofs.Merged.{all_merged}
use Rattle.ext_split.specs.Link.{BitmapPair, LinkValue}
use Rattle.index_state.specs.Dissolve.{IsDissolved, IsMerged, MergesBy, broken, DissolveCause}
use Rattle.index_model.proofs.Ids.{entries_have, records_of}
use Rattle.index_model.specs.Contents.{Contents}
use Rattle.index_model.specs.Storable.{IsStorable}

abbrev HasLegalPath : Record → Type 0
HasLegalPath r = 4095 ≤ length r.path → All (λ b. b ≢ 0) r.path

sized_replaced : (r s : Record) → IsSized r → IsSized s → IsSized (replaced r (Some s))
sized_replaced r s p q = record {
  ctime_secs = q.ctime_secs;
  ctime_nsecs = q.ctime_nsecs;
  mtime_secs = q.mtime_secs;
  mtime_nsecs = q.mtime_nsecs;
  dev = q.dev;
  ino = q.ino;
  uid = q.uid;
  gid = q.gid;
  size = q.size;
  mode = q.mode;
  id = q.id;
}

module _ (b : BitmapPair) (shared old new : Contents) (m : IsMerged b shared old new) where
  -- what all records of both have
  merged_have : (P : Record → Type 0) → ((r s : Record) → P r → P s → P (replaced r (Some s))) → All P old.records
      → All P shared.records → All P new.records
  merged_have P closed mine theirs =
      all_merged P closed old.records mine b.delete.words b.replace.words shared.records new.records theirs m.is

  pub merged_storable : IsStorable old → IsStorable shared → shared.kind ≡ old.kind → IsStorable new
  merged_storable mine theirs same =
      let kind : old.kind ≡ new.kind = sym (ap (λ (v : Contents). v.kind) m.others) in
      let ids = merged_have (λ r. id_kind r.id ≡ old.kind) (λ r s p q. q) mine.ids
      (subst (λ (k : Kind). All (λ r. id_kind r.id ≡ k) shared.records) same theirs.ids) in
      record {
        ids = subst (λ (k : Kind). All (λ r. id_kind r.id ≡ k) new.records) kind ids;
        paths = merged_have HasLegalPath (λ r s p q. p) mine.paths theirs.paths;
        fits = merged_have IsSized sized_replaced mine.fits theirs.fits;
        tree = subst (λ (v : Contents). IfSome v.extensions.tree (IsStorableTree v.kind)) (sym m.others) mine.tree;
      }

-- entries that were merged have ids of the kind that all had
pub merged_ids : (kind : Kind) (delete_words replace_words storage split_storage new_storage : List ℕ)
    (shared split new : List Entry)
    → IsMerge delete_words replace_words (records_in storage shared) (records_in split_storage split)
    (records_in new_storage new) → IdsAreOf kind split → IdsAreOf kind shared → IdsAreOf kind new
merged_ids kind delete_words replace_words storage split_storage new_storage shared split new m mine theirs =
    entries_have kind new_storage new (all_merged (λ r. id_kind r.id ≡ kind) (λ r s p q. q)
    (records_in split_storage split) (records_of kind split_storage split mine) delete_words replace_words
    (records_in storage shared) (records_in new_storage new) (records_of kind storage shared theirs) m)

-- by a link with bitmaps
pub dissolved_by : (l : LinkValue) (b : BitmapPair) (shared old new : Contents) → shared.extensions.link ≡ None
    → l.bitmaps ≡ Some b → IsMerged b shared old new → IsDissolved l shared old new
dissolved_by l b shared old new none some m = record {
  alone = none;
  merged = subst (λ (o : Option BitmapPair). MergesBy o shared old new) (sym some) m;
}

-- a fault of the entries is one of the link
pub says_dissolve : (e : MergeError) (l : LinkValue) (b : BitmapPair) (shared split : Contents)
    → shared.extensions.link ≡ None → l.bitmaps ≡ Some b
    → MergeCause e (IsMergeFault b.delete.words b.replace.words shared.records split.records)
    → DissolveCause (merge_error e) l shared split
says_dissolve (merges.Corrupt text) l b shared split none some h = broken b text.now none some h refl
says_dissolve merges.Memory l b shared split none some h = tt
