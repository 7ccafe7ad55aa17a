-- A file that can hold an index can hold what changes make of it.
use Rattle.std.proofs.Common.{◌≡◌, ◌≢◌, ℕ, List, [], ◌∷◌, All, Option, Some, None, sym, subst}
use Rattle.std.specs.Borrow.{Bor}
use Rattle.std.specs.Prelude.{IfSome}
use Rattle.std.specs.Option.{option_map}
use Rattle.std.proofs.lemmas.List.Elements.{All-cons, All-nil, All-weaker}
use Rattle.index_parts.specs.Id.{id_kind}
use Rattle.index_parts.specs.declared.hash.Kind.{Kind}
use Rattle.ext_tree.specs.StoredTree.{IsStorableTree}
use Rattle.ext_tree.specs.Tree.{Node}
use Rattle.entry_list.specs.Record.{IsSized, Record, with_path}
use Rattle.entry_list.specs.Storable.{IsPlain, IsStorableIn}
use Rattle.entry_list.specs.declared.Pathless.{Pathless}
use Rattle.entry_edit.specs.Changes.{applied, change_path, first_rejection}
use Rattle.entry_edit.specs.Refusals.{Check, staged_entry_fault}
use Rattle.entry_edit.specs.declared.change.Change.{Change}
use Rattle.entry_edit.specs.declared.change.Change.TheVariants.{Stage, Unstage}
use Rattle.ext_tree.specs.Invalidation.{invalidated}
use Rattle.ext_tree.proofs.StorableTrees.{storable_stays}
use Rattle.index_model.specs.Contents.{Contents}
use Rattle.index_model.specs.Storable.{IsStorable}
use Rattle.index_edit.specs.Invalidated.{all_invalidated}
use Rattle.index_edit.specs.Recordable.{IsRecordable, StagesRecordable, StagesSuch}
use Rattle.index_edit.specs.StillStorable.{LackNulInAll, StagesSized, StaysStorable}
use Rattle.index_edit.specs.Updates.{updated}
use Rattle.index_edit.proofs.Granted.{faultless, granted}
use Rattle.index_edit.proofs.SpellableSides.{all_stay, stages_weaker, undone_spells}

module _ (kind : Kind) where
  -- ---- the cached tree

  tree_stays : (cs : List Change) (t : Node) → IsStorableTree kind t → IsStorableTree kind (all_invalidated cs t)
  unfolding all_invalidated
  tree_stays [] t h = h
  tree_stays (c ∷ cs) t h = tree_stays cs (invalidated (change_path c) t) (storable_stays kind (change_path c) t h)

  if_there : (cs : List Change) (o : Option Node) → IfSome o (IsStorableTree kind)
      → IfSome (option_map (all_invalidated cs) o) (IsStorableTree kind)
  if_there cs None h = tt
  if_there cs (Some t) h = tree_stays cs t h

-- ---- the records

-- what is staged without a NUL, a file of any kind of version can hold
storable_in : (kind : Kind) (r : Record) → IsRecordable kind r → IsStorableIn kind r
storable_in kind r h = record { id = h.id; plain = λ long. h.path; fits = h.sized }

module _ (v : Contents) where
  -- the records of a storable index are storable one by one
  each : IsStorable v → All (IsStorableIn v.kind) v.records
  each h = λ i d within. record { id = h.ids i d within; plain = h.paths i d within; fits = h.fits i d within }

  -- and without a NUL their sides can be recorded
  recordable : IsStorable v → LackNulInAll v → All (IsRecordable v.kind) v.records
  recordable h n = λ i d within. record { path = n i d within; id = h.ids i d within; sized = h.fits i d within }

-- ---- the index

abbrev LacksNul : Record → Type 0
LacksNul r = All (λ b. b ≢ 0) r.path

updated_stays : (cs : List Change) (v : Contents) → All (StagesRecordable v.kind) cs → StaysStorable v (updated cs v)
updated_stays cs v s = record {
  storable = λ h.
      let Q = IsStorableIn v.kind in
      let rs = applied cs v.records in
      let after : All Q rs = all_stay Q cs v.records
      (All-weaker (StagesRecordable v.kind) (StagesSuch Q) (stages_weaker (IsRecordable v.kind) Q (storable_in v.kind)) cs s)
      (each v h) in
      record {
        ids = All-weaker Q (λ r. id_kind r.id ≡ v.kind) (λ r k. k.id) rs after;
        paths = All-weaker Q (λ r. IsPlain r.path) (λ r k. k.plain) rs after;
        fits = All-weaker Q IsSized (λ r k. k.fits) rs after;
        tree = if_there v.kind cs v.extensions.tree h.tree;
      };
  without_nul = λ n. all_stay LacksNul cs v.records (All-weaker (StagesRecordable v.kind) (StagesSuch LacksNul)
      (stages_weaker (IsRecordable v.kind) LacksNul (λ r k. k.path)) cs s) n;
  undo = λ h n u. undone_spells v.kind cs v.records v.extensions.resolve_undo (recordable v h n) s u;
}

module _ (v now : Contents) where
  pub changes_stay : (check : Check) (len : ℕ) (cs : List Change) → first_rejection check v.kind len cs ≡ None
      → All StagesSized cs → now ≡ updated cs v → StaysStorable v now
  changes_stay check len cs g s e =
      subst (StaysStorable v) (sym e) (updated_stays cs v (granted check v.kind len 0 cs g s))

  pub stage_stays : (check : Check) (entry : Pathless) (path : Bor (List ℕ)) → staged_entry_fault check v.kind entry path.now ≡ None
      → IsSized (with_path path.now entry) → now ≡ updated (Stage entry path ∷ []) v → StaysStorable v now
  stage_stays check entry path g s e =
      let f = faultless check v.kind entry path.now g in
      let Q = StagesRecordable v.kind in
      subst (StaysStorable v) (sym e) (updated_stays (Stage entry path ∷ []) v
      (All-cons Q (Stage entry path) [] (record { path = f.0; id = f.1; sized = s }) (All-nil Q)))

  pub unstage_stays : (path : Bor (List ℕ)) → now ≡ updated (Unstage path ∷ []) v → StaysStorable v now
  unstage_stays path e =
      let Q = StagesRecordable v.kind in
      subst (StaysStorable v) (sym e) (updated_stays (Unstage path ∷ []) v (All-cons Q (Unstage path) [] tt (All-nil Q)))
