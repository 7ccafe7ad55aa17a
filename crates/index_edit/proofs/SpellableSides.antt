-- Recorded sides can be encoded, if those before can be, and the entries have the required properties.
use Rattle.std.proofs.Common.{◌≡◌, ◌-◌, ◌==◌, ◌∙◌, Bool, true, false, cond, List, [], ◌∷◌}
use Rattle.std.proofs.Common.{All, length, take, drop, filter, Option, Some, None, refl, sym, subst}
use Rattle.std.specs.Prelude.{IfSome, not}
use Rattle.std.specs.Option.{unwrap_or}
use Rattle.std.specs.Ordering.{is_eq, is_lt}
use Rattle.std.proofs.lemmas.Bool.{eq-eqb}
use Rattle.std.proofs.lemmas.List.{length-set}
use Rattle.std.proofs.lemmas.List.Elements.{All-append, All-cons, All-drop, All-filter, All-head, All-nil, All-set, All-tail}
use Rattle.std.proofs.lemmas.List.Elements.{All-take}
use Rattle.index_parts.specs.Id.{id_bytes, id_len}
use Rattle.index_parts.specs.declared.hash.Kind.{Kind}
use Rattle.entry_list.specs.Order.{path_cmp, record_stage}
use Rattle.entry_list.specs.Record.{Record, with_path}
use Rattle.entry_lookup.specs.Lookup.{insertion_of}
use Rattle.entry_lookup.specs.Range.{is_at}
use Rattle.entry_edit.specs.Changes.{applied, applied_one}
use Rattle.entry_edit.specs.Edits.{is_displaced, staged, unstaged}
use Rattle.entry_edit.specs.declared.change.Change.{Change}
use Rattle.entry_edit.specs.declared.change.Change.TheVariants as changes
use Rattle.ext_encode.specs.ResolveUndoImage.{AreSpellablePaths, IsSpellablePath, IsSpellableStage}
use Rattle.ext_small.specs.ResolveUndo.{PathStages, side_of}
use Rattle.ext_small.specs.declared.resolve_undo.Stage.{Stage}
use Rattle.index_edit.specs.Recordable.{IsRecordable, StagesRecordable, StagesSuch}
use Rattle.index_edit.specs.Recorded.{no_sides, recorded, with_side}
use Rattle.index_edit.specs.Undone.{all_recorded, is_lost, lost, undone}

-- ---- a property of all records, and of the one that a change stages, holds after the change, and after several

module _ (P : Record → Type 0) where
  pub one_stays : (c : Change) (rs : List Record) → StagesSuch P c → All P rs → All P (applied_one c rs)
  unfolding staged unstaged
  one_stays (changes.Stage entry path) rs s a =
      let new = with_path path.now entry in
      let left = filter (λ r. not (is_displaced new r)) rs in
      let l = All-filter (λ r. not (is_displaced new r)) P rs a in
      let at = insertion_of new.path (record_stage new) left in
      All-append P (take at left) (new ∷ drop at left) (All-take P at left l)
      (All-cons P new (drop at left) s (All-drop P at left l))
  one_stays (changes.Unstage path) rs s a = All-filter (λ r. not (is_at path.now r)) P rs a

  pub all_stay : (cs : List Change) (rs : List Record) → All (StagesSuch P) cs → All P rs → All P (applied cs rs)
  unfolding applied
  all_stay [] rs s a = a
  all_stay (c ∷ cs) rs s a =
      let Q = StagesSuch P in
      all_stay cs (applied_one c rs) (All-tail Q c cs s) (one_stays c rs (All-head Q c cs s) a)

pub stages_weaker : (P Q : Record → Type 0) → ((r : Record) → P r → Q r) → (c : Change) → StagesSuch P c
    → StagesSuch Q c
stages_weaker P Q f (changes.Stage entry path) h = f (with_path path.now entry) h
stages_weaker P Q f (changes.Unstage path) h = tt

-- ---- sides

module _ (kind : Kind) where
  abbrev SideSpells : Option Stage → Type 0
  SideSpells side = IfSome side (IsSpellableStage kind)

  spells_by : (r : Record) → IsRecordable kind r → (b : Bool) → (r.mode == 0) ≡ b
      → SideSpells (cond b None (Some (record { mode = r.mode; id = r.id })))
  spells_by r h true e = tt
  spells_by r h false e = record {
    some = λ z. let t : false ≡ true = sym e ∙ eq-eqb r.mode 0 z in cc;
    fits = h.sized.mode;
    id_is = h.id;
    id_size = subst (λ k. length (id_bytes r.id) ≡ id_len k) h.id h.sized.id;
  }

  side_spells : (r : Record) → IsRecordable kind r → SideSpells (side_of r.mode r.id)
  side_spells r h = spells_by r h (r.mode == 0) refl

  with_spells : (r : Record) (p : PathStages) → IsRecordable kind r → IsSpellablePath kind p
      → IsSpellablePath kind (with_side r p)
  with_spells r p h s = record {
    name = s.name;
    three = length-set p.stages (record_stage r - 1) (side_of r.mode r.id) ∙ s.three;
    stages = All-set SideSpells p.stages (record_stage r - 1) (side_of r.mode r.id) (side_spells r h) s.stages;
  }

  none_spells : (r : Record) → IsRecordable kind r → IsSpellablePath kind (no_sides r.path)
  none_spells r h = record {
    name = h.path;
    three = refl;
    stages = All-cons SideSpells None (None ∷ None ∷ []) tt
        (All-cons SideSpells None (None ∷ []) tt (All-cons SideSpells None [] tt (All-nil SideSpells)));
  }

  recorded_spells : (r : Record) (ps : List PathStages) → IsRecordable kind r → AreSpellablePaths kind ps
      → AreSpellablePaths kind (recorded r ps)
  unfolding recorded
  recorded_spells r [] h a =
      All-cons (IsSpellablePath kind) _ [] (with_spells r (no_sides r.path) h (none_spells r h)) (All-nil (IsSpellablePath kind))
  recorded_spells r (p ∷ ps) h a =
      let P = IsSpellablePath kind in
      let one = All-head P p ps a in
      let rest = All-tail P p ps a in
      let new = with_spells r (no_sides r.path) h (none_spells r h) in
      elim (is_lt (path_cmp p.name r.path)) as (λ b. All P (cond b (p ∷ recorded r ps)
      (cond (is_eq (path_cmp p.name r.path)) (with_side r p ∷ ps) (with_side r (no_sides r.path) ∷ p ∷ ps)))) [
        | true ↦ All-cons P p (recorded r ps) one (recorded_spells r ps h rest)
        | false ↦ elim (is_eq (path_cmp p.name r.path)) as (λ b. All P (cond b (with_side r p ∷ ps)
            (with_side r (no_sides r.path) ∷ p ∷ ps))) [
              | true ↦ All-cons P (with_side r p) ps (with_spells r p h one) rest
              | false ↦ All-cons P (with_side r (no_sides r.path)) (p ∷ ps) new a
            ]
      ]

  there : (undo : Option (List PathStages)) → IfSome undo (AreSpellablePaths kind)
      → AreSpellablePaths kind (unwrap_or undo [])
  there None h = All-nil (IsSpellablePath kind)
  there (Some ps) h = h

  all_spell : (rs : List Record) (undo : Option (List PathStages)) → All (IsRecordable kind) rs
      → IfSome undo (AreSpellablePaths kind) → IfSome (all_recorded rs undo) (AreSpellablePaths kind)
  unfolding all_recorded
  all_spell [] undo a h = h
  all_spell (r ∷ rs) undo a h =
      let before : AreSpellablePaths kind (unwrap_or undo []) = there undo h in
      all_spell rs (Some (recorded r (unwrap_or undo []))) (All-tail (IsRecordable kind) r rs a)
      (recorded_spells r (unwrap_or undo []) (All-head (IsRecordable kind) r rs a) before)

  pub undone_spells : (cs : List Change) (rs : List Record) (undo : Option (List PathStages))
      → All (IsRecordable kind) rs → All (StagesRecordable kind) cs → IfSome undo (AreSpellablePaths kind)
      → IfSome (undone cs rs undo) (AreSpellablePaths kind)
  unfolding undone
  undone_spells [] rs undo a s h = h
  undone_spells (c ∷ cs) rs undo a s h =
      let Q = StagesRecordable kind in
      undone_spells cs (applied_one c rs) (all_recorded (lost c rs) undo)
      (one_stays (IsRecordable kind) c rs (All-head Q c cs s) a) (All-tail Q c cs s)
      (all_spell (lost c rs) undo (All-filter (is_lost c) (IsRecordable kind) rs a) h)
