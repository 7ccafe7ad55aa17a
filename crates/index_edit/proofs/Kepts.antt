-- What is kept after changes stays sound.
use Rattle.std.proofs.Common.{◌≡◌, List, Option, Some, None, sym, subst}
use Rattle.std.specs.Prelude.{IfSome}
use Rattle.std.specs.Option.{option_map}
use Rattle.ext_tree.specs.Sound.{CountsAtMost}
use Rattle.ext_tree.specs.Tree.{node_of}
use Rattle.entry_list.specs.Record.{Record}
use Rattle.ext_encode.specs.SpellableCache.{IsSpellableCache}
use Rattle.ext_encode.specs.ResolveUndoImage.{AreSpellablePaths}
use Rattle.ext_untracked.specs.Untracked.{CacheIdsAreOf, cache_of}
use Rattle.entry_edit.specs.declared.change.Change.{Change}
use Rattle.index_edit.specs.Invalidated.{all_invalidated, all_unlisted}
use Rattle.index_edit.specs.Kept.{IsKeptAfter, StaysSound}
use Rattle.index_edit.specs.Recordable.{StaysSpellable}
use Rattle.index_edit.specs.Rising.{ArePathsRising}
use Rattle.index_edit.specs.Undone.{undo_paths}
use Rattle.index_edit.specs.declared.kept.Kept.{Kept}
use Rattle.index_edit.proofs.Invalidations.{all_count_stay, all_ids_stay, cache_stays}
use Rattle.index_edit.proofs.Risings.{undone_rises}
use Rattle.index_edit.proofs.SpellableCaches.{spellable_stays}
use Rattle.index_edit.proofs.SpellableSides.{undone_spells}

seen : {A B : Type 0} (v : A → B) (P : B → Type 0) (o : Option A) → IfSome (option_map v o) P → IfSome o (λ a. P (v a))
seen v P None h = tt
seen v P (Some a) h = h

-- a value that is changed keeps what each change keeps
kept_true : {A B : Type 0} (v : A → B) (f : B → B) (P : B → Type 0) → ((b : B) → P b → P (f b))
    → (old now : Option A) → option_map v now ≡ option_map (λ a. f (v a)) old → IfSome old (λ a. P (v a))
    → IfSome now (λ a. P (v a))
kept_true v f P h None now e p = seen v P now (subst (λ o. IfSome o P) (sym e) tt)
kept_true v f P h (Some a) now e p = seen v P now (subst (λ o. IfSome o P) (sym e) (h (v a) p))

module _ (cs : List Change) (rs : List Record) (old now : Kept) where
  pub kept_sound : IsKeptAfter cs rs old now → StaysSound old now
  kept_sound k = record {
    counts = λ most. kept_true node_of (all_invalidated cs) (CountsAtMost most) (all_count_stay most cs) old.tree now.tree
        k.tree;
    rising = λ h. subst (λ u. IfSome u ArePathsRising) (sym k.undo) (undone_rises cs rs (undo_paths old.undo) h);
    ids = λ kind. kept_true cache_of (all_unlisted cs) (CacheIdsAreOf kind) (all_ids_stay kind cs) old.untracked
        now.untracked k.untracked;
    spellable = λ kind. kept_true cache_of (all_unlisted cs) (IsSpellableCache kind None)
        (cache_stays (IsSpellableCache kind None) (spellable_stays kind None) cs) old.untracked now.untracked k.untracked;
  }

  -- and resolve-undo can be spelled
  pub kept_spellable : IsKeptAfter cs rs old now → StaysSpellable cs rs old now
  kept_spellable k = λ kind a s h.
      subst (λ u. IfSome u (AreSpellablePaths kind)) (sym k.undo) (undone_spells kind cs rs (undo_paths old.undo) a s h)
