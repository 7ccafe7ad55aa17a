-- What a change leaves of the records below directories away from its path.
use Rattle.std.proofs.Common.{◌≡◌, inl, inr, ℕ, List, [], ◌∷◌, ◌++◌, Bool, true, false, not, take, drop, filter}
use Rattle.std.proofs.Common.{Option, Some, None, refl, sym, ap, ◌∙◌}
use Rattle.std.specs.List.{Contains}
use Rattle.std.specs.Option.{option_map}
use Rattle.std.proofs.lemmas.List.{take-append-drop}
use Rattle.std.proofs.lemmas.List.Elements.{All-contains, All-contains_itself, All-filter, filter-append}
use Rattle.std.proofs.lemmas.List.Elements.{filter_map-append}
use Rattle.std.proofs.lemmas.List.Elements.{filter_passes}
use Rattle.entry_list.specs.EntryImage.{is_removed}
use Rattle.entry_list.specs.Order.{record_stage}
use Rattle.entry_list.specs.Record.{Record, with_path}
use Rattle.index_parts.specs.Mode.{named_kind}
use Rattle.index_parts.specs.declared.object.tree.EntryKind.{EntryKind}
use Rattle.entry_lookup.specs.Lookup.{insertion_of}
use Rattle.entry_lookup.specs.Range.{is_at}
use Rattle.entry_edit.specs.Changes.{applied_one, change_path}
use Rattle.entry_edit.specs.Edits.{is_displaced, staged, unstaged}
use Rattle.entry_edit.specs.declared.change.Change.{Change}
use Rattle.entry_edit.specs.declared.change.Change.TheVariants as changes
use Rattle.entry_edit.proofs.Stagings.{contains_filter}
use Rattle.entry_edit.proofs.Swaps.{CameFrom, IsNew, came_from}
use Rattle.tree_encode.specs.Staged.{Staged, is_unmerged, merged_in, staged_in, staged_entry, unmerged_in}
use Rattle.tree_encode.specs.TreeIds.{IsMergedAt, behind_all, moved, staged_at}
use Rattle.index_edit_laws.proofs.Aways.{IsAway, away_itself, taken_away}

-- what merged records stage below the directory that these names lead to
abbrev pub seen_at : List (List ℕ) → List Record → List Staged
seen_at names rs = staged_at names (staged_in (merged_in rs))

-- ---- record by record

seen_append : (names : List (List ℕ)) (xs ys : List Record)
    → seen_at names (xs ++ ys) ≡ seen_at names xs ++ seen_at names ys
seen_append names xs ys =
    ap (staged_at names) (ap staged_in (filter-append (λ r. not (is_unmerged r.flags)) xs ys)
    ∙ filter_map-append staged_entry (merged_in xs) (merged_in ys))
    ∙ filter_map-append (λ s. option_map (moved s) (behind_all names s.path)) (staged_in (merged_in xs))
    (staged_in (merged_in ys))

module _ (names : List (List ℕ)) (r : Record) (h : behind_all names r.path ≡ None) where
  unseen : seen_at names (r ∷ []) ≡ []
  unseen = by (is_unmerged r.flags) (is_removed r.flags) (named_kind r.mode) refl refl refl
    where
      by : (u v : Bool) (k : Option EntryKind) → is_unmerged r.flags ≡ u → is_removed r.flags ≡ v
          → named_kind r.mode ≡ k → seen_at names (r ∷ []) ≡ []
      by true v k e f g = rw e refl
      by false true k e f g = rw (e, f) refl
      by false false None e f g = rw (e, f, g) refl
      by false false (Some k) e f g = rw (e, f, g, h) refl

  pub seen_without : (rs : List Record) → seen_at names (r ∷ rs) ≡ seen_at names rs
  seen_without rs = seen_append names (r ∷ []) rs ∙ ap (λ (l : List Staged). l ++ seen_at names rs) unseen

-- ---- a list without what isn't seen

kept_seen : (names : List (List ℕ)) (p : Record → Bool) (rs : List Record)
    → ((r : Record) → p r ≡ false → behind_all names r.path ≡ None) → seen_at names (filter p rs) ≡ seen_at names rs
kept_seen names p [] h = refl
kept_seen names p (r ∷ rs) h = by (p r) refl (kept_seen names p rs h)
  where
    by : (b : Bool) → p r ≡ b → seen_at names (filter p rs) ≡ seen_at names rs
        → seen_at names (filter p (r ∷ rs)) ≡ seen_at names (r ∷ rs)
    by true e rest = rw e (seen_append names (r ∷ []) (filter p rs)
        ∙ ap (λ (l : List Staged). seen_at names (r ∷ []) ++ l) rest ∙ sym (seen_append names (r ∷ []) rs))
    by false e rest = rw e rest ∙ sym (seen_without names r (h r e) rs)

not_false : (b : Bool) → not b ≡ false → b ≡ true
not_false true e = refl
not_false false e = cc

module _ (names : List (List ℕ)) where
  -- what a change takes out and puts in isn't below a directory away from its path
  pub seen_stays : (c : Change) (rs : List Record) → IsAway (change_path c) names
      → seen_at names (applied_one c rs) ≡ seen_at names rs
  unfolding staged unstaged
  seen_stays (changes.Stage entry path) rs h =
      let new = with_path path.now entry in
      let ks = filter (λ r. not (is_displaced new r)) rs in
      let i = insertion_of new.path (record_stage new) ks in
      seen_append names (take i ks) (new ∷ drop i ks)
      ∙ ap (λ (l : List Staged). seen_at names (take i ks) ++ l)
      (seen_without names new (away_itself path.now names h) (drop i ks))
      ∙ sym (seen_append names (take i ks) (drop i ks))
      ∙ ap (seen_at names) (take-append-drop i ks)
      ∙ kept_seen names (λ r. not (is_displaced new r)) rs
      (λ r e. taken_away (changes.Stage entry path) r names h (not_false (is_displaced new r) e))
  seen_stays (changes.Unstage path) rs h = kept_seen names (λ r. not (is_at path.now r)) rs
      (λ r e. taken_away (changes.Unstage path) r names h (not_false (is_at path.now r) e))

  -- ---- records in conflict

  new_path : (c : Change) (r : Record) → IsNew c r → r.path ≡ change_path c
  new_path (changes.Stage entry path) r e = ap (λ (q : Record). q.path) e
  new_path (changes.Unstage path) r e = absurd e

  came_away : (c : Change) (rs : List Record) (r : Record) → IsAway (change_path c) names → IsMergedAt rs names
      → is_unmerged r.flags ≡ true → CameFrom c rs r → behind_all names r.path ≡ None
  came_away c rs r h m u (inl n) = ap (behind_all names) (new_path c r n) ∙ away_itself (change_path c) names h
  came_away c rs r h m u (inr p) =
      let there = contains_filter (λ q. is_unmerged q.flags) rs r p.0.0 p.0.1 p.0.2 u in
      All-contains (λ q. behind_all names q.path ≡ None) (unmerged_in rs) r m there

  pub merged_stays : (c : Change) (rs : List Record) → IsAway (change_path c) names → IsMergedAt rs names
      → IsMergedAt (applied_one c rs) names
  merged_stays c rs h m k d within =
      let now = applied_one c rs in
      let side : Record → Bool = λ q. is_unmerged q.flags in
      came_away c rs _ h m (filter_passes side now k d within)
      (came_from c rs _ (All-filter side (Contains now) now (All-contains_itself now) k d within))
