-- Entries that have trees still have them after changes.
use Rattle.std.proofs.Common.{◌≡◌, inl, inr, ℕ, ◌==◌, List, All, Bool, true, false, cond}
use Rattle.std.proofs.Common.{◌&&◌, not, length, get_or, Option, Some, None, refl, sym, ap, subst, ◌∙◌}
use Rattle.std.proofs.Common.{arith}
use Rattle.std.specs.Prelude.{◌≢◌, position}
use Rattle.std.specs.List.{Contains}
use Rattle.std.specs.Option.{option_map, option_or}
use Rattle.std.proofs.lemmas.Bool.{eqb-false, eqb-true}
use Rattle.std.proofs.lemmas.List.Elements.{All-contains, All-contains_itself, All-filter}
use Rattle.std.proofs.lemmas.List.Elements.{filter_passes}
use Rattle.std.proofs.lemmas.List.Sums.{fails_before_first}
use Rattle.index_parts.specs.Id.{id_bytes, id_kind, id_len, is_null}
use Rattle.index_parts.specs.declared.hash.Kind.{Kind}
use Rattle.index_parts.specs.declared.hash.Kind.TheVariants as hashes
use Rattle.index_parts.specs.Mode.{named_kind}
use Rattle.index_parts.specs.NameCheck.{refusal_as}
use Rattle.index_parts.specs.declared.object.tree.EntryKind.{EntryKind}
use Rattle.index_parts.specs.declared.object.tree.EntryKind.TheVariants as kinds
use Rattle.entry_list.specs.EntryImage.{is_removed}
use Rattle.entry_list.specs.Record.{Record, with_path}
use Rattle.entry_list.specs.declared.Pathless.{Pathless}
use Rattle.entry_fields.specs.Flags.{stage_number}
use Rattle.entry_edit.specs.Changes.{applied_one}
use Rattle.entry_edit.specs.Refusals.{Check, fault_as, staged_entry_fault, id_fault, kind_fault, names_fault, names_of, path_fault}
use Rattle.entry_edit.specs.declared.change.Change.{Change}
use Rattle.entry_edit.specs.declared.change.Change.TheVariants as changes
use Rattle.entry_edit.specs.declared.error.Error.{Error}
use Rattle.entry_edit.specs.declared.error.Error.TheVariants as errors
use Rattle.entry_edit.proofs.Stagings.{contains_filter}
use Rattle.entry_edit.proofs.Whys.{neither}
use Rattle.entry_edit.proofs.Swaps.{CameFrom, IsNew, came_from}
use Rattle.tree_encode.specs.Refusals.{AreFit, IsTreeRecord}
use Rattle.tree_encode.specs.Staged.{is_unmerged, merged_in}
use Rattle.index_edit_laws.proofs.FirstNames.{nowhere}
use Rattle.index_edit_laws.proofs.MadeOfNames.{file_made, not_some}
use Rattle.index_edit_laws.specs.Faultless.{IsFaultless, StagesFaultless}

-- ---- which records are merged

not_true : (b : Bool) → not b ≡ true → b ≡ false
not_true true e = cc
not_true false e = refl

pub merged_parts : (rs : List Record) (r : Record) → Contains (merged_in rs) r
    → Contains rs r × (is_unmerged r.flags ≡ false)
merged_parts rs r c =
    let keep : Record → Bool = λ q. not (is_unmerged q.flags) in (
      All-contains (Contains rs) (merged_in rs) r (All-filter keep (Contains rs) rs (All-contains_itself rs)) c,
      not_true (is_unmerged r.flags)
          (All-contains (λ q. keep q ≡ true) (merged_in rs) r (filter_passes keep rs) c),
    )

pub merged_of : (rs : List Record) (r : Record) → Contains rs r → is_unmerged r.flags ≡ false
    → Contains (merged_in rs) r
merged_of rs r c u = contains_filter (λ q. not (is_unmerged q.flags)) rs r c.0 c.1 c.2 (ap not u)

-- ---- what nothing is wrong with

some_path : (b : Bool) (o : Option Error) → cond b (Some errors.EmptyPath) o ≡ None → (b ≡ false) × (o ≡ None)
some_path true o h = absurd cc
some_path false o h = (refl, h)

sound_path : (path : List ℕ) → path_fault path ≡ None → ((length path == 0) ≡ false) × All (λ b. b ≢ 0) path
sound_path path h =
    let s = some_path (length path == 0) (option_map (λ at. errors.Nul at) (position (λ b. b == 0) path)) h in
    let far = nowhere (λ b. b == 0) path (not_some (λ at. errors.Nul at) (position (λ b. b == 0) path) s.1) in (
      s.0,
      λ k d within. eqb-false _ 0 (fails_before_first (λ b. b == 0) path k d (omega (arith, far, within))),
    )

same_kind : (kind actual : Kind) → kind_fault kind actual ≡ None → actual ≡ kind
same_kind hashes.Sha1 hashes.Sha1 h = refl
same_kind hashes.Sha1 hashes.Sha256 h = absurd cc
same_kind hashes.Sha256 hashes.Sha1 h = absurd cc
same_kind hashes.Sha256 hashes.Sha256 h = refl

not_null : (b : Bool) → cond b (Some errors.NullId) None ≡ None → b ≡ false
not_null true h = absurd cc
not_null false h = refl

-- it isn't taken out, and no merge has yet to decide on it
pub merged_stage : (flags : ℕ) → is_unmerged flags ≡ false → is_removed flags ≡ false → stage_number flags ≡ 0
merged_stage flags u r = by (stage_number flags == 0) refl
    (sym (ap (λ b. not b && not (stage_number flags == 0)) r) ∙ u)
  where
    by : (b : Bool) → (stage_number flags == 0) ≡ b → not b ≡ false → stage_number flags ≡ 0
    by true e h = eqb-true (stage_number flags) 0 e
    by false e h = absurd cc

module _ (check pass : Check) (kind : Kind)
    (weaker : (name : List ℕ) (j : EntryKind) → refusal_as check name j ≡ None → refusal_as pass name j ≡ None) where
  of_named : (entry : Pathless) (path : List ℕ) → ((length path == 0) ≡ false) × All (λ b. b ≢ 0) path
      → IsFaultless check kind entry path → is_unmerged entry.flags.0 ≡ false → (k : EntryKind) → k ≢ kinds.Tree
      → named_kind entry.mode.0 ≡ Some k → option_or (id_fault kind entry.id) (names_fault check k (names_of path)) ≡ None
      → IsTreeRecord pass kind (with_path path entry)
  of_named entry path p f u k file e h = λ present.
      let n = neither (id_fault kind entry.id) (names_fault check k (names_of path)) h in
      let i = neither (kind_fault kind (id_kind entry.id))
      (cond (is_null (id_bytes entry.id)) (Some errors.NullId) None)
      n.0 in
      let same = same_kind kind (id_kind entry.id) i.0 in (
        merged_stage entry.flags.0 u present,
        (k, (e, file_made check pass weaker k path file p.1 f.shallow n.1)),
        (same, f.sized ∙ ap id_len same),
        not_null (is_null (id_bytes entry.id)) i.1,
      )

  of_mode : (entry : Pathless) (path : List ℕ) → ((length path == 0) ≡ false) × All (λ b. b ≢ 0) path
      → IsFaultless check kind entry path → is_unmerged entry.flags.0 ≡ false → (o : Option EntryKind)
      → named_kind entry.mode.0 ≡ o → fault_as check kind entry path o ≡ None
      → IsTreeRecord pass kind (with_path path entry)
  of_mode entry path p f u None e h = absurd cc
  of_mode entry path p f u (Some kinds.Tree) e h = absurd cc
  of_mode entry path p f u (Some kinds.Blob) e h = of_named entry path p f u kinds.Blob (λ z. absurd cc) e h
  of_mode entry path p f u (Some kinds.BlobExecutable) e h =
      of_named entry path p f u kinds.BlobExecutable (λ z. absurd cc) e h
  of_mode entry path p f u (Some kinds.Link) e h = of_named entry path p f u kinds.Link (λ z. absurd cc) e h
  of_mode entry path p f u (Some kinds.Commit) e h = of_named entry path p f u kinds.Commit (λ z. absurd cc) e h

  staged_fit : (entry : Pathless) (path : List ℕ) → IsFaultless check kind entry path
      → is_unmerged entry.flags.0 ≡ false → IsTreeRecord pass kind (with_path path entry)
  unfolding staged_entry_fault
  staged_fit entry path f u =
      let n = neither (path_fault path) (fault_as check kind entry path (named_kind entry.mode.0)) f.granted in
      of_mode entry path (sound_path path n.0) f u (named_kind entry.mode.0) refl n.1

  new_fit : (c : Change) (r : Record) → StagesFaultless check kind c → IsNew c r → is_unmerged r.flags ≡ false
      → IsTreeRecord pass kind r
  new_fit (changes.Stage entry path) r f n u = subst (IsTreeRecord pass kind) (sym n)
      (staged_fit entry path.now f (ap (λ (q : Record). is_unmerged q.flags) (sym n) ∙ u))
  new_fit (changes.Unstage path) r f n u = absurd n

  -- ---- each record
  module _ (c : Change) (rs : List Record) (f : StagesFaultless check kind c) where
    from_fit : (r : Record) → is_unmerged r.flags ≡ false → AreFit pass kind (merged_in rs) → CameFrom c rs r
        → IsTreeRecord pass kind r
    from_fit r u a (inl n) = new_fit c r f n u
    from_fit r u a (inr p) = All-contains (IsTreeRecord pass kind) (merged_in rs) r a.each (merged_of rs r p.0 u)

    pub each_fit : AreFit pass kind (merged_in rs) → All (IsTreeRecord pass kind) (merged_in (applied_one c rs))
    each_fit a k d within =
        let now = applied_one c rs in
        let r = get_or (merged_in now) k d in
        let m = merged_parts now r (All-contains_itself (merged_in now) k d within) in
        from_fit r m.1 a (came_from c rs r m.0)
