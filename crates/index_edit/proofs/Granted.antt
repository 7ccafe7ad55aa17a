-- What is staged by changes of which none is refused.
use Rattle.std.proofs.Common.{◌≡◌, ◌≢◌, ℕ, ◌+◌, ◌≤◌, ◌==◌, Bool, true, false, cond, ltb, List, [], ◌∷◌, All, length, get_or}
use Rattle.std.proofs.Common.{Option, Some, None, refl, arith}
use Rattle.std.specs.Prelude.{position}
use Rattle.std.specs.List.{position_or_len}
use Rattle.std.specs.Option.{option_map, option_or}
use Rattle.std.proofs.lemmas.Bool.{eqb-false, ltb-false}
use Rattle.std.proofs.lemmas.List.Elements.{All-cons, All-head, All-nil, All-tail}
use Rattle.std.proofs.lemmas.List.Sums.{fails_before_first}
use Rattle.index_parts.specs.Id.{id_bytes, id_kind, is_null}
use Rattle.index_parts.specs.declared.hash.Kind.{Kind}
use Rattle.index_parts.specs.declared.hash.Kind.TheVariants as hashes
use Rattle.index_parts.specs.Mode.{named_kind}
use Rattle.index_parts.specs.declared.object.tree.EntryKind.{EntryKind}
use Rattle.index_parts.specs.declared.object.tree.EntryKind.TheVariants as kinds
use Rattle.entry_list.specs.declared.Pathless.{Pathless}
use Rattle.entry_edit.specs.Changes.{added_len, change_fault, refusal_from, room_fault}
use Rattle.entry_edit.specs.Refusals.{Check, fault_as, staged_entry_fault, id_fault, kind_fault, names_fault, names_of, path_fault}
use Rattle.entry_edit.proofs.Whys.{neither}
use Rattle.entry_edit.specs.declared.change.ApplyError.TheVariants.{Refused}
use Rattle.entry_edit.specs.declared.change.Change.{Change}
use Rattle.entry_edit.specs.declared.change.Change.TheVariants as changes
use Rattle.entry_edit.specs.declared.error.Error.{Error}
use Rattle.entry_edit.specs.declared.error.Error.TheVariants as errors
use Rattle.index_edit.specs.Recordable.{StagesRecordable}
use Rattle.index_edit.specs.StillStorable.{StagesSized}

not_some : {X Y : Type 0} (f : X → Y) (o : Option X) → option_map f o ≡ None → o ≡ None
not_some f None h = refl
not_some f (Some x) h = absurd cc

-- ---- a path

nowhere : {X : Type 0} (p : X → Bool) (xs : List X) → position p xs ≡ None → length xs ≤ position_or_len p xs
nowhere p xs h = by (ltb (position_or_len p xs) (length xs)) refl h
  where
    by : (b : Bool) → ltb (position_or_len p xs) (length xs) ≡ b → cond b (Some (position_or_len p xs)) None ≡ None
        → length xs ≤ position_or_len p xs
    by true e k = absurd cc
    by false e k = ltb-false (position_or_len p xs) (length xs) e

some_path : (b : Bool) (o : Option Error) → cond b (Some errors.EmptyPath) o ≡ None → o ≡ None
some_path true o h = absurd cc
some_path false o h = h

without_nul : (path : List ℕ) → path_fault path ≡ None → All (λ b. b ≢ 0) path
without_nul path h =
    let none = not_some (λ at. errors.Nul at) (position (λ b. b == 0) path) (some_path (length path == 0) _ h) in
    let far = nowhere (λ b. b == 0) path none in
    λ k d within. eqb-false (get_or path k d) 0 (fails_before_first (λ b. b == 0) path k d (omega (arith, far, within)))

-- ---- an id

same_kind : (kind actual : Kind) → kind_fault kind actual ≡ None → actual ≡ kind
same_kind hashes.Sha1 hashes.Sha1 h = refl
same_kind hashes.Sha1 hashes.Sha256 h = absurd cc
same_kind hashes.Sha256 hashes.Sha1 h = absurd cc
same_kind hashes.Sha256 hashes.Sha256 h = refl

module _ (check : Check) (kind : Kind) where
  of_named : (entry : Pathless) (path : List ℕ) (what : EntryKind)
      → option_or (id_fault kind entry.id) (names_fault check what (names_of path)) ≡ None → id_kind entry.id ≡ kind
  of_named entry path what h =
      let id = (neither (id_fault kind entry.id) (names_fault check what (names_of path)) h).0 in
      same_kind kind (id_kind entry.id)
      (neither (kind_fault kind (id_kind entry.id)) (cond (is_null (id_bytes entry.id)) (Some errors.NullId) None) id).0

  of_kind : (entry : Pathless) (path : List ℕ) (what : Option EntryKind) → fault_as check kind entry path what ≡ None
      → id_kind entry.id ≡ kind
  of_kind entry path None h = absurd cc
  of_kind entry path (Some kinds.Tree) h = absurd cc
  of_kind entry path (Some kinds.Blob) h = of_named entry path kinds.Blob h
  of_kind entry path (Some kinds.BlobExecutable) h = of_named entry path kinds.BlobExecutable h
  of_kind entry path (Some kinds.Link) h = of_named entry path kinds.Link h
  of_kind entry path (Some kinds.Commit) h = of_named entry path kinds.Commit h

  -- the path of an entry that nothing is wrong with has no NUL, and its id is of the kind
  pub faultless : (entry : Pathless) (path : List ℕ) → staged_entry_fault check kind entry path ≡ None
      → All (λ b. b ≢ 0) path × (id_kind entry.id ≡ kind)
  unfolding staged_entry_fault
  faultless entry path h =
      let n = neither (path_fault path) (fault_as check kind entry path (named_kind entry.mode.0)) h in
      (without_nul path n.0, of_kind entry path (named_kind entry.mode.0) n.1)

  granted_one : (len : ℕ) (c : Change) → change_fault check kind len c ≡ None → StagesSized c → StagesRecordable kind c
  granted_one len (changes.Stage entry path) h s =
      let f = faultless entry path.now (neither (staged_entry_fault check kind entry path.now) (room_fault len
      path.now) h).0 in
      record { path = f.0; id = f.1; sized = s }
  granted_one len (changes.Unstage path) h s = tt

  pub granted : (len at : ℕ) (cs : List Change) → refusal_from check kind len at cs ≡ None → All StagesSized cs
      → All (StagesRecordable kind) cs
  unfolding refusal_from
  granted len at [] h s = All-nil (StagesRecordable kind)
  granted len at (c ∷ cs) h s =
      let n = neither (option_map (λ (e : Error). Refused at e) (change_fault check kind len c))
      (refusal_from check kind (len + added_len c) (at + 1) cs) h in
      let one = not_some (λ (e : Error). Refused at e) (change_fault check kind len c) n.0 in
      All-cons (StagesRecordable kind) c cs (granted_one len c one (All-head StagesSized c cs s))
      (granted (len + added_len c) (at + 1) cs n.1 (All-tail StagesSized c cs s))
