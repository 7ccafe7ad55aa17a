-- If no entry is a file at a path at which another needs a directory, this still holds after changes. If no change has
-- a path in a directory that is one entry, no entry comes to be in one.
use Rattle.std.proofs.Common.{◌≡◌, ◌⊎◌, inl, inr, ℕ, ◌==◌, List, [], ◌∷◌, ◌++◌, Bool, true, false}
use Rattle.std.proofs.Common.{◌||◌, length, take, Option, Some, None, refl, sym, ap, subst, ◌∙◌, append_assoc}
use Rattle.std.proofs.Common.{get_or, nat_eq, arith}
use Rattle.std.specs.Prelude.{if◌then◌else◌}
use Rattle.std.specs.List.{Contains, starts_with}
use Rattle.std.specs.Option.{option_map}
use Rattle.std.proofs.lemmas.Bool.{eq-eqb}
use Rattle.std.proofs.lemmas.List.{length-append}
use Rattle.std.proofs.lemmas.List.Elements.{All-contains, All-contains_itself}
use Rattle.std.proofs.lemmas.List.Folds.{list_any_none}
use Rattle.std.proofs.lemmas.Option.{same_Some}
use Rattle.std.proofs.Math.Seq.{take-append_seam}
use Rattle.index_parts.specs.declared.hash.Kind.{Kind}
use Rattle.index_parts.specs.Mode.{directory_mode, named_kind}
use Rattle.index_parts.specs.declared.object.tree.EntryKind.{EntryKind}
use Rattle.index_parts.specs.declared.object.tree.EntryKind.TheVariants as kinds
use Rattle.entry_list.specs.EntryImage.{is_removed}
use Rattle.entry_list.specs.Order.{record_stage}
use Rattle.entry_list.specs.Record.{Record, with_path}
use Rattle.entry_lookup.specs.Closest.{is_below}
use Rattle.entry_lookup.proofs.Pairs.{contains_head, contains_tail}
use Rattle.entry_lookup.proofs.TableMade.{and_both, and_to, or_left, or_right, same_to}
use Rattle.entry_edit.specs.Changes.{applied_one, change_path, takes_out}
use Rattle.entry_edit.specs.Refusals.{Check}
use Rattle.entry_edit.specs.Wholes.{goes_on, is_around, lies_in_whole}
use Rattle.entry_edit.proofs.Arounds.{goes_behind}
use Rattle.entry_edit.specs.Edits.{have_df_conflict, is_displaced, is_succeeded}
use Rattle.entry_edit.specs.declared.change.Change.{Change}
use Rattle.entry_edit.specs.declared.change.Change.TheVariants as changes
use Rattle.entry_edit.proofs.Members.{contains_cases}
use Rattle.entry_edit.proofs.Swaps.{CameFrom, IsNew, came_from, new_path}
use Rattle.tree_encode.specs.Refusals.{AreFit, HasPathPrefix, IsBelow, IsTreeRecord, IsInside, AreDisjointPaths}
use Rattle.tree_encode.specs.Staged.{Staged, is_intended, is_unmerged, merged_in, staged_entry, staged_in}
use Rattle.tree_encode.proofs.Checked.{staged_each}
use Rattle.index_edit_laws.proofs.FitEntries.{merged_of, merged_parts, merged_stage}
use Rattle.index_edit_laws.proofs.WholeDirectories.{false_from, not_around, slash_end, whole_kind, whole_mode}
use Rattle.index_edit_laws.proofs.WholeDirectories.{whole_new}
use Rattle.index_edit_laws.specs.Faultless.{StagesFaultless}

-- ---- what a record stages

pub record IsStagedOf (r : Record) (s : Staged) : Type 0 where
  pub path : s.path ≡ r.path
  pub present : is_removed r.flags ≡ false
  pub kind : named_kind r.mode ≡ Some s.kind

staged_of : (r : Record) (s : Staged) → staged_entry r ≡ Some s → IsStagedOf r s
staged_of r s e = by (is_removed r.flags) (named_kind r.mode) refl refl e
  where
    by : (b : Bool) (k : Option EntryKind) → is_removed r.flags ≡ b → named_kind r.mode ≡ k
        → (if b then None else option_map
        (λ k. record { path = r.path; kind = k; id = r.id; later = is_intended r.flags }) k) ≡ Some s → IsStagedOf r s
    by true k f g d = absurd cc
    by false None f g d = absurd cc
    by false (Some k) f g d =
        let same = same_Some (record { path = r.path; kind = k; id = r.id; later = is_intended r.flags }) s d in
        record {
          path = ap (λ (x : Staged). x.path) (sym same);
          present = f;
          kind = g ∙ ap (λ (x : Staged). Some x.kind) same;
        }

-- ---- what comes of merged records

-- a merged record of the list stages it
pub record IsOrigin (rs : List Record) (s : Staged) : Type 0 where
  pub origin : Record
  pub there : Contains (merged_in rs) origin
  pub entry : staged_entry origin ≡ Some s

origin_of : (rs : List Record) (s : Staged) → Contains (staged_in (merged_in rs)) s → IsOrigin rs s
origin_of rs s c = All-contains (IsOrigin rs) (staged_in (merged_in rs)) s
    (staged_each (Contains (merged_in rs)) (IsOrigin rs)
    (λ r x there e. record { origin = r; there = there; entry = e }) (merged_in rs)
    (All-contains_itself (merged_in rs))) c

staged_there : (rs : List Record) (r : Record) (s : Staged) → Contains rs r → staged_entry r ≡ Some s
    → Contains (staged_in rs) s
staged_there [] r s c e = absurd (omega (arith, c.1))
staged_there (q ∷ rs) r s c e = by (contains_cases q rs r c) (λ d. staged_there rs r s d e)
  where
    in_front : (o : Option Staged) → staged_entry q ≡ o → Contains (staged_in rs) s → Contains (staged_in (q ∷ rs)) s
    in_front None g h = rw g h
    in_front (Some x) g h = rw g (contains_tail x (staged_in rs) s h)

    by : (q ≡ r) ⊎ Contains rs r → (Contains rs r → Contains (staged_in rs) s) → Contains (staged_in (q ∷ rs)) s
    by (inl same) rest =
        let own : staged_entry q ≡ Some s = ap staged_entry same ∙ e in
        rw own (contains_head s (staged_in rs))
    by (inr d) rest = in_front (staged_entry q) refl (rest d)

-- ---- one below another

below_to : (dir path : List ℕ) → IsBelow path dir → starts_with nat_eq path (dir ++ 47 ∷ []) ≡ true
below_to dir path b =
    let slashed = dir ++ 47 ∷ [] in
    same_to slashed (take (length slashed) path)
    (sym (ap (take (length slashed)) (b.1 ∙ sym (append_assoc dir (47 ∷ []) b.0)) ∙ take-append_seam slashed b.0))

never_below_itself : (path : List ℕ) → IsBelow path path → ⊥
never_below_itself path b = omega (arith, ap length b.1, length-append path (47 ∷ b.0))

-- what is below the new record at its stage, or above it, is removed
odds_go : (new r : Record) → record_stage r ≡ record_stage new → (is_below new.path r || is_below r.path new) ≡ true
    → is_displaced new r ≡ true
odds_go new r e t = or_right (is_succeeded new r) (have_df_conflict new r)
    (and_to (record_stage r == record_stage new) (is_below new.path r || is_below r.path new)
    (eq-eqb (record_stage r) (record_stage new) e) t)

module _ (rs : List Record) where
  abbrev IsMerged : Record → Type 0
  IsMerged r = record_stage r ≡ 0

  new_over : (c : Change) (r q : Record) → IsMerged r → IsMerged q → IsNew c r → takes_out c q ≡ false
      → IsBelow q.path r.path → ⊥
  new_over (changes.Stage entry path) r q m n e out b =
      let new = with_path path.now entry in
      let goes = odds_go new q (n ∙ sym m ∙ ap record_stage e) (or_left (is_below new.path q) (is_below q.path new)
      (below_to new.path q.path (subst (λ (x : Record). IsBelow q.path x.path) e b))) in
      let clash : true ≡ false = sym goes ∙ out in
      absurd cc
  new_over (changes.Unstage path) r q m n e out b = absurd e

  new_under : (c : Change) (r q : Record) → IsMerged r → IsMerged q → IsNew c q → takes_out c r ≡ false
      → IsBelow q.path r.path → ⊥
  new_under (changes.Stage entry path) r q m n e out b =
      let new = with_path path.now entry in
      let goes = odds_go new r (m ∙ sym n ∙ ap record_stage e) (or_right (is_below new.path r) (is_below r.path new)
      (below_to r.path new.path (subst (λ (x : Record). IsBelow x.path r.path) e b))) in
      let clash : true ≡ false = sym goes ∙ out in
      absurd cc
  new_under (changes.Unstage path) r q m n e out b = absurd e

  same_new : (c : Change) (r q : Record) → IsNew c r → IsNew c q → r ≡ q
  same_new (changes.Stage entry path) r q e f = e ∙ sym f
  same_new (changes.Unstage path) r q e f = absurd e

  module _ (c : Change) (apart : AreDisjointPaths (staged_in (merged_in rs))) (s t : Staged) (o : IsOrigin (applied_one
      c rs) s)
      (p : IsOrigin (applied_one c rs) t) where
    one : (is_unmerged o.origin.flags ≡ false) × IsStagedOf o.origin s
    one = ((merged_parts (applied_one c rs) o.origin o.there).1, staged_of o.origin s o.entry)

    other : (is_unmerged p.origin.flags ≡ false) × IsStagedOf p.origin t
    other = ((merged_parts (applied_one c rs) p.origin p.there).1, staged_of p.origin t p.entry)

    olds_apart : IsBelow t.path s.path → Contains rs o.origin → Contains rs p.origin → ⊥
    olds_apart b x y = apart.below s t
        (staged_there (merged_in rs) o.origin s (merged_of rs o.origin x one.0) o.entry)
        (staged_there (merged_in rs) p.origin t (merged_of rs p.origin y other.0) p.entry) b

    below_stays : IsBelow t.path s.path → ⊥
    below_stays b = by (came_from c rs o.origin (merged_parts (applied_one c rs) o.origin o.there).0)
        (came_from c rs p.origin (merged_parts (applied_one c rs) p.origin p.there).0)
        (merged_stage o.origin.flags one.0 one.1.present) (merged_stage p.origin.flags other.0 other.1.present)
        (subst (λ (l : List ℕ). IsBelow l o.origin.path) other.1.path
        (subst (λ (l : List ℕ). IsBelow t.path l) one.1.path b))
      where
        by : CameFrom c rs o.origin → CameFrom c rs p.origin → IsMerged o.origin → IsMerged p.origin
            → IsBelow p.origin.path o.origin.path → ⊥
        by (inr x) (inr y) m n g = olds_apart b x.0 y.0
        by (inr x) (inl e) m n g = new_under c o.origin p.origin m n e x.1 g
        by (inl e) (inr y) m n g = new_over c o.origin p.origin m n e y.1 g
        by (inl e) (inl f) m n g = never_below_itself o.origin.path
            (subst (λ (x : Record). IsBelow x.path o.origin.path) (sym (same_new c o.origin p.origin e f)) g)

-- ---- whole directories

module _ (check pass : Check) (kind : Kind) (c : Change) (rs : List Record) (f : StagesFaultless check kind c) where
  abbrev now : List Record
  now = applied_one c rs

  -- if no directory that is one entry has the path in it, none has after the change
  pub outside_then : (path : List ℕ) → lies_in_whole path rs ≡ false → lies_in_whole path now ≡ false
  outside_then path out = list_any_none (is_around path) now (λ i d within.
      let r = get_or now i d in
      false_from (is_around path r) (λ t.
      let whole = and_both (r.mode == directory_mode) (goes_on r.path path) t in
      by r t whole.0 (came_from c rs r (All-contains_itself now i d within))))
    where
      by : (r : Record) → is_around path r ≡ true → (r.mode == directory_mode) ≡ true → CameFrom c rs r → ⊥
      by r t m (inl n) = whole_new check kind c r f n (whole_kind r.mode m)
      by r t m (inr p) = not_around path rs out r p.0 t

  module _ (out : lies_in_whole (change_path c) rs ≡ false) (fit : AreFit pass kind (merged_in rs)) where
    around_new : (r : Record) (path : List ℕ) → Contains (merged_in rs) r → is_removed r.flags ≡ false
        → named_kind r.mode ≡ Some kinds.Tree → path ≡ change_path c → HasPathPrefix path r.path → path ≡ r.path
    around_new r path there present e same b =
        let has = (All-contains (IsTreeRecord pass kind) (merged_in rs) r fit.each there present).1 in
        let tree : has.0 ≡ kinds.Tree = same_Some has.0 kinds.Tree (sym has.1.0 ∙ e) in
        by (goes_behind r.path path b.0 b.1 (slash_end pass 2048 has.0 r.path has.1.1 tree))
      where
        by : (path ≡ r.path) ⊎ (goes_on r.path path ≡ true) → path ≡ r.path
        by (inl x) = x
        by (inr x) = absurd (not_around (change_path c) rs out r (merged_parts rs r there).0
            (and_to (r.mode == directory_mode) (goes_on r.path (change_path c)) (whole_mode r.mode e)
            (subst (λ (l : List ℕ). goes_on r.path l ≡ true) same x)))

    inside_stays : (s t : Staged) (o : IsOrigin now s) (p : IsOrigin now t) → IsInside t.path s → t.path ≡ s.path
    inside_stays s t o p i =
        by (came_from c rs o.origin (merged_parts now o.origin o.there).0)
        (came_from c rs p.origin (merged_parts now p.origin p.there).0)
      where
        m : IsStagedOf o.origin s
        m = staged_of o.origin s o.entry

        n : IsStagedOf p.origin t
        n = staged_of p.origin t p.entry

        whole : named_kind o.origin.mode ≡ Some kinds.Tree
        whole = m.kind ∙ ap (λ (k : EntryKind). Some k) i.0

        merged : (r : Record) → Contains rs r → Contains (merged_in now) r → Contains (merged_in rs) r
        merged r x there = merged_of rs r x (merged_parts now r there).1

        begins : HasPathPrefix t.path o.origin.path
        begins = (i.1.0, i.1.1 ∙ ap (λ (l : List ℕ). l ++ i.1.0) m.path)

        by : CameFrom c rs o.origin → CameFrom c rs p.origin → t.path ≡ s.path
        by (inl e) y = absurd (whole_new check kind c o.origin f e whole)
        by (inr x) (inl e) =
            around_new o.origin t.path (merged o.origin x.0 o.there) m.present whole (n.path ∙ new_path c p.origin e) begins
            ∙ sym m.path
        by (inr x) (inr y) = fit.apart.inside s t
            (staged_there (merged_in rs) o.origin s (merged o.origin x.0 o.there) o.entry)
            (staged_there (merged_in rs) p.origin t (merged p.origin y.0 p.there) p.entry) i

    pub apart_then : AreDisjointPaths (staged_in (merged_in now))
    apart_then = record {
      below = λ s t x y b. below_stays rs c fit.apart s t (origin_of now s x) (origin_of now t y) b;
      inside = λ s t x y i. inside_stays s t (origin_of now s x) (origin_of now t y) i;
    }
