-- Merged and unmerged records, and which of them are below a directory.
use Rattle.std.proofs.Common.{◌≡◌, ℕ, ◌+◌, ◌<◌, List, [], ◌∷◌, ◌++◌, All, Bool, true, false, Contains}
use Rattle.std.proofs.Common.{Some, None, length, take, get_or, not, cond, ◌||◌, append-nil, refl, sym, ap, ◌∙◌}
use Rattle.std.proofs.Common.{arith}
use Rattle.std.specs.Prelude.{Result, Ok, Err, IfOk, IfErr, filter}
use Rattle.std.specs.List.{list_any}
use Rattle.std.specs.declared.cmp.Ordering.TheVariants.{Less}
use Rattle.std.specs.declared.ops.Range.{Range}
use Rattle.std.proofs.lemmas.Bool.{false≢true}
use Rattle.std.proofs.lemmas.Bool.Decides.{Decides-eqb}
use Rattle.std.proofs.lemmas.List.Elements.{All-weaker, Contains-get_or, filter_more}
use Rattle.std.proofs.lemmas.List.Kept.{AllPairs-filter}
use Rattle.std.proofs.lemmas.Slice.Eq.{starts_is}
use Rattle.entry_list.specs.Order.{IsOrderedByPath, IsStrictlyOrdered, record_cmp}
use Rattle.entry_list.specs.Record.{Record, record_in, records_in}
use Rattle.index_parts.specs.declared.hash.Kind.{Kind}
use Rattle.index_parts.specs.declared.hash.ObjectId.{ObjectId}
use Rattle.ext_tree.specs.Tree.{Node}
use Rattle.entry_fields.specs.declared.entry.flags.Flags.{Flags}
use Rattle.entry_fields.specs.declared.entry.mode.Mode.{Mode}
use Rattle.entry_fields.specs.declared.entry.stat.Stat.{Stat}
use Rattle.entry_list.specs.declared.Entry.{Entry}
use Rattle.entry_list.specs.declared.path_range.PathRange.{PathRange}
use Rattle.entry_lookup.specs.Range.{IsPrefixRange, begins_with}
use Rattle.entry_lookup.proofs.Lookup.{ordered_by_path}
use Rattle.tree_encode.specs.MergedSteps.{merged_entries, unmerged_entries}
use Rattle.tree_encode.specs.Refusals.{HasPathPrefix}
use Rattle.tree_encode.specs.Staged.{is_unmerged, merged_in, unmerged_in}
use Rattle.tree_encode.specs.TreeIds.{AreRight, TreeIdsCause}
use Rattle.tree_encode.specs.declared.tree_ids.Error.{Error}

-- ---- which begin with a path

begun : (prefix : List ℕ) (r : Record) → begins_with prefix r ≡ true → HasPathPrefix r.path prefix
begun prefix r e = (_, (starts_is Decides-eqb r.path prefix (begins_with prefix r) refl).0 e)

not_begun : (prefix : List ℕ) (r : Record) → begins_with prefix r ≡ false → HasPathPrefix r.path prefix → ⊥
not_begun prefix r e b =
    false≢true (sym e ∙ (starts_is Decides-eqb r.path prefix (begins_with prefix r) refl).1 b.0 b.1)

pub one_below : (prefix : List ℕ) (rs : List Record) (p : Range ℕ) → IsPrefixRange prefix rs (Some p) → p.start < p.end
    → (r : Record) × Contains rs r × HasPathPrefix r.path prefix
one_below [] [] p h lt = absurd (omega (arith, h.1, lt))
one_below [] (r ∷ rs) p h lt = (r, (0, omega arith, refl), (r.path, refl))
one_below (b ∷ bs) [] p h lt = absurd (omega (arith, h.1.in_range, lt))
one_below (b ∷ bs) (r ∷ rs) p h lt =
    let within : p.start < length (r ∷ rs) = omega (arith, h.1.in_range, lt) in
    let q = get_or (r ∷ rs) p.start r in
    (q, Contains-get_or (r ∷ rs) p.start r within, begun (b ∷ bs) q (h.1.within p.start r (omega arith) lt))

pub none_below : (prefix : List ℕ) (rs : List Record) → IsPrefixRange prefix rs None
    → All (λ r. HasPathPrefix r.path prefix → ⊥) rs
none_below [] rs h = absurd h
none_below (b ∷ bs) rs h = All-weaker (λ r. begins_with (b ∷ bs) r ≡ false) (λ r. HasPathPrefix r.path (b ∷ bs) → ⊥)
    (λ r e. not_begun (b ∷ bs) r e) rs h

-- ---- entries, and their records

unmerged_records : (storage : List ℕ) (es : List Entry)
    → records_in storage (unmerged_entries es) ≡ unmerged_in (records_in storage es)
unmerged_records storage [] = refl
unmerged_records storage (e ∷ es) = by (is_unmerged e.flags.0) (unmerged_records storage es)
  where
    by : (b : Bool) → records_in storage (unmerged_entries es) ≡ unmerged_in (records_in storage es)
        → records_in storage (cond b (e ∷ unmerged_entries es) (unmerged_entries es))
        ≡ cond b (record_in storage e ∷ unmerged_in (records_in storage es)) (unmerged_in (records_in storage es))
    by true rest = ap (λ (l : List Record). record_in storage e ∷ l) rest
    by false rest = rest

merged_records : (storage : List ℕ) (es : List Entry)
    → records_in storage (merged_entries es) ≡ merged_in (records_in storage es)
merged_records storage [] = refl
merged_records storage (e ∷ es) = by (is_unmerged e.flags.0) (merged_records storage es)
  where
    by : (b : Bool) → records_in storage (merged_entries es) ≡ merged_in (records_in storage es)
        → records_in storage (cond (not b) (e ∷ merged_entries es) (merged_entries es))
        ≡ cond (not b) (record_in storage e ∷ merged_in (records_in storage es)) (merged_in (records_in storage es))
    by true rest = rest
    by false rest = ap (λ (l : List Record). record_in storage e ∷ l) rest

all_merged : (es : List Entry) → list_any (λ e. is_unmerged e.flags.0) es ≡ false → merged_entries es ≡ es
all_merged [] h = refl
all_merged (e ∷ es) h = by (is_unmerged e.flags.0) h (all_merged es)
  where
    by : (b : Bool) → (b || list_any (λ e. is_unmerged e.flags.0) es) ≡ false
        → (list_any (λ e. is_unmerged e.flags.0) es ≡ false → merged_entries es ≡ es)
        → cond (not b) (e ∷ merged_entries es) (merged_entries es) ≡ e ∷ es
    by true f rest = absurd cc
    by false f rest = ap (λ (l : List Entry). e ∷ l) (rest f)

none_unmerged : (es : List Entry) → list_any (λ e. is_unmerged e.flags.0) es ≡ false → unmerged_entries es ≡ []
none_unmerged [] h = refl
none_unmerged (e ∷ es) h = by (is_unmerged e.flags.0) h (none_unmerged es)
  where
    by : (b : Bool) → (b || list_any (λ e. is_unmerged e.flags.0) es) ≡ false
        → (list_any (λ e. is_unmerged e.flags.0) es ≡ false → unmerged_entries es ≡ [])
        → cond b (e ∷ unmerged_entries es) (unmerged_entries es) ≡ []
    by true f rest = absurd cc
    by false f rest = rest f

pub merged_list : (storage : List ℕ) (es copies : List Entry) → copies ≡ merged_entries es
    → records_in storage copies ≡ merged_in (records_in storage es)
merged_list storage es copies e = ap (records_in storage) e ∙ merged_records storage es

pub unmerged_list : (storage : List ℕ) (es copies : List Entry) → copies ≡ unmerged_entries es
    → records_in storage copies ≡ unmerged_in (records_in storage es)
unmerged_list storage es copies e = ap (records_in storage) e ∙ unmerged_records storage es

pub whole_list : (storage : List ℕ) (es : List Entry) → list_any (λ e. is_unmerged e.flags.0) es ≡ false
    → records_in storage es ≡ merged_in (records_in storage es)
whole_list storage es h = merged_list storage es es (sym (all_merged es h))

pub empty_list : (storage : List ℕ) (es : List Entry) → list_any (λ e. is_unmerged e.flags.0) es ≡ false
    → [] ≡ unmerged_in (records_in storage es)
empty_list storage es h = unmerged_list storage es [] (sym (none_unmerged es h))

-- ---- statements about both lists

module _ (r : Result (Unit {0}) Error) (kind : Kind) (t : Node) (ms us rs : List Record) (m : ms ≡ merged_in rs)
    (u : us ≡ unmerged_in rs) where
  pub right_of : IfOk r (λ _. (qs : List Record) → ms ≡ merged_in qs → us ≡ unmerged_in qs → AreRight kind qs t)
      → IfOk r (λ _. AreRight kind rs t)
  right_of h = by r h
    where
      by : (r : Result (Unit {0}) Error)
          → IfOk r (λ _. (qs : List Record) → ms ≡ merged_in qs → us ≡ unmerged_in qs → AreRight kind qs t)
          → IfOk r (λ _. AreRight kind rs t)
      by (Ok x) h = h rs m u
      by (Err e) h = tt

  pub fault_of : IfErr r (λ e. (qs : List Record) → ms ≡ merged_in qs → us ≡ unmerged_in qs → TreeIdsCause kind qs t e)
      → IfErr r (TreeIdsCause kind rs t)
  fault_of h = by r h
    where
      by : (r : Result (Unit {0}) Error)
          → IfErr r (λ e. (qs : List Record) → ms ≡ merged_in qs → us ≡ unmerged_in qs → TreeIdsCause kind qs t e)
          → IfErr r (TreeIdsCause kind rs t)
      by (Ok x) h = tt
      by (Err e) h = h rs m u

-- ---- in order

pub merged_ordered : (rs : List Record) → IsStrictlyOrdered rs → IsStrictlyOrdered (merged_in rs)
merged_ordered rs h = record {
  less = AllPairs-filter (λ r q. record_cmp r q ≡ Less) (λ r. not (is_unmerged r.flags)) rs h.less;
}

pub unmerged_ordered : (rs : List Record) → IsStrictlyOrdered rs → IsOrderedByPath (unmerged_in rs)
unmerged_ordered rs h = ordered_by_path (unmerged_in rs) (record {
  less = AllPairs-filter (λ r q. record_cmp r q ≡ Less) (λ r. is_unmerged r.flags) rs h.less;
})

-- ---- one more entry

pub same_entry : (a b : Entry) → a.stat ≡ b.stat → a.id ≡ b.id → a.flags ≡ b.flags → a.mode ≡ b.mode
    → a.path ≡ b.path → a ≡ b
same_entry a b s i f m p =
    ap (λ (x : Stat). record { stat = x; id = a.id; flags = a.flags; mode = a.mode; path = a.path }) s
    ∙ ap (λ (x : ObjectId). record { stat = b.stat; id = x; flags = a.flags; mode = a.mode; path = a.path }) i
    ∙ ap (λ (x : Flags). record { stat = b.stat; id = b.id; flags = x; mode = a.mode; path = a.path }) f
    ∙ ap (λ (x : Mode). record { stat = b.stat; id = b.id; flags = b.flags; mode = x; path = a.path }) m
    ∙ ap (λ (x : PathRange). record { stat = b.stat; id = b.id; flags = b.flags; mode = b.mode; path = x }) p

module _ (es : List Entry) (i : ℕ) (d : Entry) (lt : i < length es) (copy : Entry) (is : copy ≡ get_or es i d) where
  behind_none : (p : Entry → Bool) → p (get_or es i d) ≡ false → filter p (take (i + 1) es) ≡ filter p (take i es)
  behind_none p e = filter_more p es i d lt
      ∙ ap (λ (b : Bool). filter p (take i es) ++ cond b (get_or es i d ∷ []) []) e ∙ append-nil (filter p (take i es))

  behind_one : (p : Entry → Bool) → p (get_or es i d) ≡ true
      → filter p (take (i + 1) es) ≡ filter p (take i es) ++ copy ∷ []
  behind_one p e = filter_more p es i d lt
      ∙ ap (λ (b : Bool). filter p (take i es) ++ cond b (get_or es i d ∷ []) []) e
      ∙ ap (λ (x : Entry). filter p (take i es) ++ x ∷ []) (sym is)

  module _ (merged unmerged : List Entry) (m : merged ≡ merged_entries (take i es))
      (u : unmerged ≡ unmerged_entries (take i es)) where
    pub more_unmerged : is_unmerged (get_or es i d).flags.0 ≡ true → (merged ≡ merged_entries (take (i + 1) es))
        × (unmerged ++ copy ∷ [] ≡ unmerged_entries (take (i + 1) es))
    more_unmerged e = (
      m ∙ sym (behind_none (λ e. not (is_unmerged e.flags.0)) (ap not e)),
      ap (λ (l : List Entry). l ++ copy ∷ []) u ∙ sym (behind_one (λ e. is_unmerged e.flags.0) e),
    )

    pub more_merged : is_unmerged (get_or es i d).flags.0 ≡ false
        → (merged ++ copy ∷ [] ≡ merged_entries (take (i + 1) es))
        × (unmerged ≡ unmerged_entries (take (i + 1) es))
    more_merged e = (
      ap (λ (l : List Entry). l ++ copy ∷ []) m ∙ sym (behind_one (λ e. not (is_unmerged e.flags.0)) (ap not e)),
      u ∙ sym (behind_none (λ e. is_unmerged e.flags.0) e),
    )
