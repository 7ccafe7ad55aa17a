-- All entries: what they stage is ready to be written.
use Rattle.std.proofs.Common.{◌≡◌, ℕ, ◌<◌, List, [], ◌∷◌, All, AllPairs, Bool, true, false, Option, Some, None, length}
use Rattle.std.proofs.Common.{map, get_or, refl, sym, ap, subst, ◌∙◌, arith}
use Rattle.std.specs.Prelude.{if◌then◌else◌}
use Rattle.std.specs.List.{slice_range}
use Rattle.std.specs.Option.{option_map}
use Rattle.std.specs.declared.cmp.Ordering.TheVariants.{Less}
use Rattle.std.proofs.lemmas.Cmp.{nat_list_cmp_total, tied_itself}
use Rattle.std.proofs.lemmas.List.{get_or_default}
use Rattle.std.proofs.lemmas.Option.{same_Some}
use Rattle.index_parts.specs.declared.hash.Kind.{Kind}
use Rattle.index_parts.specs.Mode.{named_kind}
use Rattle.index_parts.specs.declared.object.tree.EntryKind.{EntryKind}
use Rattle.entry_list.specs.EntryImage.{is_removed}
use Rattle.entry_list.specs.Order.{IsStrictlyOrdered, path_cmp}
use Rattle.entry_list.specs.Record.{Record}
use Rattle.tree_encode.specs.Refusals.{AreFit, NameCheck, IsTreeRecord, IsFullId, IsInside, IsTreePath}
use Rattle.tree_encode.specs.Staged.{Staged, without_prefix, is_intended, staged_entry, staged_in}
use Rattle.tree_encode.specs.WritingSteps.{IsLeaf, IsReady, staged_below}
use Rattle.tree_encode.proofs.Checked.{staged_each, staged_rise}
use Rattle.tree_encode.proofs.Ranges.{range_whole}

pub cut_none : (ss : List Staged) → map (without_prefix 0) ss ≡ ss
cut_none [] = refl
cut_none (s ∷ ss) = ap (λ (l : List Staged). s ∷ l) (cut_none ss)

pub whole_below : (rs : List Record) → staged_below 0 (slice_range rs 0 (length rs)) ≡ staged_in rs
whole_below rs = ap (staged_below 0) (range_whole rs) ∙ cut_none (staged_in rs)

module _ (check : NameCheck) (kind : Kind) where
  leaf_fit : (r : Record) (x : Staged) → IsTreeRecord check kind r → staged_entry r ≡ Some x
      → IsTreePath check 2048 x.kind x.path × IsFullId kind x.id
  leaf_fit r x h e = by (is_removed r.flags) refl (named_kind r.mode) refl e
    where
      by : (b : Bool) → is_removed r.flags ≡ b → (k : Option EntryKind) → named_kind r.mode ≡ k → (if b then None else
          option_map (λ k. record { path = r.path; kind = k; id = r.id; later = is_intended r.flags }) k) ≡ Some x
          → IsTreePath check 2048 x.kind x.path × IsFullId kind x.id
      by true f k n d = absurd cc
      by false f None n d = absurd cc
      by false f (Some k) n d =
          let fit = h f in
          let kind_is : fit.1.0 ≡ k = same_Some fit.1.0 k (sym fit.1.1.0 ∙ n) in
          subst (λ (s : Staged). IsTreePath check 2048 s.kind s.path × IsFullId kind s.id)
          (same_Some (record { path = r.path; kind = k; id = r.id; later = is_intended r.flags }) x d)
          (subst (λ (j : EntryKind). IsTreePath check 2048 j r.path) kind_is fit.1.1.1, (fit.2.0, fit.2.1))

  -- what is staged so far is right
  pub each_path : (rs : List Record) → All (IsTreeRecord check kind) rs
      → All (λ s. IsTreePath check 2048 s.kind s.path) (staged_in rs)
  each_path = staged_each (IsTreeRecord check kind) (λ s. IsTreePath check 2048 s.kind s.path)
      (λ r x h e. (leaf_fit r x h e).0)

  each_leaf : (rs : List Record) → All (IsTreeRecord check kind) rs → All (IsLeaf kind 2048) (staged_in rs)
  each_leaf = staged_each (IsTreeRecord check kind) (IsLeaf kind 2048) (λ r x h e.
      let f = leaf_fit r x h e in
      record { check = check; path = f.0; of_kind = f.1.0; len = f.1.1 })

  pub ready_whole : (rs : List Record) → IsStrictlyOrdered rs → AreFit check kind rs
      → IsReady kind 2048 (staged_below 0 (slice_range rs 0 (length rs)))
  ready_whole rs ordered fit = subst (IsReady kind 2048) (sym (whole_below rs))
      (record { each = each_leaf rs fit.each; rise = rise; outside = outside })
    where
      rise : AllPairs (λ s t. path_cmp s.path t.path ≡ Less) (staged_in rs)
      rise = staged_rise check kind rs ordered.less fit.each

      outside : AllPairs (λ s t. IsInside t.path s → ⊥) (staged_in rs)
      outside i j d lt within inside =
          let ss = staged_in rs in
          let s = get_or ss i d in
          let t = get_or ss j d in
          let short : i < length ss = omega (arith, lt, within) in
          let same : t.path ≡ s.path = fit.apart.inside s t (i, short, get_or_default ss i s d short)
          (j, within, get_or_default ss j t d within) inside in
          let less : path_cmp s.path s.path ≡ Less =
          subst (λ (p : List ℕ). path_cmp s.path p ≡ Less) same (rise i j d lt within) in
          let tie = tied_itself nat_list_cmp_total s.path in
          absurd (cc (tie, less))
