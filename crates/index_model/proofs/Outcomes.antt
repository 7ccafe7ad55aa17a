-- What extensions come to is decided, and is one: a fault or none of each, and the value of them all.
use Rattle.std.proofs.Common.{◌≡◌, ℕ, Bool, true, false, not, eqb, ◌⊎◌, inl, inr, List, length, Option, refl, sym, ap}
use Rattle.std.proofs.Common.{◌∙◌}
use Rattle.std.specs.Prelude.{◌&&◌, ◌||◌, codes}
use Rattle.std.specs.Cmp.Lexicographic.{pointwise}
use Rattle.std.specs.List.{list_any}
use Rattle.index_parts.specs.declared.hash.Kind.{Kind}
use Rattle.index_extensions.specs.ExtensionValue.{has_signature, last_content}
use Rattle.ext_small.specs.FsMonitor.{IsMonitor}
use Rattle.ext_small.specs.ResolveUndo.{IsResolveUndo}
use Rattle.ext_tree.specs.Tree.{IsTree}
use Rattle.ext_untracked.specs.Untracked.{IsCache}
use Rattle.index_extensions.specs.Walk.{Item}
use Rattle.index_extensions.proofs.Readings.{Decided, one_read, value_reading, one_value}
use Rattle.ext_tree.proofs.TreeReadings.{tree_reading, tree_reading_one}
use Rattle.ext_untracked.proofs.CacheReadings.{cache_reading}
use Rattle.ext_untracked.proofs.Caches.{one_cache}
use Rattle.ext_small.proofs.Monitors.{one_monitor, monitor_reading}
use Rattle.ext_small.proofs.ResolveUndo.{one_resolve_undo, resolve_undo_reading}
use Rattle.ext_split.specs.Link.{LinkFault, IsLink, IsLinkFault, HasLink}
use Rattle.index_model.specs.Outcome.{Outcome, ExtensionFault, Unimplemented, Link, is_mandatory, is_understood}
use Rattle.index_model.specs.Outcome.{IsFault, unknown, broken_link, IsOutcome}
use Rattle.ext_split.proofs.Links.{no_link_fault}
use Rattle.ext_split.proofs.OnceLinks.{link_or_fault, link_reading, one_link}
use Rattle.ext_split.proofs.OnceLinkFaults.{one_link_fault}

-- ---- the fault of one extension

-- the extension has none
abbrev pub IsSound : Kind → Item → Type 0
IsSound kind i = (fault : ExtensionFault) → IsFault kind i fault → ⊥

-- a link is understood
understood_link : (m n s : Bool) → n ≡ true → (not m || (n || s)) ≡ true
understood_link true true s e = refl
understood_link false n s e = refl
understood_link true false s e = absurd cc

-- of a link, by what its content is
link_by : (kind : Kind) (i : Item) → has_signature (codes "link") i ≡ true
    → HasLink kind i.content ⊎ ((f : LinkFault) × IsLinkFault kind i.content f) → Decided (IsFault kind i)
link_by kind i named (inl h) = inr (λ fault k. linked fault k)
  where
    understood : is_understood i.signature i.content ≡ true
    understood = understood_link (is_mandatory i.signature) (has_signature (codes "link") i) _ named

    linked : (fault : ExtensionFault) → IsFault kind i fault → ⊥
    linked fault (unknown n e) = let t = understood in absurd cc
    linked fault (broken_link f again l e) = no_link_fault kind i.content h.value f h.is_link l
link_by kind i named (inr h) = inl (Link h.0, broken_link h.0 named h.1 refl)

-- of any other, by whether it is understood
other_by : (kind : Kind) (i : Item) (t : Bool) → has_signature (codes "link") i ≡ false
    → is_understood i.signature i.content ≡ t → Decided (IsFault kind i)
other_by kind i false other e = inl (Unimplemented i.signature, unknown e refl)
other_by kind i true other e = inr (λ fault k. none fault k)
  where
    none : (fault : ExtensionFault) → IsFault kind i fault → ⊥
    none fault (unknown n f) = absurd cc
    none fault (broken_link f named l g) = absurd cc

fault_by : (kind : Kind) (i : Item) (t : Bool) → has_signature (codes "link") i ≡ t → Decided (IsFault kind i)
fault_by kind i true e = link_by kind i e (link_or_fault kind i.content)
fault_by kind i false e = other_by kind i (is_understood i.signature i.content) e refl

pub fault_reading : (kind : Kind) (i : Item) → Decided (IsFault kind i)
fault_reading kind i = fault_by kind i (has_signature (codes "link") i) refl

not_both : (i : Item) → is_understood i.signature i.content ≡ false → has_signature (codes "link") i ≡ true → ⊥
not_both i n named =
    let t = understood_link (is_mandatory i.signature) (has_signature (codes "link") i)
    (pointwise eqb i.signature (codes "sdir") && eqb (length i.content) 0) named in
    absurd cc

pub one_fault : (kind : Kind) (i : Item) (f g : ExtensionFault) → IsFault kind i f → IsFault kind i g → f ≡ g
one_fault kind i f g (unknown n e) (unknown m h) = e ∙ sym h
one_fault kind i f g (unknown n e) (broken_link x named l h) = absurd (not_both i n named)
one_fault kind i f g (broken_link x named l h) (unknown n e) = absurd (not_both i n named)
one_fault kind i f g (broken_link x named l e) (broken_link y again m h) =
    e ∙ ap Link (one_link_fault kind i.content x y l m) ∙ sym h

-- ---- what all come to

pub outcome_reading : (kind : Kind) (limit : Option ℕ) (items : List Item)
    → (o : Outcome) × IsOutcome kind limit items o
outcome_reading kind limit items =
    let tree = value_reading (IsTree kind limit) (tree_reading kind limit) (last_content (codes "TREE") items) in
    let link = value_reading (IsLink kind) (link_reading kind) (last_content (codes "link") items) in
    let paths = value_reading (IsResolveUndo kind) (resolve_undo_reading kind) (last_content (codes "REUC") items) in
    let cache = value_reading (IsCache kind limit) (cache_reading kind limit) (last_content (codes "UNTR") items) in
    let monitor = value_reading IsMonitor monitor_reading (last_content (codes "FSMN") items) in (
      record {
        tree = tree.0;
        link = link.0;
        resolve_undo = paths.0;
        untracked = cache.0;
        fs_monitor = monitor.0;
        sparse = list_any (has_signature (codes "sdir")) items;
        had_end_marker = list_any (has_signature (codes "EOIE")) items;
        had_offset_table = list_any (has_signature (codes "IEOT")) items;
      },
      record {
        tree = tree.1;
        link = link.1;
        resolve_undo = paths.1;
        untracked = cache.1;
        fs_monitor = monitor.1;
        sparse = refl;
        had_end_marker = refl;
        had_offset_table = refl;
      },
    )

-- outcomes that agree in each part are equal
pub record Agree (o p : Outcome) : Type 0 where
  pub tree : o.tree ≡ p.tree
  pub link : o.link ≡ p.link
  pub resolve_undo : o.resolve_undo ≡ p.resolve_undo
  pub untracked : o.untracked ≡ p.untracked
  pub fs_monitor : o.fs_monitor ≡ p.fs_monitor
  pub sparse : o.sparse ≡ p.sparse
  pub had_end_marker : o.had_end_marker ≡ p.had_end_marker
  pub had_offset_table : o.had_offset_table ≡ p.had_offset_table

same_outcome : (o p : Outcome) → Agree o p → o ≡ p
same_outcome o p a =
    rw (a.tree, a.link, a.resolve_undo, a.untracked, a.fs_monitor, a.sparse, a.had_end_marker, a.had_offset_table) refl

pub one_outcome : (kind : Kind) (limit : Option ℕ) (items : List Item) (o p : Outcome) → IsOutcome kind limit items o
    → IsOutcome kind limit items p → o ≡ p
one_outcome kind limit items o p h k = same_outcome o p (record {
  tree = one_value (IsTree kind limit) (tree_reading_one kind limit)
      (last_content (codes "TREE") items) o.tree p.tree h.tree k.tree;
  link = one_value (IsLink kind) (λ bytes. one_read (IsLink kind) bytes (one_link kind bytes))
      (last_content (codes "link") items) o.link p.link h.link k.link;
  resolve_undo =
      one_value (IsResolveUndo kind) (λ bytes. one_read (IsResolveUndo kind) bytes (one_resolve_undo kind bytes))
      (last_content (codes "REUC") items) o.resolve_undo p.resolve_undo h.resolve_undo k.resolve_undo;
  untracked = one_value (IsCache kind limit) (λ bytes. one_read (IsCache kind limit) bytes (one_cache kind limit bytes))
      (last_content (codes "UNTR") items) o.untracked p.untracked h.untracked k.untracked;
  fs_monitor = one_value IsMonitor (λ bytes. one_read IsMonitor bytes (one_monitor bytes))
      (last_content (codes "FSMN") items) o.fs_monitor p.fs_monitor h.fs_monitor k.fs_monitor;
  sparse = h.sparse ∙ sym k.sparse;
  had_end_marker = h.had_end_marker ∙ sym k.had_end_marker;
  had_offset_table = h.had_offset_table ∙ sym k.had_offset_table;
})
