-- What one extension changes, by its signature.
use Rattle.std.proofs.Common.{◌≡◌, ℕ, Bool, true, false, List, Option, Some, refl, ap}
use Rattle.std.specs.Prelude.{◌||◌, not, nat_eq, codes}
use Rattle.std.specs.Cmp.Lexicographic.{pointwise}
use Rattle.index_parts.specs.declared.hash.Kind.{Kind}
use Rattle.index_extensions.specs.ExtensionValue.{IsRead}
use Rattle.ext_small.specs.FsMonitor.{Monitor, IsMonitor}
use Rattle.ext_small.specs.ResolveUndo.{PathStages, IsResolveUndo}
use Rattle.index_extensions.proofs.EndMarks.{bytes_agree}
use Rattle.ext_tree.specs.Tree.{Node, IsTree}
use Rattle.ext_untracked.specs.Untracked.{Cache, IsCache}
use Rattle.ext_split.specs.Link.{HasLink, LinkValue, IsLink}
use Rattle.index_model.specs.ExtensionSteps.{AddsExtension}
use Rattle.index_model.specs.Outcome.{Outcome}

named : (signature name : List ℕ) → pointwise nat_eq signature name ≡ true → signature ≡ name
named signature name e = bytes_agree signature name (ap not e)

stays : (t : Bool) → t ≡ (t || false)
stays true = refl
stays false = refl

becomes : (t : Bool) → true ≡ (t || true)
becomes true = refl
becomes false = refl

-- each mark stays with an extension of another name
marks_stay : (o : Outcome) → (o.sparse ≡ (o.sparse || false)) × (o.had_end_marker ≡ (o.had_end_marker || false))
    × (o.had_offset_table ≡ (o.had_offset_table || false))
marks_stay o = (stays o.sparse, stays o.had_end_marker, stays o.had_offset_table)

-- an extension of another name is no link
no_link : (kind : Kind) (content : List ℕ) → false ≡ true → HasLink kind content
no_link kind content e = absurd cc

whole : (kind : Kind) (content : List ℕ) (l : LinkValue) → IsLink kind content l → HasLink kind content
whole kind content l h = record { value = l; is_link = h }

module _ (kind : Kind) (limit : Option ℕ) (signature content : List ℕ) (old : Outcome) where
  pub adds_tree : (t : Option Node) → pointwise nat_eq signature (codes "TREE") ≡ true
      → IsRead (IsTree kind limit) content t → AddsExtension kind limit signature content old (record old { tree = t })
  adds_tree t e h = rw (named signature (codes "TREE") e) (assumption (h, marks_stay old, no_link kind content))

  pub adds_link : (l : LinkValue) → pointwise nat_eq signature (codes "link") ≡ true → IsLink kind content l
      → AddsExtension kind limit signature content old (record old { link = Some l })
  adds_link l e h =
      rw (named signature (codes "link") e) (assumption (h, marks_stay old, whole kind content l h))

  pub adds_resolve_undo : (paths : Option (List PathStages)) → pointwise nat_eq signature (codes "REUC") ≡ true
      → IsRead (IsResolveUndo kind) content paths
      → AddsExtension kind limit signature content old (record old { resolve_undo = paths })
  adds_resolve_undo paths e h =
      rw (named signature (codes "REUC") e) (assumption (h, marks_stay old, no_link kind content))

  pub adds_untracked : (cache : Option Cache) → pointwise nat_eq signature (codes "UNTR") ≡ true
      → IsRead (IsCache kind limit) content cache
      → AddsExtension kind limit signature content old (record old { untracked = cache })
  adds_untracked cache e h =
      rw (named signature (codes "UNTR") e) (assumption (h, marks_stay old, no_link kind content))

  pub adds_fs_monitor : (monitor : Option Monitor) → pointwise nat_eq signature (codes "FSMN") ≡ true
      → IsRead IsMonitor content monitor
      → AddsExtension kind limit signature content old (record old { fs_monitor = monitor })
  adds_fs_monitor monitor e h =
      rw (named signature (codes "FSMN") e) (assumption (h, marks_stay old, no_link kind content))

  pub adds_sparse : pointwise nat_eq signature (codes "sdir") ≡ true
      → AddsExtension kind limit signature content old (record old { sparse = true })
  adds_sparse e =
      rw (named signature (codes "sdir") e) (assumption (becomes old.sparse, marks_stay old, no_link kind content))

  pub adds_had_end_marker : pointwise nat_eq signature (codes "EOIE") ≡ true
      → AddsExtension kind limit signature content old (record old { had_end_marker = true })
  adds_had_end_marker e = rw (named signature (codes "EOIE") e)
      (assumption (becomes old.had_end_marker, marks_stay old, no_link kind content))

  pub adds_had_offset_table : pointwise nat_eq signature (codes "IEOT") ≡ true
      → AddsExtension kind limit signature content old (record old { had_offset_table = true })
  adds_had_offset_table e = rw (named signature (codes "IEOT") e)
      (assumption (becomes old.had_offset_table, marks_stay old, no_link kind content))

  -- one with another signature changes nothing
  pub adds_nothing : pointwise nat_eq signature (codes "link") ≡ false
      → pointwise nat_eq signature (codes "TREE") ≡ false
      → pointwise nat_eq signature (codes "REUC") ≡ false → pointwise nat_eq signature (codes "UNTR") ≡ false
      → pointwise nat_eq signature (codes "FSMN") ≡ false → pointwise nat_eq signature (codes "sdir") ≡ false
      → pointwise nat_eq signature (codes "EOIE") ≡ false → pointwise nat_eq signature (codes "IEOT") ≡ false
      → AddsExtension kind limit signature content old old
  adds_nothing not_link not_tree not_undo not_untracked not_monitor not_sparse not_marker not_table = record {
    tree = rw not_tree refl;
    link = rw not_link refl;
    whole_link = λ other. absurd cc;
    resolve_undo = rw not_undo refl;
    untracked = rw not_untracked refl;
    fs_monitor = rw not_monitor refl;
    sparse = rw not_sparse (stays old.sparse);
    had_end_marker = rw not_marker (stays old.had_end_marker);
    had_offset_table = rw not_table (stays old.had_offset_table);
  }
