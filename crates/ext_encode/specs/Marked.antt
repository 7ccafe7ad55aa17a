-- Extensions that are spellable, and the end marker after them (gitformat-index, "Extensions", "End of Index Entry").
use Rattle.std.specs.Prelude.{ℕ, ◌<◌, ◌^◌, Bool, true, false, List, [], ◌∷◌, ◌++◌, length, IfSome, None}
use Rattle.std.specs.List.{flat_map}
use Rattle.index_parts.specs.declared.hash.Kind.{Kind}
use Rattle.ext_tree.specs.StoredTree.{IsStorableTree}
use Rattle.index_extensions.specs.EndMarker.{heads}
use Rattle.index_extensions.specs.Encoding.{item_bytes, marker_item}
use Rattle.index_extensions.specs.Walk.{Item}
use Rattle.ext_encode.specs.MonitorImage.{IsSpellableMonitor}
use Rattle.ext_encode.specs.ResolveUndoImage.{AreSpellablePaths}
use Rattle.ext_encode.specs.SpellableCache.{IsSpellableCache}
use Rattle.ext_encode.specs.Chosen.{Extensions, items}

-- each extension is spellable with the hash algorithm, and the length of all fits into 32 bits
pub record AreSpellable (kind : Kind) (e : Extensions) : Type 0 where
  pub tree : IfSome e.tree (IsStorableTree kind)
  pub resolve_undo : IfSome e.resolve_undo (AreSpellablePaths kind)
  pub untracked : IfSome e.untracked (IsSpellableCache kind None)
  pub fs_monitor : IfSome e.fs_monitor IsSpellableMonitor
  pub small : length (flat_map item_bytes (items kind e)) < 2 ^ 32

-- the end marker after extensions that begin at this offset, if there is one
abbrev pub marker_if : Bool → Kind → ℕ → Extensions → List Item
marker_if false kind offset e = []
marker_if true kind offset e = marker_item kind offset (heads (items kind e)) ∷ []

-- the extensions, and the end marker after them
abbrev pub marked_items : Bool → Kind → ℕ → Extensions → List Item
marked_items marker kind offset e = items kind e ++ marker_if marker kind offset e
