-- The result of reading the extensions of a file (gitformat-index, "Extensions").
use Rattle.std.specs.Prelude.{◌≡◌, ℕ, ◌==◌, nat_eq, nat_le, ◌&&◌, ◌||◌, not, Bool, true, false, List, [], ◌∷◌, ◌++◌}
use Rattle.std.specs.Prelude.{All, length, codes, map, Option, None}
use Rattle.std.specs.List.{list_any}
use Rattle.std.specs.Option.{option_map}
use Rattle.std.specs.Cmp.Lexicographic.{pointwise}
use Rattle.index_parts.specs.declared.hash.Kind.{Kind}
use Rattle.index_extensions.specs.ExtensionValue.{has_signature, last_content, IsValue}
use Rattle.ext_small.specs.FsMonitor.{Monitor, IsMonitor, monitor_of}
use Rattle.ext_small.specs.ResolveUndo.{PathStages, IsResolveUndo, path_stages}
use Rattle.ext_tree.specs.Tree.{Node, IsTree, node_of}
use Rattle.ext_untracked.specs.Untracked.{Cache, IsCache, cache_of}
use Rattle.index_extensions.specs.Walk.{Item}
use Rattle.ext_split.specs.Link.{LinkFault, LinkValue, IsLink, IsLinkFault, link_of}
use Rattle.index_model.specs.declared.extension.Outcome.{Outcome as Kept}

-- the error of an extension that has to be understood: it isn't known, or it is an invalid link
pub data ExtensionFault : Type 0 where
  Unimplemented : (signature : List ℕ) → ExtensionFault
  Link : LinkFault → ExtensionFault

-- the first byte is `a` to `z`; an extension with another may be skipped
abbrev pub is_mandatory : List ℕ → Bool
is_mandatory [] = false
is_mandatory (b ∷ signature) = nat_le 97 b && nat_le b 122

-- of the mandatory ones a link is understood, and that of a sparse index, which has no content
abbrev pub is_understood : List ℕ → List ℕ → Bool
is_understood signature content =
    not (is_mandatory signature) ||
    (pointwise nat_eq signature (codes "link") || (pointwise nat_eq signature (codes "sdir") && length content == 0))

-- the item has this error
pub data IsFault (kind : Kind) (i : Item) (fault : ExtensionFault) : Type 0 where
  unknown : is_understood i.signature i.content ≡ false → fault ≡ Unimplemented i.signature → IsFault kind i fault
  broken_link : (f : LinkFault) → has_signature (codes "link") i ≡ true → IsLinkFault kind i.content f → fault ≡ Link f
      → IsFault kind i fault

-- no item has an error
abbrev pub AreSound : Kind → List Item → Type 0
AreSound kind items = All (λ i. (fault : ExtensionFault) → IsFault kind i fault → ⊥) items

-- some item has this error, and none before it has one
pub record IsFirstFault (kind : Kind) (items : List Item) (fault : ExtensionFault) : Type 0 where
  pub before : List Item
  pub item : Item
  pub behind : List Item
  pub parts : items ≡ before ++ item ∷ behind
  pub sound : AreSound kind before
  pub is_fault : IsFault kind item fault

-- the extensions of a state
pub record Outcome : Type 0 where
  pub tree : Option Node
  pub link : Option LinkValue
  pub resolve_undo : Option (List PathStages)
  pub untracked : Option Cache
  pub fs_monitor : Option Monitor
  pub sparse : Bool
  pub had_end_marker : Bool
  pub had_offset_table : Bool

-- the value of the extensions in memory
abbrev pub outcome_of : Kept → Outcome
outcome_of o = record {
  tree = option_map node_of o.tree;
  link = option_map link_of o.link;
  resolve_undo = option_map (λ paths. map path_stages paths.items) o.resolve_undo;
  untracked = option_map cache_of o.untracked;
  fs_monitor = option_map monitor_of o.fs_monitor;
  sparse = o.is_sparse;
  had_end_marker = o.had_end_of_index_marker;
  had_offset_table = o.had_offset_table;
}

-- the result of reading no extensions
abbrev pub no_extension : Outcome
no_extension =
    record {
      tree = None;
      link = None;
      resolve_undo = None;
      untracked = None;
      fs_monitor = None;
      sparse = false;
      had_end_marker = false;
      had_offset_table = false;
    }

-- of several extensions with one signature the last counts, even if it is malformed
pub record IsOutcome (kind : Kind) (limit : Option ℕ) (items : List Item) (o : Outcome) : Type 0 where
  pub tree : IsValue (IsTree kind limit) (last_content (codes "TREE") items) o.tree
  pub link : IsValue (IsLink kind) (last_content (codes "link") items) o.link
  pub resolve_undo : IsValue (IsResolveUndo kind) (last_content (codes "REUC") items) o.resolve_undo
  pub untracked : IsValue (IsCache kind limit) (last_content (codes "UNTR") items) o.untracked
  pub fs_monitor : IsValue IsMonitor (last_content (codes "FSMN") items) o.fs_monitor
  pub sparse : o.sparse ≡ list_any (has_signature (codes "sdir")) items
  pub had_end_marker : o.had_end_marker ≡ list_any (has_signature (codes "EOIE")) items
  pub had_offset_table : o.had_offset_table ≡ list_any (has_signature (codes "IEOT")) items
