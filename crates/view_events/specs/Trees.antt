-- The events of the cache tree extension (the library's own). The parts of a directory are those of gitformat-index,
-- "Cache tree".
use Rattle.std.specs.Prelude.{ℕ, ◌+◌, min, List, [], ◌∷◌, ◌++◌, length, Option, Some, None}
use Rattle.ext_tree.specs.Tree.{Node, Nodes, how_many_nodes, node, none, more}
use Rattle.ext_tree.specs.declared.Tree.{Tree}
use Rattle.ext_tree.specs.declared.Tree.TheViews.{out-Tree}
use Rattle.index_parts.specs.declared.hash.ObjectId.{ObjectId}
use Rattle.view_events.specs.declared.event.Datum.TheVariants.{Absent, Count, Id}
use Rattle.view_events.specs.declared.event.Item.TheVariants as items
use Rattle.view_events.specs.declared.event.Key.TheVariants as keys
use Rattle.view_events.specs.declared.event.Where.{Where}
use Rattle.view_events.specs.declared.event.Where.TheVariants.{Element, Member}
use Rattle.view_events.specs.Event.{Event, begin_array, begin_object, datum_field, end_array, end_object, text_field}

-- The depth `levels` below `depth`, at most that of 32 bits.
abbrev pub below : ℕ → ℕ → ℕ
below depth levels = min (depth + levels) 4294967295

-- A directory up to its list of directories: its name, its id, the number of entries below it, and the number of its
-- directories. `depth` is the depth of its members.
unfoldable pub opened_events : Where → ℕ → List ℕ → ObjectId → Option ℕ → ℕ → List Event
opened_events at depth name id count children =
    begin_object at ∷ text_field (Member keys.DirectoryName depth 0) name
    ∷ datum_field (Member keys.DirectoryId depth 1) (Id (Some id))
    ∷ datum_field (Member keys.NumEntries depth 2) (Count count)
    ∷ begin_array (Member keys.Children depth 3) children ∷ []

-- The begin of a tree in memory, up to its list of directories. `depth` is the depth of its members.
abbrev pub tree_opened : Where → ℕ → Tree → List Event
tree_opened at depth t =
    opened_events at depth (out-Tree t).name.items (out-Tree t).id (out-Tree t).num_entries
    (length (out-Tree t).children.items)

-- The end of a directory.
abbrev pub closed_events : Where → ℕ → List Event
closed_events at depth = end_array (Member keys.Children depth 3) ∷ end_object at ∷ []

abbrev mutual
  -- A directory and all below it.
  pub tree_events : Where → ℕ → Node → List Event
  tree_events at depth (node name id count children) =
      opened_events at depth name id count (how_many_nodes children) ++ all_tree_events 0 depth children
      ++ closed_events at depth

  -- Directories from an index on. `depth` is the depth of the array's own members.
  pub all_tree_events : ℕ → ℕ → Nodes → List Event
  all_tree_events place depth none = []
  all_tree_events place depth (more t ts) =
      tree_events (Element items.Child (below depth 1) place) (below depth 2) t
      ++ all_tree_events (place + 1) depth ts

-- The tree from its root on.
abbrev pub cached_tree_events : Option Node → List Event
cached_tree_events None = datum_field (Member keys.Tree 0 4) Absent ∷ []
cached_tree_events (Some t) = tree_events (Member keys.Tree 0 4) 1 t
