-- The events of any index describe a value. Parts without lists: by computation, for each of their cases. The others:
-- by the lists that they have.
use Rattle.std.proofs.Common.{◌≡◌, ℕ, ◌+◌, Bool, true, false, List, ◌++◌, refl, codes, Option, Some, None}
use Rattle.std.specs.Option.{option_map}
use Rattle.ext_bitmap.specs.Bitmap.{Bitmap}
use Rattle.ext_tree.specs.Tree.{Node, Nodes, node, none, more}
use Rattle.entry_list.specs.Record.{Record}
use Rattle.index_model.specs.Contents.{Contents}
use Rattle.ext_small.specs.declared.marks.EndMark.{EndMark}
use Rattle.ext_small.specs.declared.marks.Marks.{Marks}
use Rattle.index_parts.specs.declared.hash.ObjectId.{ObjectId}
use Rattle.ext_small.specs.FsMonitor.{Monitor, TokenValue, nanoseconds, opaque}
use Rattle.ext_small.specs.ResolveUndo.{PathStages}
use Rattle.ext_small.specs.declared.index_entry_offset_table.Offset.{Offset}
use Rattle.ext_split.specs.Link.{BitmapPair, LinkValue}
use Rattle.ext_untracked.specs.Blocks.{DirectoryValue}
use Rattle.ext_untracked.specs.Untracked.{Cache}
use Rattle.view_events.specs.Bitmaps.{bitmap_events, link_events, monitor_events, pair_events, token_event}
use Rattle.view_events.specs.Document.{behind_events, document_events, entry_events, head_events, last_events}
use Rattle.view_events.specs.declared.event.Item.TheVariants as items
use Rattle.view_events.specs.declared.event.Where.TheVariants.{Element}
use Rattle.view_events.specs.Marks.{block_events, blocks_events, end_events, marker_events, table_events}
use Rattle.view_events.specs.Trees.{all_tree_events, below, cached_tree_events, opened_events, tree_events}
use Rattle.view_events.specs.Undo.{path_events, undo_events}
use Rattle.view_events.specs.Untracked.{cache_begin, cached_events, name_events, subdirectory_events}
use Rattle.view_events.specs.Untracked.{untracked_events}
use Rattle.view_json.specs.Json.{json_text}
use Rattle.view_json_laws.specs.Telling.{document_value, value_of}
use Rattle.view_json_laws.specs.Value.{spelling}
use Rattle.view_json_laws.proofs.Parts.{TellsItem, TellsItems, TellsMembers, item_and, item_told}
use Rattle.view_json_laws.proofs.Parts.{listed_told, members_and, members_told, no_items_told, told_append}
use Rattle.view_json_laws.proofs.Parts.{whole_array}
use Rattle.view_json_laws.proofs.Spelled.{value_spelled}

entry_told : (r : Record) → TellsItem (λ place. entry_events place r)
entry_told r = item_told (λ place b. refl)

-- ---- a cached tree

mutual
  unfolding opened_events

  node_told : (depth : ℕ) (t : Node)
      → TellsItem (λ place. tree_events (Element items.Child (below depth 1) place) (below depth 2) t)
  node_told depth (node name id count children) =
      let inside = whole_array _ (nodes_told 0 (below depth 2) children) in
      item_told (λ place b. simp told_append (simp inside.is refl))

  nodes_told : (place depth : ℕ) (ts : Nodes) → TellsItems place (all_tree_events place depth ts)
  nodes_told place depth none = no_items_told place
  nodes_told place depth (more t ts) =
      item_and place (λ p. tree_events (Element items.Child (below depth 1) p) (below depth 2) t)
      (all_tree_events (place + 1) depth ts) (node_told depth t) (nodes_told (place + 1) depth ts)

tree_told : (t : Option Node) → TellsMembers true (cached_tree_events t)
unfolding opened_events
tree_told None = members_told (λ ms b. refl)
tree_told (Some (node name id count children)) =
    let inside = whole_array _ (nodes_told 0 1 children) in
    members_told (λ ms b. simp told_append (simp inside.is refl))

-- ---- bitmaps

pair_told : (pair : Option BitmapPair) → TellsMembers true (pair_events pair)
unfolding pair_events bitmap_events
pair_told None = members_told (λ ms b. refl)
pair_told (Some pair) = members_told (λ ms b. refl)

link_told : (link : Option LinkValue) → TellsMembers true (link_events link)
unfolding link_events
link_told None = members_told (λ ms b. refl)
link_told (Some link) =
    let pair = pair_told link.bitmaps in
    members_told (λ ms b. simp (told_append, pair.is) refl)

watch_told : (token : TokenValue) (dirty : Bitmap)
    → TellsMembers true (monitor_events (Some (record { token = token; dirty = dirty })))
unfolding monitor_events token_event bitmap_events
watch_told (nanoseconds time) dirty = members_told (λ ms b. refl)
watch_told (opaque text) dirty = members_told (λ ms b. refl)

monitor_told : (monitor : Option Monitor) → TellsMembers true (monitor_events monitor)
unfolding monitor_events
monitor_told None = members_told (λ ms b. refl)
monitor_told (Some monitor) = watch_told monitor.token monitor.dirty

-- ---- resolved conflicts

path_told : (p : PathStages) → TellsItem (λ place. path_events place p)
unfolding path_events
path_told p = item_told (λ place b. refl)

undo_told : (paths : Option (List PathStages)) → TellsMembers true (undo_events paths)
undo_told None = members_told (λ ms b. refl)
undo_told (Some paths) =
    let inside = listed_told path_events path_told paths in
    members_told (λ ms b. simp (told_append, inside.is) refl)

-- ---- an untracked cache

name_told : (name : List ℕ) → TellsItem (λ place. name_events place name)
unfolding name_events
name_told name = item_told (λ place b. refl)

subdirectory_told : (n : ℕ) → TellsItem (λ place. subdirectory_events place n)
subdirectory_told n = item_told (λ place b. refl)

directory_told : (d : DirectoryValue) → TellsItem (λ place. cached_events place d)
unfolding cached_events
directory_told d =
    let names = listed_told name_events name_told d.untracked in
    let places = listed_told subdirectory_events subdirectory_told d.subs in
    item_told (λ place b. simp told_append (simp (names.is, places.is) refl))

cache_told : (cache : Option Cache) → TellsMembers true (untracked_events cache)
unfolding cache_begin
cache_told None = members_told (λ ms b. refl)
cache_told (Some c) =
    let inside = listed_told cached_events directory_told c.directories in
    members_told (λ ms b. simp told_append (simp inside.is refl))

-- ---- an offset table and an end marker

block_told : (o : Offset) → TellsItem (λ place. block_events place o)
block_told o = item_told (λ place b. refl)

table_told : (had : Bool) (table : Option (List Offset)) → TellsMembers true (table_events had table)
unfolding table_events blocks_events
table_told false table = members_told (λ ms b. refl)
table_told true None = members_told (λ ms b. refl)
table_told true (Some blocks) =
    let inside = listed_told block_events block_told blocks in
    members_told (λ ms b. simp (told_append, inside.is) refl)

marker_told : (had : Bool) (mark : Option EndMark) → TellsMembers true (end_events had mark)
unfolding end_events marker_events
marker_told false mark = members_told (λ ms b. refl)
marker_told true None = members_told (λ ms b. refl)
marker_told true (Some m) = members_told (λ ms b. refl)

-- ---- all of it

pub document_told : (c : Contents) (checksum : Option ObjectId) (marks : Marks)
    → value_of (document_events c checksum marks) ≡ Some (document_value c checksum marks)
unfolding document_value document_events head_events behind_events last_events
document_told c checksum marks =
    let o = c.extensions in
    let entries = listed_told entry_events entry_told c.records in
    let values = members_and (members_and (members_and (tree_told o.tree) (link_told o.link)) (undo_told o.resolve_undo))
    (cache_told o.untracked) in
    let monitor = monitor_told o.fs_monitor in
    let table = table_told o.had_offset_table (option_map (λ v. v.items) marks.table) in
    let marker = marker_told o.had_end_marker marks.end in
    simp told_append (simp (entries.is, values.is, monitor.is, table.is, marker.is) refl)

pub document_text : (c : Contents) (checksum : Option ObjectId) (marks : Marks)
    → json_text c checksum marks ≡ spelling (document_value c checksum marks) ++ codes "\n"
document_text c checksum marks =
    value_spelled (document_events c checksum marks) (document_value c checksum marks)
    (document_told c checksum marks)
