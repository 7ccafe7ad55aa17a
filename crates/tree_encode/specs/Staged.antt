-- The entries of an index that its trees have (git-write-tree).
use Rattle.std.specs.Prelude.{ℕ, ◌==◌, ◌&&◌, List, drop, filter, Bool, not, bit_and, Option, None, if◌then◌else◌}
use Rattle.std.specs.List.{filter_map}
use Rattle.std.specs.Option.{option_map}
use Rattle.index_parts.specs.declared.hash.ObjectId.{ObjectId}
use Rattle.entry_fields.specs.Flags.{stage_number}
use Rattle.index_parts.specs.Mode.{named_kind}
use Rattle.index_parts.specs.declared.object.tree.EntryKind.{EntryKind}
use Rattle.entry_list.specs.EntryImage.{is_removed}
use Rattle.entry_list.specs.Record.{Record}
use Rattle.tree_encode.specs.declared.leaf.Leaf.{Leaf}

-- A record that isn't removed. It has its path, with a slash at the end for a sparse directory, what a tree has for its
-- mode, and its id. `later` is true for an intent-to-add entry: it has a position, but is in no tree.
pub record Staged : Type 0 where
  pub path : List ℕ
  pub kind : EntryKind
  pub id : ObjectId
  pub later : Bool

-- The entry is an intent-to-add entry: bit 29 of the flags in memory is set.
abbrev pub is_intended : ℕ → Bool
is_intended flags = bit_and flags 0x20000000 == 0x20000000

-- The entry is unmerged, and isn't removed.
abbrev pub is_unmerged : ℕ → Bool
is_unmerged flags = not (is_removed flags) && not (stage_number flags == 0)

-- The unmerged records, in their order. `merged_in` has the others, in their order.
abbrev pub unmerged_in : List Record → List Record
unmerged_in rs = filter (λ r. is_unmerged r.flags) rs

abbrev pub merged_in : List Record → List Record
merged_in rs = filter (λ r. not (is_unmerged r.flags)) rs

-- What a record stages: nothing if it is removed when the index is written, or if no tree has its mode.
abbrev pub staged_entry : Record → Option Staged
staged_entry r =
    if is_removed r.flags then None
    else option_map (λ k. record { path = r.path; kind = k; id = r.id; later = is_intended r.flags })
    (named_kind r.mode)

-- What the records stage, in their order.
abbrev pub staged_in : List Record → List Staged
staged_in rs = filter_map staged_entry rs

abbrev pub staged_of : Leaf → Staged
staged_of l = record { path = l.path.now; kind = l.kind; id = l.id; later = l.later }

-- The staged entry without the first `n` bytes of its path.
abbrev pub without_prefix : ℕ → Staged → Staged
without_prefix n s = record { path = drop n s.path; kind = s.kind; id = s.id; later = s.later }
