use Rattle.std.proofs.Common.{◌≡◌, ◌+◌, ◌≤◌, length}
use Rattle.index_parts.specs.Id.{id_kind}
use Rattle.index_parts.specs.TreeObject.{kind_of_entries, unread_entries}
use Rattle.ext_tree.proofs.Agreements.{CountsOn}
use Rattle.ext_tree.proofs.Sounds.{row_of_trees}
use Rattle.ext_tree.proofs.verify.objects.count_directories.Given as goal

-- so many directories are counted of the bytes that are read, and each is a child
abbrev pub invariant-loop-entry : goal.invariant-loop-entry
invariant-loop-entry l = record {
  kind : kind_of_entries l.entries ≡ id_kind l.parent_id;
  fewer : l.number + length (unread_entries l.entries) ≤ length l.bytes;
  counts : CountsOn (id_kind l.parent_id) l.bytes l.parent_id (row_of_trees l.children) l.number
      (unread_entries l.entries);
}
