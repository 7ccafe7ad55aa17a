use Rattle.std.proofs.Common.{◌≡◌, List}
use Rattle.index_parts.specs.TreeObject.{TreeEntry, AreTreeEntries, kind_of_entries, unread_entries}
use Rattle.tree_decode.proofs.read.is_whole.Given as goal

-- the entries so far are before the bytes that aren't read
abbrev pub invariant-loop-entry : goal.invariant-loop-entry
invariant-loop-entry l = record {
  kind : kind_of_entries l.entries ≡ l.fn.kind;
  read : (es : List TreeEntry) × AreTreeEntries l.fn.kind l.bytes es (unread_entries l.entries);
}
