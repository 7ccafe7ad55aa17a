use Rattle.std.proofs.Common.{◌≡◌, ◌≤◌, take, length}
use Rattle.index_parts.specs.TreeObject.{kind_of_entries, unread_entries}
use Rattle.tree_decode.specs.LeafSteps.{IsPacked}
use Rattle.tree_decode.proofs.WalkLoops.{IsListing}
use Rattle.tree_decode.proofs.walk.list_entries.Given as goal

-- of the bytes those that are read are listed
abbrev pub invariant-loop-entry : goal.invariant-loop-entry
invariant-loop-entry g l = record {
  same_kind : kind_of_entries l.entries ≡ l.fn.kind;
  packed : IsPacked l.listed;
  prefix : take l.fn.prefix_len l.listed.path.items ≡ take l.fn.prefix_len l.initial.listed.path.items;
  long : l.fn.prefix_len ≤ length l.listed.path.items;
  listing : IsListing (g.C.ComponentCheck.refusal l.check) l.fn.kind l.initial.listed l.listed
      (take l.fn.prefix_len l.initial.listed.path.items) l.bytes (unread_entries l.entries);
}
