use Rattle.std.proofs.Common.{◌≡◌, ◌+◌, length, take, []}
use Rattle.index_parts.specs.Gathered.{Gathers}
use Rattle.entry_list.specs.EntryImage.{entries_in}
use Rattle.entry_list.proofs.Written.{written_of, last_of}
use Rattle.entry_list.proofs.write.put_entries.Given as goal

-- the entries before this one went out or are in the block, and the path is that of the last one
abbrev pub invariant-loop-entry : goal.invariant-loop-entry
invariant-loop-entry g l = record {
  so_far : Gathers g.W.Out l.fn.out l.out l.block.bytes
      (entries_in l.version [] (written_of l.storage (take l.entry-index l.entries)));
  counted : l.gone + length l.block.bytes
      ≡ 12 + length (entries_in l.version [] (written_of l.storage (take l.entry-index l.entries)));
  last : l.previous ≡ last_of [] (written_of l.storage (take l.entry-index l.entries));
}
