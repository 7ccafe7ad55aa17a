use Rattle.std.proofs.Common.{length}
use Rattle.ext_small.specs.OffsetTable.{AreEntryBlocks}
use Rattle.ext_small.proofs.index_entry_offset_table.entry_blocks_of.Given as goal

abbrev pub invariant-loop-offset : goal.invariant-loop-offset
invariant-loop-offset l = AreEntryBlocks l.bytes l.offsets.items l.rest

abbrev pub decreases-loop-offset : goal.decreases-loop-offset
decreases-loop-offset l = length l.rest
