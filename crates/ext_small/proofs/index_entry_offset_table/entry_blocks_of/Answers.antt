use Rattle.ext_small.proofs.EntryBlocks.{blocks_push, blocks_all, blocks_there, blocks_whole}
use Rattle.index_extensions.proofs.Errors.{at_err}
use Rattle.ext_small.proofs.index_entry_offset_table.entry_blocks_of.Goals as goal

pub returns-then-bytes-ne0-clause-read : goal.returns-then-bytes-ne0-clause-read
returns-then-bytes-ne0-clause-read c = λ blocks h. c.if-bytes-ne0.true (blocks_whole c.args.bytes.now blocks h)

pub loop-offset-preserved : goal.loop-offset-preserved
loop-offset-preserved c = rw c.in_ok-push.ensures.items (blocks_push c.args.bytes.now c.loop-offset.offsets.items
    c.in-Some.offset c.loop-offset.rest.now c.in-Some.after.now c.loop-offset.invariant c.in-Some.ensures.found)

pub returns-clause-read : goal.returns-clause-read
returns-clause-read c = blocks_all c.args.bytes.now c.loop-offset.offsets.items c.loop-offset.rest.now
    c.loop-offset.invariant c.if-bytes-ne0.false c.in_default.ensures.none

pub returns-in_err-offsets-clause-memory : goal.returns-in_err-offsets-clause-memory
returns-in_err-offsets-clause-memory c =
    at_err c.from_residual.result (blocks_there c.args.bytes.now c.if-bytes-ne0.false)

pub returns-in_err-push-clause-memory : goal.returns-in_err-push-clause-memory
returns-in_err-push-clause-memory c =
    at_err c.from_residual-in_err-push.result (blocks_there c.args.bytes.now c.if-bytes-ne0.false)
