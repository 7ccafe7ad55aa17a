use Rattle.std.proofs.Common.{sym}
use Rattle.ext_untracked.specs.CacheSteps.{lent_block_head}
use Rattle.ext_untracked.proofs.BlockHeads.{block_head_there}
use Rattle.index_extensions.proofs.Errors.{at_err}
use Rattle.ext_untracked.proofs.blocks.start_of.Goals as goal

pub returns-in_err-untracked-clause-memory : goal.returns-in_err-untracked-clause-memory
returns-in_err-untracked-clause-memory c = at_err c.from_residual.result (block_head_there c.args.limit c.args.bytes.now
    (lent_block_head c.in-Some.head) c.in-Some.rest.now (sym c.in-Some.ensures))

pub returns-in_err-from_slice-clause-memory : goal.returns-in_err-from_slice-clause-memory
returns-in_err-from_slice-clause-memory c = at_err c.from_residual-in_err-from_slice.result (block_head_there
    c.args.limit c.args.bytes.now (lent_block_head c.in-Some.head) c.in-Some.rest.now (sym c.in-Some.ensures))
