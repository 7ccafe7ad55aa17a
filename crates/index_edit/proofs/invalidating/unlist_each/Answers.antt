use Rattle.std.proofs.Common.{arith}
use Rattle.ext_untracked.specs.Untracked.{cache_of}
use Rattle.index_edit.proofs.Invalidations.{all_listed_off, unlisted_more, unlisted_none}
use Rattle.index_edit.proofs.invalidating.unlist_each.Goals as goal

pub loop-change-init : goal.loop-change-init
loop-change-init c = unlisted_none (cache_of c.args.cache.now)

pub loop-change-preserved : goal.loop-change-preserved
loop-change-preserved c =
    unlisted_more c.args.changes.now c.loop-change.change-index (cache_of c.args.cache.now) _ c.path.result.now
    (cache_of c.loop-change.cache) (cache_of c.invalidate.new.cache) (omega (arith, c.loop-change-test.true))
    c.path.ensures c.loop-change.invariant c.invalidate.ensures.is

pub returns : goal.returns
returns c =
    all_listed_off c.args.changes.now c.loop-change.change-index (cache_of c.args.cache.now) (cache_of c.loop-change.cache)
    (omega (arith, c.loop-change-test.false)) c.loop-change.invariant
