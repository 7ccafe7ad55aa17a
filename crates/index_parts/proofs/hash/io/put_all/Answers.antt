use Rattle.std.proofs.Common.{arith}
use Rattle.std.proofs.lemmas.Result.{err_from_is_err_and}
use Rattle.index_parts.proofs.Taking.{Appends-kept, Appends-taken, prefix_of_take}
use Rattle.index_parts.proofs.hash.io.put_all.Goals as goal

pub returns-in_err-count-clause-err : goal.returns-in_err-count-clause-err
returns-in_err-count-clause-err g c =
    let p = err_from_is_err_and c.from_residual.result c.from_residual.ensures.1 in
    rw p.1 (prefix_of_take _ _ c.loop-at.at _
    (Appends-kept _ _ _ _ c.loop-at.invariant.so_far c.in_err-count.ensures.bytes))

pub returns-then-count-eq0-clause-err : goal.returns-then-count-eq0-clause-err
returns-then-count-eq0-clause-err g c = prefix_of_take _ _ _ _
    (Appends-taken _ _ _ _ _ _ _ c.split_at.ensures.back c.loop-at.invariant.so_far c.in_ok-count.ensures.bytes)

pub loop-at-preserved : goal.loop-at-preserved
loop-at-preserved g c = record {
  within = omega (arith, c.in_ok-count.ensures.bound);
  so_far = Appends-taken _ _ _ _ _ _ _ c.split_at.ensures.back c.loop-at.invariant.so_far c.in_ok-count.ensures.bytes;
}
