use Rattle.std.proofs.Common.{ℕ, ◌+◌, ◌*◌, arith}
use Rattle.base_sha.proofs.Lanes256.{spread_at}
use Rattle.base_sha.proofs.sha256.schedule.spread.Goals as goal

pub loop-turn-preserved : goal.loop-turn-preserved
loop-turn-preserved c =
    let group = c.args.group.now in
    let t : ℕ = 4 * c.loop-turn.turn in
    let s1 = c.extend.ensures group c.loop-turn.invariant in
    let s2 = c.extend-in-loop-turn.ensures group s1 in
    let s3 = c.extend-in-loop-turn-2.ensures group (spread_at _ _ group _ (t + 2) (omega arith) s2) in
    let s4 = c.extend-in-loop-turn-3.ensures group (spread_at _ _ group _ (t + 3) (omega arith) s3) in
    spread_at _ _ group _ _ (omega arith) s4

pub returns : goal.returns
returns c = spread_at _ _ c.args.group.now _ _ (omega arith) c.loop-turn.invariant
