use Rattle.std.proofs.Common.{ℕ, ◌+◌, ◌*◌, arith}
use Rattle.base_sha.proofs.Lanes.{spread_at}
use Rattle.base_sha.proofs.schedule.extend_by_twenty.Goals as goal

pub loop-turn-preserved : goal.loop-turn-preserved
loop-turn-preserved c = λ group start.
    let t : ℕ = c.args.from + 5 * c.loop-turn.turn in
    let s0 = c.loop-turn.invariant group start in
    let s1 = c.extend.ensures group s0 in
    let s2 = c.extend-in-loop-turn.ensures group s1 in
    let s3 = c.extend-in-loop-turn-2.ensures group (spread_at _ _ group _ (t + 2) (omega arith) s2) in
    let s4 = c.extend-in-loop-turn-3.ensures group (spread_at _ _ group _ (t + 3) (omega arith) s3) in
    let s5 = c.extend-in-loop-turn-4.ensures group (spread_at _ _ group _ (t + 4) (omega arith) s4) in
    spread_at _ _ group _ _ (omega arith) s5

pub returns : goal.returns
returns c = λ group start. spread_at _ _ group _ _ (omega arith) (c.loop-turn.invariant group start)
