use Rattle.std.proofs.Common.{ℕ, ◌+◌, ◌*◌, arith, refl}
use Rattle.base_sha.proofs.Steps.{choose_step, rounds_at}
use Rattle.base_sha.proofs.rounds.choose_rounds.Goals as goal

pub loop-turn-preserved : goal.loop-turn-preserved
loop-turn-preserved c = λ h ws keyed start.
    let t : ℕ = 5 * c.loop-turn.turn in
    let v0 = c.loop-turn.invariant h ws keyed start in
    let v1 = choose_step h ws _ _ t (t + 1) _ (omega arith) refl v0 (keyed t (omega arith)) c.choose.ensures in
    let v2 = choose_step h ws _ _ (t + 1) (t + 2) _ (omega arith) (omega arith) v1 (keyed (t + 1) (omega arith)) c.choose-in-loop-turn.ensures in
    let v3 = choose_step h ws _ _ (t + 2) (t + 3) _ (omega arith) (omega arith) v2 (keyed (t + 2) (omega arith)) c.choose-in-loop-turn-2.ensures in
    let v4 = choose_step h ws _ _ (t + 3) (t + 4) _ (omega arith) (omega arith) v3 (keyed (t + 3) (omega arith)) c.choose-in-loop-turn-3.ensures in
    let v5 = choose_step h ws _ _ (t + 4) (t + 5) _ (omega arith) (omega arith) v4 (keyed (t + 4) (omega arith)) c.choose-in-loop-turn-4.ensures in
    rounds_at h ws _ _ _ (omega arith) v5
