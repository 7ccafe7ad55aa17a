use Rattle.std.proofs.Common.{ℕ, ◌+◌, ◌*◌, arith, refl}
use Rattle.base_sha.proofs.Steps256.{step, rounds_at, rounds_none}
use Rattle.base_sha.proofs.sha256.rounds.all_rounds.Goals as goal

pub loop-turn-init : goal.loop-turn-init
loop-turn-init c = λ h ws keyed start. rounds_none h ws _ start

pub loop-turn-preserved : goal.loop-turn-preserved
loop-turn-preserved c = λ h ws keyed start.
    let t : ℕ = 8 * c.loop-turn.turn in
    let v0 = c.loop-turn.invariant h ws keyed start in
    let v1 = step h ws _ _ t (t + 1) _ refl v0 (keyed t (omega arith)) c.round.ensures in
    let v2 = step h ws _ _ (t + 1) (t + 2) _ (omega arith) v1 (keyed (t + 1) (omega arith)) c.round-in-loop-turn.ensures in
    let v3 = step h ws _ _ (t + 2) (t + 3) _ (omega arith) v2 (keyed (t + 2) (omega arith)) c.round-in-loop-turn-2.ensures in
    let v4 = step h ws _ _ (t + 3) (t + 4) _ (omega arith) v3 (keyed (t + 3) (omega arith)) c.round-in-loop-turn-3.ensures in
    let v5 = step h ws _ _ (t + 4) (t + 5) _ (omega arith) v4 (keyed (t + 4) (omega arith)) c.round-in-loop-turn-4.ensures in
    let v6 = step h ws _ _ (t + 5) (t + 6) _ (omega arith) v5 (keyed (t + 5) (omega arith)) c.round-in-loop-turn-5.ensures in
    let v7 = step h ws _ _ (t + 6) (t + 7) _ (omega arith) v6 (keyed (t + 6) (omega arith)) c.round-in-loop-turn-6.ensures in
    let v8 = step h ws _ _ (t + 7) (t + 8) _ (omega arith) v7 (keyed (t + 7) (omega arith)) c.round-in-loop-turn-7.ensures in
    rounds_at h ws _ _ _ (omega arith) v8

pub returns : goal.returns
returns c = λ h ws keyed start. rounds_at h ws _ _ _ (omega arith) (c.loop-turn.invariant h ws keyed start)
