use Rattle.std.proofs.Common.{ℕ, ◌+◌, ◌*◌, arith, refl, inl, inr, ◌⊎◌, ◌≤◌, ◌<◌}
use Rattle.base_sha.proofs.Steps.{parity_step, rounds_at}
use Rattle.base_sha.proofs.rounds.parity_rounds.Goals as goal

pub loop-turn-preserved : goal.loop-turn-preserved
loop-turn-preserved c = λ h ws keyed start.
    let t : ℕ = c.args.from + 5 * c.loop-turn.turn in
    let at : (n : ℕ) → t ≤ n → n < t + 5 → ((20 ≤ n) × (n < 40)) ⊎ (60 ≤ n) = λ n ge lt. elim c.requires.from [
      | inl early ↦ inl (omega arith, omega arith)
      | inr late ↦ inr (omega arith)
    ] in
    let high : t + 5 ≤ 80 = elim c.requires.from [
      | inl early ↦ omega arith
      | inr late ↦ omega arith
    ] in
    let v0 = c.loop-turn.invariant h ws keyed start in
    let v1 = parity_step h ws _ _ t (t + 1) _ (at t (omega arith) (omega arith)) refl v0 (keyed t (omega arith)) c.parity.ensures in
    let v2 = parity_step h ws _ _ (t + 1) (t + 2) _ (at (t + 1) (omega arith) (omega arith)) (omega arith) v1 (keyed (t + 1) (omega arith)) c.parity-in-loop-turn.ensures in
    let v3 = parity_step h ws _ _ (t + 2) (t + 3) _ (at (t + 2) (omega arith) (omega arith)) (omega arith) v2 (keyed (t + 2) (omega arith)) c.parity-in-loop-turn-2.ensures in
    let v4 = parity_step h ws _ _ (t + 3) (t + 4) _ (at (t + 3) (omega arith) (omega arith)) (omega arith) v3 (keyed (t + 3) (omega arith)) c.parity-in-loop-turn-3.ensures in
    let v5 = parity_step h ws _ _ (t + 4) (t + 5) _ (at (t + 4) (omega arith) (omega arith)) (omega arith) v4 (keyed (t + 4) (omega arith)) c.parity-in-loop-turn-4.ensures in
    rounds_at h ws _ _ _ (omega arith) v5
