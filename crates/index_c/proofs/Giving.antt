-- What a status states about trees that are given or aren't, by what is reported of them.
use Rattle.std.proofs.Common.{◌≡◌, ℕ, Ok, Err, arith}
use Rattle.std.specs.Prelude.{Result, IfErr, IfOk}
use Rattle.index_c.specs.Giving.{AreCountsReported, IsErrorReported, TreesCodes, empty_report}
use Rattle.index_c.specs.declared.trees.Given.{Given}
use Rattle.capi_table.specs.declared.write.Fault.{Fault}
use Rattle.capi_table.specs.Trees.{IfNoTreeRoom, IfTreesRejected, IfUnmade}
use Rattle.capi_table.specs.declared.trees.Counts.{Counts}
use Rattle.capi_table.specs.declared.trees.Unmade.{Unmade}
use Rattle.capi_table.specs.declared.trees.Unmade.TheVariants.{NoRoom, Refused, Memory}

module _ (status : ℕ) (told : Given) where
  pub done_told : (r : Result Counts Unmade) (P : Counts → Type 0) → IfOk r P → TreesCodes r status told
      → status ≡ 0 → AreCountsReported told P
  done_told (Ok counts) P h t is = record { counts = counts; told_is = t.1; holds = h }
  done_told (Err (NoRoom counts)) P h t is = absurd (omega (arith, t.0, is))
  done_told (Err (Refused fault)) P h t is = absurd (omega (arith, t.0, is))
  done_told (Err Memory) P h t is = absurd (omega (arith, t.0, is))

  pub passed_told : (r : Result Counts Unmade) (P : Counts → Type 0) → IfNoTreeRoom r P → TreesCodes r status told
      → status ≡ 3 → AreCountsReported told P
  passed_told (Ok counts) P h t is = absurd (omega (arith, t.0, is))
  passed_told (Err (NoRoom counts)) P h t is = record { counts = counts; told_is = t.1; holds = h }
  passed_told (Err (Refused fault)) P h t is = absurd (omega (arith, t.0, is))
  passed_told (Err Memory) P h t is = absurd (omega (arith, t.0, is))

  pub error_reported : (r : Result Counts Unmade) (P : Fault → Type 0) → IfTreesRejected r P → TreesCodes r status told
      → status ≡ 1 → IsErrorReported told P
  error_reported (Ok counts) P h t is = absurd (omega (arith, t.0, is))
  error_reported (Err (NoRoom counts)) P h t is = absurd (omega (arith, t.0, is))
  error_reported (Err (Refused fault)) P h t is = record { fault = fault; told_is = t.1; holds = h }
  error_reported (Err Memory) P h t is = absurd (omega (arith, t.0, is))

  pub memory_told : (r : Result Counts Unmade) (P : Type 0) → IfUnmade r P → TreesCodes r status told
      → status ≡ 2 → P × (told ≡ empty_report)
  memory_told (Ok counts) P h t is = absurd (omega (arith, t.0, is))
  memory_told (Err (NoRoom counts)) P h t is = absurd (omega (arith, t.0, is))
  memory_told (Err (Refused fault)) P h t is = absurd (omega (arith, t.0, is))
  memory_told (Err Memory) P h t is = (h, t.1)

  -- what is as it was if none are given
  pub kept_told : (r : Result Counts Unmade) (K : Type 0) → IfErr r (λ _. K) → TreesCodes r status told
      → (status ≡ 0 → ⊥) → K
  kept_told (Ok counts) K h t a = absurd (a t.0)
  kept_told (Err e) K h t a = h
