-- What a status states about an index that is changed or isn't, by what is reported of it.
use Rattle.std.proofs.Common.{◌≡◌, ℕ, List, false, None, Ok, Err, inl, inr, arith, sym, ap, ◌∙◌}
use Rattle.std.specs.Prelude.{Result, IfErr, IfOk}
use Rattle.gix_index.specs.Kind.{Kind}
use Rattle.index_c.specs.Joined.{LackMemory}
use Rattle.index_c.specs.Updated.{IsRefusedUpdate, UpdateCodes, as_read}
use Rattle.index_c.specs.Written.{IsImageReported, TableCodes, write_error_report}
use Rattle.index_c.specs.declared.write.Written.{Written}
use Rattle.capi_table.specs.Joining.{FailBoth}
use Rattle.capi_table.specs.Reading.{LacksMemory}
use Rattle.capi_table.specs.Refusing.{IsUnupdated}
use Rattle.capi_table.specs.Writing.{IfLacksRoom, IfTableRejected, IfUnwritten}
use Rattle.capi_table.specs.declared.fault.Failure.{Failure}
use Rattle.capi_table.specs.declared.over.CachedTree.TheVariants.{Absent}
use Rattle.capi_table.specs.declared.row.Row.{Row}
use Rattle.capi_table.specs.declared.write.Image.{Image}
use Rattle.capi_table.specs.declared.write.Unwritten.{Unwritten}
use Rattle.capi_table.specs.declared.write.Unwritten.TheVariants.{NoRoom, Refused, Memory}
use Rattle.index_c.proofs.Refusals.{lack_both, never_done, never_no_room, refused_both}
use Rattle.index_c.proofs.Writings as writings

-- what comes of changing an index
abbrev Updated : Type 0
Updated = Result (Result Image Unwritten) Failure

module _ (status : ℕ) (told : Written) where
  pub image_reported : (r : Updated) (P : Image → Type 0) → IfOk r (λ written. IfOk written P)
      → UpdateCodes r status told → status ≡ 0 → IsImageReported told Absent P
  image_reported (Ok written) P h t is = writings.image_reported Absent status told written P h t is
  image_reported (Err failure) P h t is = absurd (never_done failure.error (sym t.status_is ∙ is))

  pub passed_told : (r : Updated) (P : Image → Type 0) → IfOk r (λ written. IfLacksRoom written P)
      → UpdateCodes r status told → status ≡ 3 → IsImageReported told Absent P
  passed_told (Ok written) P h t is = writings.passed_told Absent status told written P h t is
  passed_told (Err failure) P h t is = absurd (never_no_room failure.error (sym t.status_is ∙ is))

  -- what is as it was if nothing is written
  pub kept_told : (r : Updated) (K : Type 0) → IfOk r (λ written. IfErr written (λ _. K)) → IfErr r (λ _. K)
      → UpdateCodes r status told → (status ≡ 0 → ⊥) → K
  kept_told (Ok written) K h e t a = writings.kept_told Absent status told written K h t a
  kept_told (Err failure) K h e t a = e

  -- memory runs out while the index is written, and nothing else is reported
  wants_memory : (r : Result Image Unwritten) → TableCodes r Absent status told → status ≡ 2
      → told ≡ write_error_report 0 0 Absent
  wants_memory (Ok image) t is = absurd (omega (arith, t.0, is))
  wants_memory (Err (NoRoom image)) t is = absurd (omega (arith, t.0, is))
  wants_memory (Err (Refused fault)) t is = absurd (omega (arith, t.0, is))
  wants_memory (Err Memory) t is = t.1

  module _ (kind : Kind) (bytes shared paths : List ℕ) (rows : List Row) where
    pub refused_told : (r : Updated)
        → IfOk r (λ written. IfTableRejected written (IsUnupdated kind bytes shared paths rows))
        → IfErr r (FailBoth false kind bytes shared) → UpdateCodes r status told → status ≡ 1
        → IsRefusedUpdate kind bytes shared paths rows told
    refused_told (Ok written) h e t is =
        inr (writings.error_reported Absent status told written (IsUnupdated kind bytes shared paths rows) h t is)
    refused_told (Err failure) h e t is =
        inl (refused_both false kind bytes failure status (as_read told) t shared e is)

    pub memory_told : (r : Updated)
        → IfOk r (λ written. IfUnwritten written (LacksMemory None false kind bytes))
        → IfErr r (FailBoth false kind bytes shared) → UpdateCodes r status told → status ≡ 2
        → LackMemory false kind bytes shared (as_read told)
    memory_told (Ok written) h e t is = record {
      own = writings.memory_told Absent status told written _ h t is;
      whose = inl (ap as_read (wants_memory written t is));
    }
    memory_told (Err failure) h e t is = lack_both false kind bytes failure status (as_read told) t shared e is
