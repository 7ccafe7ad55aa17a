-- What a status states about a table that is written or isn't, by what is reported of it.
use Rattle.std.proofs.Common.{◌≡◌, ℕ, List, false, None, Ok, Err, inl, inr, arith, sym, ap, ◌∙◌}
use Rattle.std.specs.Prelude.{Result, IfErr, IfOk}
use Rattle.gix_index.specs.FileFaults.ReadError.{Error as ReadError}
use Rattle.gix_index.specs.Kind.{Kind}
use Rattle.index_c.specs.Written.{Asks, IsAsked, IsWriteErrorReported, IsImageReported, IsImageReportedOver}
use Rattle.index_c.specs.Written.{IsRefusedBefore}
use Rattle.index_c.specs.Written.{IsRefusedOver, TableCodes, ReplaceCodes, UnreadCodes}
use Rattle.index_c.specs.declared.write.Form.{Form}
use Rattle.index_c.specs.declared.write.Written.{Written}
use Rattle.capi_table.specs.Overwriting.{IsUnwrittenOver}
use Rattle.capi_table.specs.Reading.{BytesReadAs, FailsSo, LacksMemory}
use Rattle.capi_table.specs.Writing.{IfLacksRoom, IfTableRejected, IfUnwritten}
use Rattle.capi_table.specs.declared.over.CachedTree.{CachedTree}
use Rattle.capi_table.specs.declared.over.Replacement.{Replacement}
use Rattle.capi_table.specs.declared.row.Row.{Row}
use Rattle.capi_table.specs.declared.write.Fault.{Fault}
use Rattle.capi_table.specs.declared.write.Format.{Format}
use Rattle.capi_table.specs.declared.write.Image.{Image}
use Rattle.capi_table.specs.declared.write.Unwritten.{Unwritten}
use Rattle.capi_table.specs.declared.write.Unwritten.TheVariants.{NoRoom, Refused, Memory}
use Rattle.index_c.proofs.Refusals.{by_error, memory_from, never_done, never_no_room}

-- what a form asks for
pub asked : (f : Form) (P : Format → Type 0) (format : Format) → Asks f format → P format → IsAsked f P
asked f P format a h = rw (sym a.kind_is, sym a.version_is, sym a.skip_is) h

-- ---- a table alone

module _ (tree : CachedTree) (status : ℕ) (told : Written) where
  pub image_reported : (r : Result Image Unwritten) (P : Image → Type 0) → IfOk r P → TableCodes r tree status told
      → status ≡ 0 → IsImageReported told tree P
  image_reported (Ok image) P h t is = record { image = image; told_is = t.1; holds = h }
  image_reported (Err (NoRoom image)) P h t is = absurd (omega (arith, t.0, is))
  image_reported (Err (Refused fault)) P h t is = absurd (omega (arith, t.0, is))
  image_reported (Err Memory) P h t is = absurd (omega (arith, t.0, is))

  pub passed_told : (r : Result Image Unwritten) (P : Image → Type 0) → IfLacksRoom r P → TableCodes r tree status told
      → status ≡ 3 → IsImageReported told tree P
  passed_told (Ok image) P h t is = absurd (omega (arith, t.0, is))
  passed_told (Err (NoRoom image)) P h t is = record { image = image; told_is = t.1; holds = h }
  passed_told (Err (Refused fault)) P h t is = absurd (omega (arith, t.0, is))
  passed_told (Err Memory) P h t is = absurd (omega (arith, t.0, is))

  pub error_reported : (r : Result Image Unwritten) (P : Fault → Type 0) → IfTableRejected r P
      → TableCodes r tree status told
      → status ≡ 1 → IsWriteErrorReported told tree P
  error_reported (Ok image) P h t is = absurd (omega (arith, t.0, is))
  error_reported (Err (NoRoom image)) P h t is = absurd (omega (arith, t.0, is))
  error_reported (Err (Refused fault)) P h t is = record { fault = fault; told_is = t.1; holds = h }
  error_reported (Err Memory) P h t is = absurd (omega (arith, t.0, is))

  pub memory_told : (r : Result Image Unwritten) (P : Type 0) → IfUnwritten r P → TableCodes r tree status told
      → status ≡ 2 → P
  memory_told (Ok image) P h t is = absurd (omega (arith, t.0, is))
  memory_told (Err (NoRoom image)) P h t is = absurd (omega (arith, t.0, is))
  memory_told (Err (Refused fault)) P h t is = absurd (omega (arith, t.0, is))
  memory_told (Err Memory) P h t is = h

  -- what is as it was if nothing is written
  pub kept_told : (r : Result Image Unwritten) (K : Type 0) → IfErr r (λ _. K) → TableCodes r tree status told
      → (status ≡ 0 → ⊥) → K
  kept_told (Ok image) K h t a = absurd (a t.0)
  kept_told (Err e) K h t a = h

-- ---- a table over an index

module _ (status : ℕ) (told : Written) where
  pub image_over : (r : Result Replacement ReadError) (P : CachedTree → Image → Type 0)
      → IfOk r (λ over. IfOk over.written (P over.tree)) → ReplaceCodes r status told → status ≡ 0
      → IsImageReportedOver told P
  image_over (Ok over) P h t is =
      (over.tree, image_reported over.tree status told over.written (P over.tree) h t is)
  image_over (Err e) P h t is = absurd (never_done e (sym t.status_is ∙ is))

  pub passed_over : (r : Result Replacement ReadError) (P : CachedTree → Image → Type 0)
      → IfOk r (λ over. IfLacksRoom over.written (P over.tree)) → ReplaceCodes r status told → status ≡ 3
      → IsImageReportedOver told P
  passed_over (Ok over) P h t is =
      (over.tree, passed_told over.tree status told over.written (P over.tree) h t is)
  passed_over (Err e) P h t is = absurd (never_no_room e (sym t.status_is ∙ is))

  before_refused : (kind : Kind) (bytes : List ℕ) (e : ReadError) → FailsSo None false kind bytes e
      → UnreadCodes e status told → status ≡ 1 → IsRefusedBefore kind bytes told
  before_refused kind bytes e h t is =
      let r = by_error (BytesReadAs false kind bytes) e told.fault told.fault_place h.fault t.numbered
      (sym t.status_is ∙ is) in
      record {
        fault = r.fault;
        read = r.read;
        number = r.has.number_is;
        place = r.has.place_is;
        tree = ap (λ (x : Written). x.tree) t.told_is;
        whose = ap (λ (x : Written). x.of_shared) t.told_is;
      }

  pub refused_over : (format : Format) (bytes paths : List ℕ) (rows : List Row) (r : Result Replacement ReadError)
      → IfOk r (λ over. IfTableRejected over.written (IsUnwrittenOver format bytes paths rows over.tree))
      → IfErr r (FailsSo None false format.kind bytes) → ReplaceCodes r status told → status ≡ 1
      → IsRefusedOver format bytes paths rows told
  refused_over format bytes paths rows (Ok over) h e t is =
      inr (
        over.tree,
        error_reported over.tree status told over.written (IsUnwrittenOver format bytes paths rows over.tree) h t is,
      )
  refused_over format bytes paths rows (Err error) h e t is =
      inl (before_refused format.kind bytes error e t is)

  pub memory_over : (kind : Kind) (bytes : List ℕ) (r : Result Replacement ReadError)
      → IfOk r (λ over. IfUnwritten over.written (LacksMemory None false kind bytes))
      → IfErr r (FailsSo None false kind bytes) → ReplaceCodes r status told → status ≡ 2
      → LacksMemory None false kind bytes
  memory_over kind bytes (Ok over) h e t is = memory_told over.tree status told over.written _ h t is
  memory_over kind bytes (Err error) h e t is = e.memory (memory_from error (sym t.status_is ∙ is))

  pub kept_over : (r : Result Replacement ReadError) (K : Type 0)
      → IfOk r (λ over. IfErr over.written (λ _. K))
      → IfErr r (λ _. K) → ReplaceCodes r status told → (status ≡ 0 → ⊥) → K
  kept_over (Ok over) K h e t a = kept_told over.tree status told over.written K h t a
  kept_over (Err error) K h e t a = e
