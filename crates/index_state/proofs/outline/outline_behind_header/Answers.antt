use Rattle.std.proofs.Common.{◌≡◌, ◌∙◌, Bool, [], ap, refl, sym}
use Rattle.std.proofs.lemmas.Result.{err_from_is_err_and}
use Rattle.entry_list.specs.Held.{Held}
use Rattle.entry_list.specs.Record.{has_directory}
use Rattle.index_model.specs.Answer.{IsBehindHeader, IsEnding, has, lacks}
use Rattle.index_model.specs.Contents.{parts_contents}
use Rattle.index_model.specs.Outcome.{outcome_of}
use Rattle.index_model.specs.declared.extension.Outcome.{Outcome}
use Rattle.index_model.proofs.Answers.{body_late}
use Rattle.file_windows.specs.Passed.{paths_len}
use Rattle.index_state.specs.declared.outline.Outline.{Outline}
use Rattle.index_state.specs.Outlines.{outlined_value}
use Rattle.index_state.proofs.OutlineFaults.{says_weaker}
use Rattle.index_state.proofs.Outlines.{ending_fault, fits_is, marked_value, outline_from, without_records}
use Rattle.index_state.proofs.outline.outline_behind_header.Goals as goal

pub returns-in-Err-clause-fault : goal.returns-in-Err-clause-fault
returns-in-Err-clause-fault c =
    lacks c.in-Err.index c.in-Err.ensures.fault.0 c.in-Err.ensures.fault.1 refl

pub returns-in_err-parts-clause-fault : goal.returns-in_err-parts-clause-fault
returns-in_err-parts-clause-fault c =
    let r = c.args.read_as in
    let passed = c.in-Ok.ensures.passed in
    let rest = c.in-Ok.passed.rest.now in
    let none : c.new.result.records ≡ [] = ap (λ (h : Held). h.records) c.new.ensures in
    let p = err_from_is_err_and c.from_residual.result c.from_residual.ensures.1 in
    rw (p.1, p.2) (says_weaker c.in_err-parts.field-0.0
    (IsEnding r.object_hash r.timestamp r.options r.version [] rest)
    (IsBehindHeader r.object_hash r.timestamp r.options r.version c.args.count c.args.bytes.now)
    (λ f h. has passed.0 rest passed.1 passed.2
    (ending_fault r.object_hash r.timestamp r.options r.version passed.0 rest f h))
    (body_late r.object_hash r.timestamp r.options r.version c.args.count c.args.bytes.now)
    (rw none at c.in_err-parts.ensures.ending))

pub returns-clause-outlined : goal.returns-clause-outlined
returns-clause-outlined c =
    let r = c.args.read_as in
    let passed = c.in-Ok.ensures.passed in
    let parts = c.in_ok-parts.parts in
    let none : c.new.result.records ≡ [] = ap (λ (h : Held). h.records) c.new.ensures in
    let o : Outline = record {
      object_hash = parts.object_hash;
      timestamp = parts.timestamp;
      version = parts.version;
      extensions = c.with_sparse_mark.result;
      extensions_fit = parts.extensions_fit;
      count = c.args.count;
      path_bytes = c.in-Some.path_bytes;
      entries = c.args.bytes;
      checksum = c.in_ok-parts.checksum;
    } in
    let bare : outlined_value o [] ≡ marked_value (has_directory passed.0) (parts_contents parts) =
    ap (λ (e : Outcome). record (without_records (parts_contents parts)) { extensions = outcome_of e })
    c.with_sparse_mark.ensures
    ∙ ap (λ (b : Bool). marked_value b (parts_contents parts)) passed.4 in
    outline_from r.object_hash r.timestamp r.options r.version passed.0 c.in-Ok.passed.rest.now (parts_contents parts) o
    passed.1 passed.2 (fits_is (paths_len passed.0) c.in-Some.path_bytes (sym passed.3 ∙ c.in-Some.is)) bare
    (rw none at c.in_ok-parts.ensures.ending)
