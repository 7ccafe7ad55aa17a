use Rattle.std.proofs.Common.{sym}
use Rattle.std.proofs.lemmas.Result.{err_from_is_err_and}
use Rattle.index_model.specs.Outcome.{outcome_of}
use Rattle.index_model.proofs.Additions.{adds_tree, adds_link, adds_resolve_undo, adds_untracked, adds_fs_monitor}
use Rattle.index_model.proofs.Additions.{adds_sparse, adds_had_end_marker, adds_had_offset_table, adds_nothing}
use Rattle.index_model.proofs.LinkErrors.{says_item}
use Rattle.index_decode.proofs.extension.add.Goals.{then-eq+in_ok-decode+in-Some+in-Some-outcome-2}
use Rattle.index_decode.proofs.extension.add.Goals.{then-eq+in_ok-decode+in-Some+in-None-1}
use Rattle.index_decode.proofs.extension.add.Goals.{then-eq+in_ok-decode+in-None-1}
use Rattle.index_decode.proofs.extension.add.Goals.{else-eq+then-eq-2+in_ok-outcome+in-Some-1}
use Rattle.index_decode.proofs.extension.add.Goals.{else-eq+then-eq-2+in_ok-outcome+in-None-1}
use Rattle.index_decode.proofs.extension.add.Goals.{else-eq+else-eq-2+then-eq-3+in_ok-outcome-2+in-Some-1}
use Rattle.index_decode.proofs.extension.add.Goals.{else-eq+else-eq-2+then-eq-3+in_ok-outcome-2+in-None-1}
use Rattle.index_decode.proofs.extension.add.Goals.{else-eq+else-eq-2+else-eq-3+then-eq-4+in_ok-outcome-3+in-Some-1}
use Rattle.index_decode.proofs.extension.add.Goals.{else-eq+else-eq-2+else-eq-3+then-eq-4+in_ok-outcome-3+in-None-1}
use Rattle.index_decode.proofs.extension.add.Goals.{else-eq+else-eq-2+else-eq-3+else-eq-4+then-eq-5+in_ok-outcome-4+in-Some-1}
use Rattle.index_decode.proofs.extension.add.Goals.{else-eq+else-eq-2+else-eq-3+else-eq-4+then-eq-5+in_ok-outcome-4+in-None-1}
use Rattle.index_decode.proofs.extension.add.Goals.{else-eq+else-eq-2+else-eq-3+else-eq-4+else-eq-5+then-eq-6}
use Rattle.index_decode.proofs.extension.add.Goals.{else-eq+else-eq-2+else-eq-3+else-eq-4+else-eq-5+else-eq-6+then-eq-7}
use Rattle.index_decode.proofs.extension.add.Goals.{else-eq+else-eq-2+else-eq-3+else-eq-4+else-eq-5+else-eq-6+else-eq-7+then-eq-8}
use Rattle.index_decode.proofs.extension.add.Goals.{else-eq+else-eq-2+else-eq-3+else-eq-4+else-eq-5+else-eq-6+else-eq-7+else-eq-8}
use Rattle.index_decode.proofs.extension.add.Goals as goal

pub returns-in_err-decode-clause-err : goal.returns-in_err-decode-clause-err
returns-in_err-decode-clause-err c =
    let p = err_from_is_err_and c.from_residual.result c.from_residual.ensures.1 in
    rw (p.1, p.2) (λ size. says_item c.args.object_hash (record {
      signature = c.args.signature;
      size = size;
      content = c.args.content.now;
    }) c.in_err-decode.field-0.0 (sym c.if-eq.ensures) c.in_err-decode.ensures.fault)

pub returns-clause-ok : goal.returns-clause-ok
returns-clause-ok c =
    elim c.if-eq.branch [
      | then-eq+in_ok-decode+in-Some+in-Some-outcome-2 w ↦
          rw w.outcome-is (adds_link c.args.object_hash c.args.alloc_limit_bytes c.args.signature c.args.content.now
          (outcome_of c.args.outcome.now) _ (sym w.if-eq.ensures) w.in_ok-decode.ensures.found)
      | then-eq+in_ok-decode+in-Some+in-None-1 w ↦
          rw w.outcome-is (adds_link c.args.object_hash c.args.alloc_limit_bytes c.args.signature c.args.content.now
          (outcome_of c.args.outcome.now) _ (sym w.if-eq.ensures) w.in_ok-decode.ensures.found)
      | then-eq+in_ok-decode+in-None-1 w ↦
          rw w.outcome-is (adds_link c.args.object_hash c.args.alloc_limit_bytes c.args.signature c.args.content.now
          (outcome_of c.args.outcome.now) _ (sym w.if-eq.ensures) w.in_ok-decode.ensures.found)
      | else-eq+then-eq-2+in_ok-outcome+in-Some-1 w ↦
          rw w.outcome-is (adds_tree c.args.object_hash c.args.alloc_limit_bytes c.args.signature c.args.content.now
          (outcome_of c.args.outcome.now) _ (sym w.if-eq-2.ensures) w.in_ok-outcome.ensures.read)
      | else-eq+then-eq-2+in_ok-outcome+in-None-1 w ↦
          rw w.outcome-is (adds_tree c.args.object_hash c.args.alloc_limit_bytes c.args.signature c.args.content.now
          (outcome_of c.args.outcome.now) _ (sym w.if-eq-2.ensures) w.in_ok-outcome.ensures.read)
      | else-eq+else-eq-2+then-eq-3+in_ok-outcome-2+in-Some-1 w ↦
          rw w.outcome-is (adds_resolve_undo c.args.object_hash c.args.alloc_limit_bytes c.args.signature
          c.args.content.now (outcome_of c.args.outcome.now) _ (sym w.if-eq-3.ensures) w.in_ok-outcome-2.ensures.read)
      | else-eq+else-eq-2+then-eq-3+in_ok-outcome-2+in-None-1 w ↦
          rw w.outcome-is (adds_resolve_undo c.args.object_hash c.args.alloc_limit_bytes c.args.signature
          c.args.content.now (outcome_of c.args.outcome.now) _ (sym w.if-eq-3.ensures) w.in_ok-outcome-2.ensures.read)
      | else-eq+else-eq-2+else-eq-3+then-eq-4+in_ok-outcome-3+in-Some-1 w ↦
          rw w.outcome-is (adds_untracked c.args.object_hash c.args.alloc_limit_bytes c.args.signature
          c.args.content.now (outcome_of c.args.outcome.now) _ (sym w.if-eq-4.ensures) w.in_ok-outcome-3.ensures.read)
      | else-eq+else-eq-2+else-eq-3+then-eq-4+in_ok-outcome-3+in-None-1 w ↦
          rw w.outcome-is (adds_untracked c.args.object_hash c.args.alloc_limit_bytes c.args.signature
          c.args.content.now (outcome_of c.args.outcome.now) _ (sym w.if-eq-4.ensures) w.in_ok-outcome-3.ensures.read)
      | else-eq+else-eq-2+else-eq-3+else-eq-4+then-eq-5+in_ok-outcome-4+in-Some-1 w ↦
          rw w.outcome-is (adds_fs_monitor c.args.object_hash c.args.alloc_limit_bytes c.args.signature
          c.args.content.now (outcome_of c.args.outcome.now) _ (sym w.if-eq-5.ensures) w.in_ok-outcome-4.ensures.read)
      | else-eq+else-eq-2+else-eq-3+else-eq-4+then-eq-5+in_ok-outcome-4+in-None-1 w ↦
          rw w.outcome-is (adds_fs_monitor c.args.object_hash c.args.alloc_limit_bytes c.args.signature
          c.args.content.now (outcome_of c.args.outcome.now) _ (sym w.if-eq-5.ensures) w.in_ok-outcome-4.ensures.read)
      | else-eq+else-eq-2+else-eq-3+else-eq-4+else-eq-5+then-eq-6 w ↦
          rw w.outcome-is (adds_sparse c.args.object_hash c.args.alloc_limit_bytes c.args.signature c.args.content.now
          (outcome_of c.args.outcome.now) (sym w.if-eq-6.ensures))
      | else-eq+else-eq-2+else-eq-3+else-eq-4+else-eq-5+else-eq-6+then-eq-7 w ↦
          rw w.outcome-is (adds_had_end_marker c.args.object_hash c.args.alloc_limit_bytes c.args.signature
          c.args.content.now (outcome_of c.args.outcome.now) (sym w.if-eq-7.ensures))
      | else-eq+else-eq-2+else-eq-3+else-eq-4+else-eq-5+else-eq-6+else-eq-7+then-eq-8 w ↦
          rw w.outcome-is (adds_had_offset_table c.args.object_hash c.args.alloc_limit_bytes c.args.signature
          c.args.content.now (outcome_of c.args.outcome.now) (sym w.if-eq-8.ensures))
      | else-eq+else-eq-2+else-eq-3+else-eq-4+else-eq-5+else-eq-6+else-eq-7+else-eq-8 w ↦
          rw w.outcome-is (adds_nothing c.args.object_hash c.args.alloc_limit_bytes c.args.signature c.args.content.now
          (outcome_of c.args.outcome.now) (sym w.if-eq.ensures) (sym w.if-eq-2.ensures) (sym w.if-eq-3.ensures)
          (sym w.if-eq-4.ensures) (sym w.if-eq-5.ensures) (sym w.if-eq-6.ensures) (sym w.if-eq-7.ensures)
          (sym w.if-eq-8.ensures))
    ]
