use Rattle.std.proofs.Common.{rules, Err}
use Rattle.std.proofs.lemmas.Result.{err_from_is_err_and}
use Rattle.index_model.specs.Outcome.{outcome_of}
use Rattle.index_model.proofs.Answers.{taken_from}
use Rattle.index_model.proofs.Ids.{entries_have}
use Rattle.index_decode.proofs.decode.read_parts.Goals as goal

pub returns-in_err-verify-clause-taken : goal.returns-in_err-verify-clause-taken
returns-in_err-verify-clause-taken c =
    let p = err_from_is_err_and c.from_residual.result c.from_residual.ensures.1 in
    rw (p.1, p.2) (taken_from c.args.read_as.object_hash c.args.read_as.timestamp c.args.read_as.options
    c.args.read_as.version c.args.read.list.records (outcome_of c.args.outcome) c.args.left c.args.trailer.now
    (Err c.in_err-verify.field-0.0) c.if-left-ne0.false
    (rw c.checksum-checksum.ensures at c.in_err-verify.ensures.err _))

pub returns-clause-parts : goal.returns-clause-parts
returns-clause-parts c = record {
  placed = search rules;
  ids = entries_have c.args.read_as.object_hash c.into_parts-entries.result.1.items
      c.into_parts-entries.result.0.items (rw (← c.into_parts-entries.ensures.records) at c.requires.ids);
  extension_ids = search rules;
}
