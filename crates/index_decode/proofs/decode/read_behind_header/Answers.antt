use Rattle.std.proofs.Common.{Err}
use Rattle.std.proofs.lemmas.Result.{err_from_is_err_and}
use Rattle.index_model.specs.Answer.{has}
use Rattle.index_model.proofs.Answers.{behind_from, says_lack}
use Rattle.index_decode.proofs.decode.read_behind_header.Goals as goal

pub returns-in_err-read-clause-behind : goal.returns-in_err-read-clause-behind
returns-in_err-read-clause-behind c =
    let p = err_from_is_err_and c.from_residual.result c.from_residual.ensures.1 in
    rw (p.1, p.2) (says_lack c.args.read_as.object_hash c.args.read_as.timestamp c.args.read_as.options
    c.args.read_as.version c.args.count c.args.bytes.now c.in_err-read.field-0.0 c.in_err-read.ensures.fault)

pub returns-in_err-parts-clause-behind : goal.returns-in_err-parts-clause-behind
returns-in_err-parts-clause-behind c =
    let p = err_from_is_err_and c.from_residual-in_err-parts.result c.from_residual-in_err-parts.ensures.1 in
    rw (p.1, p.2) (behind_from c.args.read_as.object_hash c.args.read_as.timestamp c.args.read_as.options
    c.args.read_as.version c.args.count c.args.bytes.now c.in_ok-read.read.list.records c.in_ok-read.read.rest.now
    (Err c.in_err-parts.field-0.0) c.in_ok-read.ensures.read c.in_ok-read.ensures.count c.in_err-parts.ensures.ending)

pub returns-clause-behind : goal.returns-clause-behind
returns-clause-behind c =
    has c.in_ok-read.read.list.records c.in_ok-read.read.rest.now c.in_ok-read.ensures.read c.in_ok-read.ensures.count
    c.in_ok-parts.ensures.ending

pub returns-clause-ending : goal.returns-clause-ending
returns-clause-ending c = record {
  records = c.in_ok-read.read.list.records;
  entries = c.in_ok-read.ensures.read;
  counted = c.in_ok-read.ensures.count;
}
