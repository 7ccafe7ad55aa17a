use Rattle.std.proofs.lemmas.Result.{err_from_is_err_and}
use Rattle.gix_index.proofs.Checks.{error_says}
use Rattle.gix_index.proofs.file.init.decoded_knowing.Goals as goal

pub returns-in_err-read-clause-fault : goal.returns-in_err-read-clause-fault
returns-in_err-read-clause-fault c =
    let p = err_from_is_err_and c.from_residual-in_err-read.result c.from_residual-in_err-read.ensures.1 in
    rw (p.1, p.2)
    (error_says c.args.reading.skip_hash c.args.reading.object_hash c.args.reading.timestamp c.args.reading.options
    c.args.bytes.now c.in_err-read.field-0.0 c.in_ok-check.ensures.ok c.in_err-read.ensures.answer)
