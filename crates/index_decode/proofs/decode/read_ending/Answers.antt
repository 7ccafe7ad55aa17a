use Rattle.std.proofs.Common.{rules, ◌≡◌, ◌++◌, length, arith}
use Rattle.std.proofs.lemmas.Result.{err_from_is_err_and}
use Rattle.index_parts.specs.Id.{id_len}
use Rattle.index_model.specs.Outcome.{outcome_of}
use Rattle.index_model.proofs.Answers.{ending_from, says_extension}
use Rattle.index_decode.proofs.decode.read_ending.Goals as goal

pub read_parts-requires-clause-room : goal.read_parts-requires-clause-room
read_parts-requires-clause-room c =
    omega (arith, c.in_ok-outcome.ensures.small, c.split_at.ensures.front_len, c.len_in_bytes-expected.ensures)

pub returns-in_err-outcome-clause-ending : goal.returns-in_err-outcome-clause-ending
returns-in_err-outcome-clause-ending c =
    let middle = c.split_at.result.0.now in
    let trailer = c.split_at.result.1.now in
    let parts : c.args.read.rest.now ≡ middle ++ trailer = search rules in
    let len : length trailer ≡ id_len c.args.read_as.object_hash = search rules in
    let p = err_from_is_err_and c.from_residual.result c.from_residual.ensures.1 in
    rw (p.1, p.2) (says_extension c.args.read_as.object_hash c.args.read_as.timestamp c.args.read_as.options
    c.args.read_as.version c.args.read.list.records c.args.read.rest.now middle trailer c.in_err-outcome.field-0.0
    parts len c.in_err-outcome.ensures.err)

pub returns-clause-ending : goal.returns-clause-ending
returns-clause-ending c =
    let middle = c.split_at.result.0.now in
    let trailer = c.split_at.result.1.now in
    let parts : c.args.read.rest.now ≡ middle ++ trailer = search rules in
    let len : length trailer ≡ id_len c.args.read_as.object_hash = search rules in
    ending_from c.args.read_as.object_hash c.args.read_as.timestamp c.args.read_as.options c.args.read_as.version
    c.args.read.list.records c.args.read.rest.now middle trailer (outcome_of c.in_ok-outcome.outcome)
    c.in_ok-outcome.left c.read_parts.result parts len c.in_ok-outcome.ensures.ok c.read_parts.ensures.taken
