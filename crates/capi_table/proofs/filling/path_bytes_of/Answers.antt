use Rattle.std.proofs.Common.{◌≡◌, ◌≤◌, ◌∙◌, List, length, ap}
use Rattle.std.proofs.lemmas.List.{take_all}
use Rattle.gix_index.specs.Outlined.Passed.{in_64_bits, paths_len}
use Rattle.gix_index.specs.EntryType.{Entry}
use Rattle.gix_index.specs.Record.{records_in}
use Rattle.capi_table.proofs.CopiedTables.{some_from, too_many}
use Rattle.capi_table.proofs.filling.path_bytes_of.Goals as goal

pub returns-in_err-sum : goal.returns-in_err-sum
returns-in_err-sum c =
    c.from_residual.ensures
    ∙ too_many c.args.storage.now c.args.entries.now c.loop-place.place c.loop-place.sum _ c.path_in-path.result.now
    c.loop-place-test.true c.path_in-path.ensures c.loop-place.invariant.sum_is c.in_err-sum.ensures

pub returns : goal.returns
returns c =
    let all : length c.args.entries.now ≤ c.loop-place.place = c.loop-place-test.false in
    let sum : c.loop-place.sum ≡ paths_len (records_in c.args.storage.now c.args.entries.now) =
    c.loop-place.invariant.sum_is
    ∙ ap (λ (es : List Entry). paths_len (records_in c.args.storage.now es)) (take_all c.loop-place.place c.args.entries.now all) in
    some_from c.loop-place.sum c.loop-place.invariant.small ∙ ap in_64_bits sum
