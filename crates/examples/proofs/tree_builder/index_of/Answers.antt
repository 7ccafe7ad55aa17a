-- At the first descent among the sorted entries, two of them have one path.
use Rattle.std.proofs.lemmas.Result.{err_from_is_err_and}
use Rattle.gix_index.specs.State.{records}
use Rattle.examples.proofs.Neighbours.{says_twice}
use Rattle.examples.proofs.tree_builder.index_of.Goals as goal

pub returns-in_err-verify_entries-clause-twice : goal.returns-in_err-verify_entries-clause-twice
returns-in_err-verify_entries-clause-twice c =
    let of_files = rw c.in_ok-state.ensures at c.sort_entries.ensures.permutation in
    let p = err_from_is_err_and c.from_residual-in_err-verify_entries.result
    c.from_residual-in_err-verify_entries.ensures.1 in
    rw (p.1, p.2)
    (says_twice c.args.files.now (records c.sort_entries.new.self) c.in_err-verify_entries.field-0.0 of_files
    c.in_ok-sort_entries.ensures.ordered c.in_err-verify_entries.ensures.fault)
