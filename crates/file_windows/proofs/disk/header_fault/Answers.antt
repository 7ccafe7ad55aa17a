use Rattle.std.proofs.Common.{rules, ◌≤◌, ◌+◌, length, ◌∙◌}
use Rattle.index_parts.specs.Id.{id_len}
use Rattle.file_windows.proofs.Wholes.{header_grows}
use Rattle.file_windows.proofs.disk.header_fault.Goals as goal

pub returns-in-Err-clause-fault : goal.returns-in-Err-clause-fault
returns-in-Err-clause-fault c = λ more.
    let long : 12 + id_len c.args.kind ≤ length c.args.head.now = search rules in
    header_grows c.args.kind c.args.head.now more long ∙ c.in-Err.ensures
