use Rattle.std.proofs.Common.{rules}
use Rattle.gix_index.specs.State.{contents}
use Rattle.index_c.specs.Checking.{IsCheckResult}
use Rattle.capi_table.proofs.Joins.{read_so}
use Rattle.index_c.proofs.check.checked_both.Goals as goal

pub returns-in-Ok : goal.returns-in-Ok
returns-in-Ok c =
    record {
      found = read_so c.args.skip_hash c.args.kind c.args.bytes.now c.args.shared.now (IsCheckResult c.found_of.result)
          (contents c.in-Ok.state) c.in-Ok.ensures.read c.found_of.ensures;
      failed = search rules;
    }
