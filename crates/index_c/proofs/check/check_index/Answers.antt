use Rattle.std.proofs.Common.{refl, rules}
use Rattle.gix_index.specs.State.{contents}
use Rattle.index_c.proofs.check.check_index.Goals as goal

pub returns-in-Ok : goal.returns-in-Ok
returns-in-Ok c =
    record {
      found = record {
        value = contents c.in-Ok.state;
        checksum = c.in-Ok.ensures.read.0;
        read = c.in-Ok.ensures.read.1;
        holds = c.found_of.ensures;
      };
      failed = search rules;
    }

pub returns-in-Err : goal.returns-in-Err
returns-in-Err c =
    record {
      found = search rules;
      failed = record { whose = refl; says = c.in-Err.ensures.failed };
    }
