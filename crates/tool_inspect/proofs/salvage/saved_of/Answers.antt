use Rattle.std.proofs.Common.{Option, option_map, refl, subst}
use Rattle.std.proofs.lemmas.Result.{err_from_is_err_and}
use Rattle.gix_index.specs.FileFaults.ReadError.TheVariants.{Memory}
use Rattle.gix_index.specs.Disk.{disk_at}
use Rattle.gix_index.specs.ObjectId.{ObjectId}
use Rattle.gix_index.specs.State.{contents}
use Rattle.tool_inspect.specs.Salvaging.{IsBeside}
use Rattle.tool_inspect.proofs.SharedIndex.{can_be_shared}
use Rattle.tool_inspect.proofs.salvage.saved_of.Goals as goal

pub save-requires-clause-shared : goal.save-requires-clause-shared
save-requires-clause-shared g c =
    let beside = c.in-Ok.ensures in
    can_be_shared (disk_at (g.D.Folder.known c.args.folder.now) c.args.path.now).shared c.args.kind c.in_ok-remains.remains.front c.shared_index.result c.in-Ok.shared
    c.in_ok-remains.ensures.kind beside.read beside.placed beside.storable

pub returns-in-Ok-save : goal.returns-in-Ok-save
returns-in-Ok-save g c =
    let shared = option_map contents c.in-Ok.shared in
    record {
      saved = record {
        remains = c.in_ok-remains.remains;
        remain = c.in_ok-remains.ensures.remains;
        shared = shared;
        is_shared = subst
            (λ (w : Option ObjectId). IsBeside (disk_at (g.D.Folder.known c.args.folder.now) c.args.path.now).shared
            c.args.kind w shared) c.shared_index.ensures
            c.in-Ok.ensures.read;
        is = c.in-Ok-save.ensures.saved;
        acceptable = rw c.in_ok-remains.ensures.kind at c.in-Ok-save.ensures.acceptable;
        plain = c.in-Ok-save.ensures.plain;
      };
      fault = λ works world held. tt;
    }

pub returns-in_err-remains : goal.returns-in_err-remains
returns-in_err-remains g c =
    let p = err_from_is_err_and c.from_residual.result c.from_residual.ensures.1 in
    rw (p.1, p.2) (record {
      saved = tt;
      fault = λ works world held. c.in_err-remains.ensures.fault works world held;
    })

pub returns-in_default : goal.returns-in_default
returns-in_default g c = record {
  saved = tt;
  fault = λ works world held. record { file = c.args.path; names = refl; fault = Memory; is = c.out_of_memory.ensures; says = tt };
}

pub returns-in-Err : goal.returns-in-Err
returns-in-Err g c = record {
  saved = tt;
  fault = λ works world held. record { file = c.args.path; names = refl; fault = Memory; is = c.out_of_memory-in-Err.ensures; says = tt };
}
