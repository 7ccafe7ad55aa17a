use Rattle.std.proofs.Common.{refl}
use Rattle.std.proofs.lemmas.Result.{err_from_is_err_and}
use Rattle.gix_index.specs.FileFaults.ReadError.TheVariants.{Memory}
use Rattle.tool_inspect.proofs.mapping.division_at.Goals as goal

pub returns-in_err-file : goal.returns-in_err-file
returns-in_err-file g c =
    let p = err_from_is_err_and c.from_residual.result c.from_residual.ensures.1 in
    rw (p.1, p.2) (record { divided = tt; fault = c.in_err-file.ensures.fault })

pub returns-in-Err : goal.returns-in-Err
returns-in-Err g c = record {
  divided = tt;
  fault = record {
    file = c.args.path;
    names = refl;
    fault = Memory;
    is = c.out_of_memory.ensures;
    says = tt;
  };
}
