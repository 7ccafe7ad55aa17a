use Rattle.std.proofs.Common.{inl, inr, refl}
use Rattle.std.proofs.KnownBytes.{Keeps-refl}
use Rattle.std.proofs.lemmas.Result.{err_from_is_err_and}
use Rattle.gix_index.specs.State.{contents}
use Rattle.gix_index.specs.File.{checksum_of, state_of}
use Rattle.tool_errors.specs.Outputs.{part, untold}
use Rattle.view_list.specs.Line.{listing}
use Rattle.tool_edit.proofs.list.list.Goals as goal

pub returns-in_err-index : goal.returns-in_err-index
returns-in_err-index g c =
    let p = err_from_is_err_and c.from_residual.result c.from_residual.ensures.1 in
    rw (p.1, p.2) (record {
      told = tt;
      refused = untold (inl c.in_err-index.ensures.fault) (Keeps-refl (g.W.Out.taken c.args.out.now));
    })

pub returns-in_err-check_paths : goal.returns-in_err-check_paths
returns-in_err-check_paths g c =
    let same = rw (c.path_backing.ensures, c.entries.ensures, c.deref-2.ensures, c.deref.ensures) at c.new-entries.ensures in
    let p = err_from_is_err_and c.from_residual-in_err-check_paths.result
    c.from_residual-in_err-check_paths.ensures.1 in
    rw (p.1, p.2) (record {
      told = tt;
      refused = untold (inr (record {
        value = contents (state_of c.in_ok-index.index);
        checksum = checksum_of c.in_ok-index.index;
        read = c.in_ok-index.ensures.read;
        is = rw same at c.in_err-check_paths.ensures.fault;
      })) (Keeps-refl (g.W.Out.taken c.args.out.now));
    })

pub returns-in-Ok : goal.returns-in-Ok
returns-in-Ok g c =
    let same = rw (c.path_backing.ensures, c.entries.ensures, c.deref-2.ensures, c.deref.ensures) at c.new-entries.ensures in
    record {
      told = record {
        text = listing c.args.style (contents (state_of c.in_ok-index.index)).records;
        is = record {
          value = contents (state_of c.in_ok-index.index);
          checksum = checksum_of c.in_ok-index.index;
          read = c.in_ok-index.ensures.read;
          shown = rw same at c.in_ok-check_paths.ensures.shown;
          is = refl;
        };
        grew = rw c.deref-3.ensures at c.in-Ok.ensures.ok;
      };
      refused = tt;
    }

pub returns : goal.returns
returns g c =
    let same = rw (c.path_backing.ensures, c.entries.ensures, c.deref-2.ensures, c.deref.ensures) at c.new-entries.ensures in
    record {
      told = tt;
      refused = part c.in-Err.e refl c.in-Err.ensures.cause (record {
        text = listing c.args.style (contents (state_of c.in_ok-index.index)).records;
        is = inl (record {
          value = contents (state_of c.in_ok-index.index);
          checksum = checksum_of c.in_ok-index.index;
          read = c.in_ok-index.ensures.read;
          shown = rw same at c.in_ok-check_paths.ensures.shown;
          is = refl;
        });
        grew = rw c.deref-3.ensures at c.in-Err.ensures.err;
      });
    }
