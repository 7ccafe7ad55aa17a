use Rattle.std.proofs.Common.{inl, inr, refl}
use Rattle.std.proofs.KnownBytes.{Keeps-refl}
use Rattle.std.proofs.lemmas.Result.{err_from_is_err_and}
use Rattle.gix_index.specs.Disk.{disk_at}
use Rattle.gix_index.specs.State.{contents}
use Rattle.gix_index.specs.File.{checksum_of, state_of}
use Rattle.tool_errors.specs.Outputs.{part, untold}
use Rattle.tool_edit.specs.Checking.{ok_line}
use Rattle.tool_edit.proofs.Trailers.{fits_file}
use Rattle.tool_edit.proofs.check.check.Goals as goal

pub returns-in_err-index : goal.returns-in_err-index
returns-in_err-index g c =
    let p = err_from_is_err_and c.from_residual.result c.from_residual.ensures.1 in
    rw (p.1, p.2) (record {
      told = tt;
      refused = untold (inl c.in_err-index.ensures.fault) (Keeps-refl (g.W.Out.taken c.args.out.now));
    })

pub returns-in_err-verify_contents : goal.returns-in_err-verify_contents
returns-in_err-verify_contents g c =
    let p = err_from_is_err_and c.from_residual-in_err-verify_contents.result
    c.from_residual-in_err-verify_contents.ensures.1 in
    rw (p.1, p.2) (record {
      told = tt;
      refused = untold (inr (record {
        value = contents (state_of c.in_ok-index.index);
        checksum = checksum_of c.in_ok-index.index;
        read = c.in_ok-index.ensures.read;
        is = c.in_err-verify_contents.ensures.fault;
      })) (Keeps-refl (g.W.Out.taken c.args.out.now));
    })

pub returns-in-Ok : goal.returns-in-Ok
returns-in-Ok g c = record {
  told = record {
    text = ok_line;
    is = record {
      value = contents (state_of c.in_ok-index.index);
      checksum = checksum_of c.in_ok-index.index;
      sound = record {
        read = c.in_ok-index.ensures.read;
        ordered = c.in_ok-verify_contents.ensures.ordered;
        tree = c.in_ok-verify_contents.ensures.tree;
        trees = c.in_ok-verify_contents.ensures.right;
        strict = c.in_ok-verify_contents.ensures.strict;
        intact = fits_file (disk_at (g.D.Folder.known c.args.folder.now) c.args.path.now) c.args.kind
            (contents (state_of c.in_ok-index.index)) (checksum_of c.in_ok-index.index) c.in_ok-index.ensures.read;
      };
      is = refl;
    };
    grew = c.in-Ok.ensures.takes.grew;
  };
  refused = tt;
}

pub returns : goal.returns
returns g c = record {
  told = tt;
  refused = part c.in-Err.e refl (λ n. c.in-Err.ensures.failed) (record {
    text = ok_line;
    is = inl (record {
      value = contents (state_of c.in_ok-index.index);
      checksum = checksum_of c.in_ok-index.index;
      sound = record {
        read = c.in_ok-index.ensures.read;
        ordered = c.in_ok-verify_contents.ensures.ordered;
        tree = c.in_ok-verify_contents.ensures.tree;
        trees = c.in_ok-verify_contents.ensures.right;
        strict = c.in_ok-verify_contents.ensures.strict;
        intact = fits_file (disk_at (g.D.Folder.known c.args.folder.now) c.args.path.now) c.args.kind
            (contents (state_of c.in_ok-index.index)) (checksum_of c.in_ok-index.index) c.in_ok-index.ensures.read;
      };
      is = refl;
    });
    grew = c.in-Err.ensures.takes;
  });
}
