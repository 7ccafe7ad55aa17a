use Rattle.std.proofs.Common.{inl, refl}
use Rattle.std.proofs.KnownBytes.{Keeps-refl}
use Rattle.std.proofs.lemmas.Result.{err_from_is_err_and}
use Rattle.gix_index.specs.File.{checksum_of, state_of}
use Rattle.gix_index.specs.State.{contents}
use Rattle.tool_errors.specs.Outputs.{part, untold}
use Rattle.tool_inspect.specs.Showing.{shown_text}
use Rattle.tool_inspect.proofs.show.show.Goals as goal

pub returns-in_err-told : goal.returns-in_err-told
returns-in_err-told g c =
    let p = err_from_is_err_and c.from_residual.result c.from_residual.ensures.1 in
    rw (p.1, p.2) (record {
      told = tt;
      refused = untold c.in_err-told.ensures.fault (Keeps-refl (g.W.Out.taken c.args.out.now));
    })

pub returns-in-Ok : goal.returns-in-Ok
returns-in-Ok g c =
    let told = c.in_ok-told.told in
    record {
      told = record {
        text = shown_text c.args.format (contents (state_of told.index)) (checksum_of told.index) told.marks;
        is = record {
          value = contents (state_of told.index);
          checksum = checksum_of told.index;
          marks = told.marks;
          held = c.in_ok-told.ensures.told;
          is = refl;
        };
        grew = c.in-Ok.ensures.ok;
      };
      refused = tt;
    }

pub returns : goal.returns
returns g c =
    let told = c.in_ok-told.told in
    record {
      told = tt;
      refused = part c.in-Err.e refl c.in-Err.ensures.cause (record {
        text = shown_text c.args.format (contents (state_of told.index)) (checksum_of told.index) told.marks;
        is = inl (record {
          value = contents (state_of told.index);
          checksum = checksum_of told.index;
          marks = told.marks;
          held = c.in_ok-told.ensures.told;
          is = refl;
        });
        grew = c.in-Err.ensures.err;
      });
    }
