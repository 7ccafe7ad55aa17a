use Rattle.std.proofs.Common.{rules}
use Rattle.index_c.proofs.FoldedPlaces.{none_placed, placed}
use Rattle.index_c.proofs.folded.gix_index_closest_icase.Goals as goal

pub returns-in-Some : goal.returns-in-Some
returns-in-Some c =
    record {
      in_range = search rules;
      answer = placed c.args.directory.now c.args.paths.now c.args.rows.now c.in-Some.place c.in-Some.ensures;
    }

pub returns-in-None : goal.returns-in-None
returns-in-None c =
    record {
      in_range = search rules;
      answer = none_placed c.args.directory.now c.args.paths.now c.args.rows.now c.in-None.ensures;
    }
