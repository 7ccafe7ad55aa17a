use Rattle.base_search.proofs.Parting.{around_whole}
use Rattle.base_search.proofs.ordered.part.Goals as goal

pub returns-clause-parts : goal.returns-clause-parts
returns-clause-parts g c = λ rising. c.part_within.ensures.parts rising
    (around_whole c.args.after (g.R.Ordered.answers c.args.places.now) c.len.result c.len.ensures)
