use Rattle.index_model.specs.Contents.{parts_contents}
use Rattle.index_encode.proofs.Bodies.{unmarked_exact}
use Rattle.index_encode.proofs.layout.layout_of.Goals as goal

pub returns-in-None-clause-none : goal.returns-in-None-clause-none
returns-in-None-clause-none c =
    rw (unmarked_exact (parts_contents c.args.parts.now) c.args.options) c.layout_by-in-None.ensures.none
