use Rattle.std.proofs.Common.{rules}
use Rattle.tree_encode.proofs.Divided.{none_below, one_below}
use Rattle.tree_encode.proofs.merged.has_entry_below.Goals as goal

pub returns-in-Some-clause-yes : goal.returns-in-Some-clause-yes
returns-in-Some-clause-yes c = λ some.
    one_below c.args.parent.now c.args.entries.now c.in-Some.range (c.in-Some.ensures.exactly c.requires)
    (search rules)

pub returns-in-None-clause-no : goal.returns-in-None-clause-no
returns-in-None-clause-no c = λ no.
    none_below c.args.parent.now c.args.entries.now (c.in-None.ensures.exactly c.requires)
