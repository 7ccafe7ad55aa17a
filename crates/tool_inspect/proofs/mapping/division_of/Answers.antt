use Rattle.tool_inspect.proofs.Divisions.{counted_divided, held_divided}
use Rattle.tool_inspect.proofs.mapping.division_of.Goals as goal

pub returns-in-Held : goal.returns-in-Held
returns-in-Held c =
    rw (c.in-Held.is, ← c.deref.ensures.value)
    (held_divided c.args.kind c.deref.result.now c.divide.result c.divide.ensures.divided)

pub returns-in-Headless : goal.returns-in-Headless
returns-in-Headless c =
    rw c.in-Headless.is (counted_divided c.args.kind c.in-Headless.len c.in-Headless.fault c.headless.result c.headless.ensures)
