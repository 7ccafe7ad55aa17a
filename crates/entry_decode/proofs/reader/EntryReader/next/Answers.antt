use Rattle.std.proofs.Common.{arith}
use Rattle.entry_decode.proofs.Readers.{lent_fits}
use Rattle.entry_decode.proofs.reader.EntryReader.next.Goals as goal

pub overflow_add-self : goal.overflow_add-self
overflow_add-self c =
    let fits = lent_fits c.self.inside.version c.self.inside.kind c.self.inside.room c.self.inside.rest.now
    c.in_ok-lent.lent c.in_ok-lent.rest.now c.in_ok-lent.ensures.found c.in_ok-lent.ensures.shared in
    omega (arith, fits, c.self.invariant)

pub invariant_of-self : goal.invariant_of-self
invariant_of-self c =
    let fits = lent_fits c.self.inside.version c.self.inside.kind c.self.inside.room c.self.inside.rest.now
    c.in_ok-lent.lent c.in_ok-lent.rest.now c.in_ok-lent.ensures.found c.in_ok-lent.ensures.shared in
    omega (arith, fits, c.self.invariant)

pub returns-clause-len : goal.returns-clause-len
returns-clause-len c =
    let fits = lent_fits c.self.inside.version c.self.inside.kind c.self.inside.room c.self.inside.rest.now
    c.in_ok-lent.lent c.in_ok-lent.rest.now c.in_ok-lent.ensures.found c.in_ok-lent.ensures.shared in
    omega (arith, fits, c.self.invariant)
