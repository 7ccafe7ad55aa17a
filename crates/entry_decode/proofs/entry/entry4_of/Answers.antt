use Rattle.std.proofs.Common.{sym, ap, Option, Some, None}
use Rattle.std.specs.Prelude.{IfNone}
use Rattle.entry_decode.specs.LentSteps.{lent_head}
use Rattle.entry_list.specs.EntrySteps.{entry4_at}
use Rattle.entry_list.proofs.Deltas.{entry4_takes, entry4_again, entry4_long}
use Rattle.entry_decode.proofs.entry.entry4_of.Goals as goal

if_none : {A : Type 0} (o : Option A) (P : Type 0) → P → IfNone o P
if_none None P p = p
if_none (Some x) P p = tt

pub returns-in_err-head-clause-none : goal.returns-in_err-head-clause-none
returns-in_err-head-clause-none c = if_none c.from_residual.result _ (λ previous r rest room h.
    let found = entry4_again c.args.kind previous c.args.bytes.now r rest h in
    let same = ap (λ o. entry4_at c.args.kind o c.args.bytes.now) room in
    absurd (cc (found.2, same, c.in_err-head.ensures)))

pub lent_of-requires : goal.lent_of-requires
lent_of-requires c = (entry4_long c.args.kind c.args.room c.args.bytes.now
    ((lent_head c.in_ok-head.head, c.in_ok-head.shared, c.in_ok-head.tail.now), c.in_ok-head.rest.now)
    (sym c.in_ok-head.ensures)).0

pub returns-clause-found : goal.returns-clause-found
returns-clause-found c =
    λ previous room. rw (c.lent_of.ensures.record previous) (entry4_takes c.args.kind previous c.args.room
    c.args.bytes.now ((lent_head c.in_ok-head.head, c.in_ok-head.shared, c.in_ok-head.tail.now), c.in_ok-head.rest.now)
    room (sym c.in_ok-head.ensures))

pub returns-clause-shared : goal.returns-clause-shared
returns-clause-shared c = rw c.lent_of.ensures.shared (entry4_long c.args.kind c.args.room c.args.bytes.now
    ((lent_head c.in_ok-head.head, c.in_ok-head.shared, c.in_ok-head.tail.now), c.in_ok-head.rest.now)
    (sym c.in_ok-head.ensures)).1
