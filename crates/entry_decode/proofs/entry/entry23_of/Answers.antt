use Rattle.std.proofs.Common.{sym, Option, Some, None}
use Rattle.std.specs.Prelude.{IfNone}
use Rattle.entry_decode.specs.LentSteps.{lent_head}
use Rattle.entry_list.proofs.Pieces.{entry_takes, entry_again, entry_long}
use Rattle.entry_decode.proofs.entry.entry23_of.Goals as goal

if_none : {A : Type 0} (o : Option A) (P : Type 0) → P → IfNone o P
if_none None P p = p
if_none (Some x) P p = tt

pub returns-in_err-head-clause-none : goal.returns-in_err-head-clause-none
returns-in_err-head-clause-none c = if_none c.from_residual.result _
    (λ r rest h. absurd (cc (entry_again c.args.kind c.args.bytes.now r rest h, c.in_err-head.ensures)))

pub lent_of-requires : goal.lent_of-requires
lent_of-requires c = entry_long c.args.kind c.args.bytes.now
    ((lent_head c.in_ok-head.head, c.in_ok-head.path.now), c.in_ok-head.rest.now) (sym c.in_ok-head.ensures)

pub returns-clause-found : goal.returns-clause-found
returns-clause-found c = λ previous. rw (c.lent_of.ensures.record previous) (entry_takes c.args.kind c.args.bytes.now
    ((lent_head c.in_ok-head.head, c.in_ok-head.path.now), c.in_ok-head.rest.now) (sym c.in_ok-head.ensures))
