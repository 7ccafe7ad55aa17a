use Rattle.view_salvage.proofs.Accepting.{among_none, no_memory, passed, refused}
use Rattle.view_salvage.proofs.accepted.check_staging.Goals as goal

pub returns-in-Ok : goal.returns-in-Ok
returns-in-Ok c = passed c.args.kind c.args.entry c.args.path
    (among_none c.args.kind c.args.entry c.args.path _ c.new-none.result c.new-none.ensures c.in-Ok.ensures)

pub returns-in-Err-Refused : goal.returns-in-Err-Refused
returns-in-Err-Refused c = refused c.args.kind c.args.entry c.args.path _ c.in-Err-Refused.cause
    (rw c.in-Err-Refused.field-0-is at
    (among_none c.args.kind c.args.entry c.args.path _ c.new-none.result c.new-none.ensures c.in-Err-Refused.ensures))

pub unreachable-requires : goal.unreachable-requires
unreachable-requires c =
    no_memory c.args.kind c.args.entry c.args.path (rw c.in-Err-Memory.field-0-is at
    (among_none c.args.kind c.args.entry c.args.path _ c.new-none.result c.new-none.ensures c.in-Err-Memory.ensures))
