use Rattle.std.proofs.Common.{sym, ap, arith, length-append}
use Rattle.std.specs.Prelude.{length}
use Rattle.entry_list.specs.Entry.{head_bytes}
use Rattle.entry_decode.specs.LentSteps.{lent_head}
use Rattle.entry_list.proofs.Pieces.{head_takes, path_takes}
use Rattle.entry_decode.proofs.entry.pieces23_of.Goals as goal

pub overflow_sub-taken : goal.overflow_sub-taken
overflow_sub-taken c =
    let head = head_takes c.args.kind c.args.bytes.now (lent_head c.in_ok-head.head, c.in_ok-head.rest.now)
    (sym c.in_ok-head.ensures) in
    let path =
    path_takes _ c.in_ok-head.rest.now (c.in_ok-path.path.now, c.in_ok-path.rest.now) (sym c.in_ok-path.ensures) in
    omega (
      arith,
      ap length head.2,
      length-append (head_bytes head.0) c.in_ok-head.rest.now,
      ap length path.0,
      length-append c.in_ok-path.path.now c.in_ok-path.rest.now,
    )
