use Rattle.std.proofs.Common.{arith}
use Rattle.std.specs.Prelude.{codes}
use Rattle.index_parts.proofs.Puts.{puts_after, puts_is, puts_stopped}
use Rattle.ext_encode.specs.MonitorImage.{borrowed_monitor, monitor_bytes}
use Rattle.ext_bitmap.proofs.Lengths.{item_parts}
use Rattle.ext_encode.proofs.WrittenMonitors.{monitor_len}
use Rattle.ext_encode.proofs.fs_monitor.put_parts.Goals as goal

pub overflow_sub-size : goal.overflow_sub-size
overflow_sub-size g c =
    omega (arith, monitor_len (borrowed_monitor c.args.token.now c.args.dirty), c.requires.len, c.from.ensures)

pub overflow_sub-size-2 : goal.overflow_sub-size-2
overflow_sub-size-2 g c = omega (
  arith,
  monitor_len (borrowed_monitor c.args.token.now c.args.dirty),
  c.requires.len,
  c.from.ensures,
  c.token_len.ensures.len,
)

pub returns-in_err-put_head : goal.returns-in_err-put_head
returns-in_err-put_head g c =
    let m = borrowed_monitor c.args.token.now c.args.dirty in
    record {
      written = puts_stopped c.from_residual.result (monitor_bytes m) c.from_residual.ensures.0
          (item_parts (codes "FSMN") (monitor_bytes m) c.args.len c.requires.len) c.in_err-put_head.ensures;
    }

pub put_content-requires : goal.put_content-requires
put_content-requires g c = record {
  size = omega (
    arith,
    monitor_len (borrowed_monitor c.args.token.now c.args.dirty),
    c.requires.len,
    c.from.ensures,
    c.token_len.ensures.len,
  );
}

pub returns : goal.returns
returns g c =
    let m = borrowed_monitor c.args.token.now c.args.dirty in
    record {
      written = puts_is c.put_content.result
          (item_parts (codes "FSMN") (monitor_bytes m) c.args.len c.requires.len)
          (puts_after c.put_content.result c.in_ok-put_head.ensures c.put_content.ensures);
    }
