use Rattle.std.proofs.Common.{map}
use Rattle.std.specs.Prelude.{codes}
use Rattle.index_parts.proofs.Puts.{puts_after, puts_is, puts_stopped}
use Rattle.ext_small.specs.ResolveUndo.{path_stages}
use Rattle.ext_encode.specs.ResolveUndoImage.{resolve_undo_bytes}
use Rattle.ext_bitmap.proofs.Lengths.{item_parts}
use Rattle.ext_encode.proofs.WrittenPaths.{listed}
use Rattle.ext_encode.proofs.resolve_undo.put_item.Goals as goal

pub returns-in_err-put_head : goal.returns-in_err-put_head
returns-in_err-put_head g c =
    let content = resolve_undo_bytes (map path_stages c.args.paths.now) in
    record {
      written = puts_stopped c.from_residual.result content c.from_residual.ensures.0
          (item_parts (codes "REUC") content c.args.len c.requires.len) c.in_err-put_head.ensures;
    }

pub returns : goal.returns
returns g c =
    let content = resolve_undo_bytes (map path_stages c.args.paths.now) in
    record {
      written = puts_is c.put_paths.result (item_parts (codes "REUC") content c.args.len c.requires.len)
          (puts_after c.put_paths.result c.in_ok-put_head.ensures
          (puts_is c.put_paths.result (listed c.args.paths.now) c.put_paths.ensures));
    }
