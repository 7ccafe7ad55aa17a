use Rattle.std.proofs.Common.{◌++◌, refl}
use Rattle.std.specs.List.{flat_map}
use Rattle.index_parts.proofs.Puts.{puts_after, puts_is, puts_stopped}
use Rattle.ext_encode.specs.MonitorImage.{monitor_item}
use Rattle.ext_encode.specs.ResolveUndoImage.{resolve_undo_item}
use Rattle.ext_encode.specs.UntrackedImage.{cache_item}
use Rattle.index_extensions.specs.Encoding.{item_bytes}
use Rattle.ext_encode.specs.Chosen.{extensions_of, item_if, sparse_items}
use Rattle.ext_encode.proofs.Sizes.{items_pieces}
use Rattle.ext_encode.proofs.items.put_items.Goals as goal

pub returns-in_err-put_tree : goal.returns-in_err-put_tree
returns-in_err-put_tree g c =
    let e = extensions_of c.args.chosen in
    let r = c.from_residual.result in
    record {
      written = puts_is r (items_pieces c.args.kind e) (puts_stopped r
          (flat_map item_bytes (item_if resolve_undo_item e.resolve_undo)
          ++ (flat_map item_bytes (item_if (cache_item c.args.kind) e.untracked)
          ++ (flat_map item_bytes (item_if monitor_item e.fs_monitor)
          ++ flat_map item_bytes (sparse_items c.args.chosen.is_sparse))))
          c.from_residual.ensures.0 refl c.in_err-put_tree.ensures);
    }

pub returns-in_err-put_resolve_undo : goal.returns-in_err-put_resolve_undo
returns-in_err-put_resolve_undo g c =
    let e = extensions_of c.args.chosen in
    let r = c.from_residual-in_err-put_resolve_undo.result in
    record {
      written = puts_is r (items_pieces c.args.kind e) (puts_after r c.in_ok-put_tree.ensures
          (puts_stopped r
          (flat_map item_bytes (item_if (cache_item c.args.kind) e.untracked)
          ++ (flat_map item_bytes (item_if monitor_item e.fs_monitor)
          ++ flat_map item_bytes (sparse_items c.args.chosen.is_sparse)))
          c.from_residual-in_err-put_resolve_undo.ensures.0 refl c.in_err-put_resolve_undo.ensures));
    }

pub returns-in_err-put_untracked : goal.returns-in_err-put_untracked
returns-in_err-put_untracked g c =
    let e = extensions_of c.args.chosen in
    let r = c.from_residual-in_err-put_untracked.result in
    record {
      written = puts_is r (items_pieces c.args.kind e) (puts_after r c.in_ok-put_tree.ensures
          (puts_after r c.in_ok-put_resolve_undo.ensures
          (puts_stopped r
          (flat_map item_bytes (item_if monitor_item e.fs_monitor)
          ++ flat_map item_bytes (sparse_items c.args.chosen.is_sparse))
          c.from_residual-in_err-put_untracked.ensures.0 refl c.in_err-put_untracked.ensures)));
    }

pub returns-in_err-put_monitor : goal.returns-in_err-put_monitor
returns-in_err-put_monitor g c =
    let e = extensions_of c.args.chosen in
    let r = c.from_residual-in_err-put_monitor.result in
    record {
      written = puts_is r (items_pieces c.args.kind e) (puts_after r c.in_ok-put_tree.ensures
          (puts_after r c.in_ok-put_resolve_undo.ensures
          (puts_after r c.in_ok-put_untracked.ensures
          (puts_stopped r
          (flat_map item_bytes (sparse_items c.args.chosen.is_sparse))
          c.from_residual-in_err-put_monitor.ensures.0 refl c.in_err-put_monitor.ensures))));
    }

pub returns : goal.returns
returns g c =
    let r = c.put_sparse.result in
    record {
      written = puts_is r (items_pieces c.args.kind (extensions_of c.args.chosen))
          (puts_after r c.in_ok-put_tree.ensures
          (puts_after r c.in_ok-put_resolve_undo.ensures
          (puts_after r c.in_ok-put_untracked.ensures
          (puts_after r c.in_ok-put_monitor.ensures
          c.put_sparse.ensures))));
    }
