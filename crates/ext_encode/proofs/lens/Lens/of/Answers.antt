use Rattle.std.proofs.Common.{length, map, ◌∙◌, ap}
use Rattle.ext_tree.specs.GitOrder.{ordered_if}
use Rattle.ext_tree.specs.Tree.{node_of}
use Rattle.ext_tree.specs.TreeImage.{node_bytes}
use Rattle.ext_encode.specs.MonitorImage.{monitor_bytes}
use Rattle.ext_encode.specs.ResolveUndoImage.{resolve_undo_bytes}
use Rattle.ext_encode.specs.UntrackedImage.{cache_bytes}
use Rattle.ext_encode.specs.Listing.{len_within_32}
use Rattle.ext_small.specs.FsMonitor.{monitor_of}
use Rattle.ext_small.specs.ResolveUndo.{path_stages}
use Rattle.ext_untracked.specs.Untracked.{cache_of}
use Rattle.ext_encode.specs.Chosen.{extensions_of}
use Rattle.ext_encode.proofs.Sizes.{cache_uncounted, map_after, monitor_uncounted, tree_uncounted, undo_uncounted}
use Rattle.ext_encode.proofs.lens.Lens.of.Goals as goal

pub returns-in_default-clause-none : goal.returns-in_default-clause-none
returns-in_default-clause-none c =
    tree_uncounted c.args.kind (extensions_of c.args.chosen) (c.in_default.ensures ∙ ap len_within_32
    (map_after (λ t. ordered_if c.args.chosen.in_git_order (node_of t.now)) (λ t. length (node_bytes t))
    c.args.chosen.tree))

pub returns-in_default-resolve_undo_len-clause-none : goal.returns-in_default-resolve_undo_len-clause-none
returns-in_default-resolve_undo_len-clause-none c =
    undo_uncounted c.args.kind (extensions_of c.args.chosen) (c.in_default-resolve_undo_len.ensures ∙ ap len_within_32
    (map_after (λ it. map path_stages it.now) (λ p. length (resolve_undo_bytes p)) c.args.chosen.resolve_undo))

pub returns-in_default-untracked_len-clause-none : goal.returns-in_default-untracked_len-clause-none
returns-in_default-untracked_len-clause-none c =
    cache_uncounted c.args.kind (extensions_of c.args.chosen) (c.in_default-untracked_len.ensures ∙ ap len_within_32
    (map_after (λ it. cache_of it.now) (λ v. length (cache_bytes c.args.kind v)) c.args.chosen.untracked))

pub returns-in_default-monitor_len-clause-none : goal.returns-in_default-monitor_len-clause-none
returns-in_default-monitor_len-clause-none c =
    monitor_uncounted c.args.kind (extensions_of c.args.chosen) (c.in_default-monitor_len.ensures ∙ ap len_within_32
    (map_after (λ it. monitor_of it.now) (λ m. length (monitor_bytes m)) c.args.chosen.fs_monitor))
