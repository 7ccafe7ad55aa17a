use Rattle.std.proofs.Common.{[], ◌∷◌}
use Rattle.std.proofs.lemmas.Result.{err_from_is_err_and}
use Rattle.index_state.specs.State.{contents}
use Rattle.view_events.specs.Bitmaps.{link_events}
use Rattle.view_events.specs.Document.{behind_events, last_events}
use Rattle.view_events.specs.Trees.{cached_tree_events}
use Rattle.view_events.specs.Undo.{undo_events}
use Rattle.view_events.specs.Untracked.{untracked_events}
use Rattle.view_events.proofs.Chain.{and_sent, and_told, begun, done_as, first_broken, none_held}
use Rattle.view_events.proofs.document.write_behind.Goals as goal

pub returns-in_err-write_tree : goal.returns-in_err-write_tree
unfolding behind_events
returns-in_err-write_tree g c =
    let o = (contents c.args.state.now).extensions in
    let p = err_from_is_err_and c.from_residual-in_err-write_tree.result c.from_residual-in_err-write_tree.ensures.1 in
    rw (p.1, p.2) (first_broken (cached_tree_events o.tree) (link_events o.link ∷ undo_events o.resolve_undo
    ∷ untracked_events o.untracked ∷ last_events o c.args.marks.now ∷ []) (begun _ c.in_ok-put.ensures)
    (rw c.tree.ensures at c.in_err-write_tree.ensures))

pub returns-in_err-append_link : goal.returns-in_err-append_link
unfolding behind_events
returns-in_err-append_link g c =
    let o = (contents c.args.state.now).extensions in
    let p = err_from_is_err_and c.from_residual-in_err-append_link.result
    c.from_residual-in_err-append_link.ensures.1 in
    none_held (link_events o.link)
    (undo_events o.resolve_undo ∷ untracked_events o.untracked ∷ last_events o c.args.marks.now ∷ [])
    (and_sent (cached_tree_events o.tree) (begun _ c.in_ok-put.ensures)
    (rw c.tree.ensures at c.in_ok-write_tree.ensures)) _ p.1 p.2

pub returns-in_err-write_undo : goal.returns-in_err-write_undo
unfolding behind_events
returns-in_err-write_undo g c =
    let o = (contents c.args.state.now).extensions in
    let p = err_from_is_err_and c.from_residual-in_err-write_undo.result c.from_residual-in_err-write_undo.ensures.1 in
    let s = and_told (link_events o.link) (and_sent (cached_tree_events o.tree) (begun _ c.in_ok-put.ensures)
    (rw c.tree.ensures at c.in_ok-write_tree.ensures)) (rw c.link.ensures at c.in_ok-append_link.ensures) in
    rw (p.1, p.2) (first_broken (undo_events o.resolve_undo)
    (untracked_events o.untracked ∷ last_events o c.args.marks.now ∷ []) s
    (rw c.resolve_undo.ensures at c.in_err-write_undo.ensures))

pub returns-in_err-write_untracked : goal.returns-in_err-write_untracked
unfolding behind_events
returns-in_err-write_untracked g c =
    let o = (contents c.args.state.now).extensions in
    let p = err_from_is_err_and c.from_residual-in_err-write_untracked.result
    c.from_residual-in_err-write_untracked.ensures.1 in
    let s = and_told (link_events o.link) (and_sent (cached_tree_events o.tree) (begun _ c.in_ok-put.ensures)
    (rw c.tree.ensures at c.in_ok-write_tree.ensures)) (rw c.link.ensures at c.in_ok-append_link.ensures) in
    let u = and_sent (undo_events o.resolve_undo) s (rw c.resolve_undo.ensures at c.in_ok-write_undo.ensures) in
    rw (p.1, p.2) (first_broken (untracked_events o.untracked) (last_events o c.args.marks.now ∷ []) u
    (rw c.untracked.ensures at c.in_err-write_untracked.ensures))

pub returns-in_err-append_last : goal.returns-in_err-append_last
unfolding behind_events
returns-in_err-append_last g c =
    let o = (contents c.args.state.now).extensions in
    let p = err_from_is_err_and c.from_residual-in_err-append_last.result
    c.from_residual-in_err-append_last.ensures.1 in
    let s = and_told (link_events o.link) (and_sent (cached_tree_events o.tree) (begun _ c.in_ok-put.ensures)
    (rw c.tree.ensures at c.in_ok-write_tree.ensures)) (rw c.link.ensures at c.in_ok-append_link.ensures) in
    let u = and_sent (undo_events o.resolve_undo) s (rw c.resolve_undo.ensures at c.in_ok-write_undo.ensures) in
    none_held (last_events o c.args.marks.now) []
    (and_sent (untracked_events o.untracked) u (rw c.untracked.ensures at c.in_ok-write_untracked.ensures)) _ p.1 p.2

pub returns : goal.returns
unfolding behind_events
returns g c =
    let o = (contents c.args.state.now).extensions in
    let s = and_told (link_events o.link) (and_sent (cached_tree_events o.tree) (begun _ c.in_ok-put.ensures)
    (rw c.tree.ensures at c.in_ok-write_tree.ensures)) (rw c.link.ensures at c.in_ok-append_link.ensures) in
    let u = and_sent (undo_events o.resolve_undo) s (rw c.resolve_undo.ensures at c.in_ok-write_undo.ensures) in
    done_as (and_told (last_events o c.args.marks.now)
    (and_sent (untracked_events o.untracked) u (rw c.untracked.ensures at c.in_ok-write_untracked.ensures))
    c.in_ok-append_last.ensures).is
