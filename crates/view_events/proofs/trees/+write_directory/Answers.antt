use Rattle.std.proofs.Common.{Err, List, Ok, [], ◌++◌, append-nil, arith, refl, subst}
use Rattle.std.proofs.lemmas.Result.{err_from_is_err_and}
use mathlib.Core.List.{map-id}
use Rattle.ext_tree.specs.declared.Tree.{Tree}
use Rattle.ext_tree.specs.declared.Tree.TheViews.{out-Tree}
use Rattle.base_text.proofs.Blocks.{block_broken, block_out}
use Rattle.base_text.proofs.Written.{placed_then}
use Rattle.base_text.specs.Blocks.{PutsBlocks}
use Rattle.view_events.specs.Event.{Event, listed, print}
use Rattle.view_events.specs.Trees.{closed_events, tree_opened}
use Rattle.view_events.proofs.Chain.{done_as, first_sent, rest_untold}
use Rattle.view_events.proofs.Listed.{shown}
use Rattle.view_events.proofs.Loops.{ends_sent, ends_unheld, item_stopped}
use Rattle.view_events.proofs.TreeEvents.{placed_tree, tree_is}
use Rattle.view_events.proofs.trees.+write_directory.Goals as goal

pub loop-place-init : goal.loop-place-init
loop-place-init g t c =
    let spell = g.P.Printer.spell in
    let old = c.args.text.now.bytes.items in
    let es = tree_opened c.args.at c.args.depth c.args.tree.now in
    rw (append-nil (old ++ print spell es)) (block_out {T = Unit {0}} {y = tt}
    (first_sent spell old es c.in_ok-append_own.ensures) c.in_ok-put_block.ensures.ok
    c.in_ok-put_block.ensures.has_failed c.in_ok-put_block.ensures.loan)

pub loop-place-preserved : goal.loop-place-preserved
loop-place-preserved g t c =
    let spell = g.P.Printer.spell in
    let depth = c.args.depth in
    let P : Tree → Type 0 = λ t. PutsBlocks {T = Unit {0}} g.W.Out c.loop-place.out c.write_directory.new.out
    (Ok c.in_ok-write_directory.field-0) c.write_directory.new.text.bytes.items
    (c.loop-place.text.bytes.items ++ print spell (placed_tree depth c.loop-place.place t)) in
    done_as (placed_then (Ok c.in_ok-write_directory.field-0) (shown spell (placed_tree depth) (λ (t : Tree). t))
    (c.args.text.now.bytes.items ++ print spell (tree_opened c.args.at depth c.args.tree.now))
    c.deref-child-items.result.now c.loop-place.place c.child-item.result (omega (arith, c.loop-place-test.true))
    c.loop-place.invariant
    (subst P c.child-item.is
    (rw (c.saturating_add.ensures, c.saturating_add-in-loop-place.ensures) at c.in_ok-write_directory.ensures)))

pub returns-in_err-put_block : goal.returns-in_err-put_block
returns-in_err-put_block g t c =
    let spell = g.P.Printer.spell in
    let old = c.args.text.now.bytes.items in
    let kids = (out-Tree c.args.tree.now).children.items in
    let es = tree_opened c.args.at c.args.depth c.args.tree.now in
    let ends = closed_events c.args.at c.args.depth in
    let r = c.from_residual-in_err-put_block.result in
    let p = err_from_is_err_and r c.from_residual-in_err-put_block.ensures.1 in
    let P : List Event → Type 0 = λ l. PutsBlocks {T = Unit {0}} g.W.Out c.args.out.now c.put_block.new.out (Err p.0)
    c.put_block.new.text.items (old ++ print spell l) in
    let subs = listed (placed_tree c.args.depth) kids in
    rw p.1 (subst P (tree_is c.args.at c.args.depth c.args.tree.now kids refl)
    (rest_untold {T = Unit {0}} {U = Unit {0}} spell old (es ++ subs) ends _ {waiting = old}
    (rest_untold {T = Unit {0}} {U = Unit {0}} spell old es subs _ {waiting = old}
    (block_broken (Err p.0) [] refl (first_sent spell old es c.in_ok-append_own.ensures)
    c.in_err-put_block.ensures.err c.in_err-put_block.ensures.has_failed c.in_err-put_block.ensures.loan
    (append-nil (old ++ print spell es))))))

pub returns-in_err-write_directory : goal.returns-in_err-write_directory
returns-in_err-write_directory g t c =
    let spell = g.P.Printer.spell in
    let old = c.args.text.now.bytes.items in
    let depth = c.args.depth in
    let kids = c.deref-child-items.result.now in
    let es = tree_opened c.args.at depth c.args.tree.now in
    let p = err_from_is_err_and c.from_residual-in_err-write_directory.result
    c.from_residual-in_err-write_directory.ensures.1 in
    let P : Tree → Type 0 = λ t. PutsBlocks {T = Unit {0}} g.W.Out c.loop-place.out c.write_directory.new.out
    (Err c.in_err-write_directory.field-0.0) c.write_directory.new.text.bytes.items
    (c.loop-place.text.bytes.items ++ print spell (placed_tree depth c.loop-place.place t)) in
    let Q : List Event → Type 0 = λ l. PutsBlocks {T = Unit {0}} g.W.Out c.args.out.now c.write_directory.new.out
    (Err c.in_err-write_directory.field-0.0) c.write_directory.new.text.bytes.items (old ++ print spell l) in
    rw (p.1, p.2) (subst Q (tree_is c.args.at depth c.args.tree.now kids c.deref-child-items.ensures.value)
    (item_stopped g.W.Out c.args.out.now spell (placed_tree depth) (λ (t : Tree). t) old (old ++ print spell es) es
    (closed_events c.args.at depth) kids kids refl (map-id kids) (Err c.in_err-write_directory.field-0.0)
    c.loop-place.place c.child-item.result refl (omega (arith, c.loop-place-test.true)) c.loop-place.invariant
    (subst P c.child-item.is
    (rw (c.saturating_add.ensures, c.saturating_add-in-loop-place.ensures) at c.in_err-write_directory.ensures))))

pub returns-in_err-put_all : goal.returns-in_err-put_all
returns-in_err-put_all g t c =
    let spell = g.P.Printer.spell in
    let old = c.args.text.now.bytes.items in
    let depth = c.args.depth in
    let kids = c.deref-child-items.result.now in
    let es = tree_opened c.args.at depth c.args.tree.now in
    let r = c.from_residual-in_err-put_all.result in
    let p = err_from_is_err_and r c.from_residual-in_err-put_all.ensures.1 in
    let Q : List Event → Type 0 = λ l. PutsBlocks {T = Unit {0}} g.W.Out c.args.out.now c.loop-place.out r
    c.put_all.new.self.bytes.items (old ++ print spell l) in
    subst Q (tree_is c.args.at depth c.args.tree.now kids c.deref-child-items.ensures.value)
    (ends_unheld g.W.Out c.args.out.now spell (placed_tree depth) (λ (t : Tree). t) old (old ++ print spell es) es
    (closed_events c.args.at depth) kids kids refl (map-id kids) r c.loop-place.place p.1 p.2
    (omega (arith, c.loop-place-test.false)) c.loop-place.invariant)

pub returns : goal.returns
returns g t c =
    let spell = g.P.Printer.spell in
    let old = c.args.text.now.bytes.items in
    let depth = c.args.depth in
    let kids = c.deref-child-items.result.now in
    let es = tree_opened c.args.at depth c.args.tree.now in
    let Q : List Event → Type 0 = λ l. PutsBlocks {T = Unit {0}} g.W.Out c.args.out.now c.loop-place.out (Ok tt)
    c.put_all.new.self.bytes.items (old ++ print spell l) in
    subst Q (tree_is c.args.at depth c.args.tree.now kids c.deref-child-items.ensures.value)
    (ends_sent g.W.Out c.args.out.now spell (placed_tree depth) (λ (t : Tree). t) old (old ++ print spell es) es
    (closed_events c.args.at depth) kids kids refl (map-id kids) c.loop-place.place
    (omega (arith, c.loop-place-test.false)) c.loop-place.invariant c.in_ok-put_all.ensures)
