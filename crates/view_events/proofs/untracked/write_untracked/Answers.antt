use Rattle.std.proofs.Common.{None, ◌++◌, ◌∙◌, ap, arith}
use Rattle.std.proofs.lemmas.Result.{err_from_is_err_and}
use Rattle.base_text.proofs.Written.{placed_out}
use Rattle.ext_untracked.specs.Blocks.{directory_value}
use Rattle.ext_untracked.specs.Untracked.{cache_of}
use Rattle.ext_untracked.specs.declared.Directory.{Directory}
use Rattle.view_events.specs.Event.{print}
use Rattle.view_events.specs.Untracked.{cache_begin, cache_end, cached_events, untracked_events}
use Rattle.view_events.proofs.Chain.{done_as, first_sent}
use Rattle.view_events.proofs.Listed.{shown}
use Rattle.view_events.proofs.Loops.{ends_sent, ends_unheld, item_broken, item_unheld}
use Rattle.view_events.proofs.Steps.{one_told}
use Rattle.view_events.proofs.untracked.write_untracked.Goals as goal

pub returns-in_default : goal.returns-in_default
returns-in_default g c =
    let spell = g.P.Printer.spell in
    rw c.in_default.is (done_as (first_sent spell c.args.text.now.bytes.items (untracked_events None)
    (one_told spell _ _ c.in_ok-put.ensures)))

pub loop-place-preserved : goal.loop-place-preserved
loop-place-preserved g c =
    placed_out (shown g.P.Printer.spell cached_events directory_value) c.append_begin.new.text.bytes.items
    c.directories-directory-items.result.now c.loop-place.place c.directory-item.result
    (omega (arith, c.loop-place-test.true)) c.loop-place.invariant
    (c.in_ok-append_directory.ensures ∙ ap (λ (x : Directory). c.loop-place.text.bytes.items
    ++ print g.P.Printer.spell (cached_events c.loop-place.place (directory_value x))) c.directory-item.is)
    c.in_ok-put_block.ensures.ok c.in_ok-put_block.ensures.has_failed c.in_ok-put_block.ensures.loan

pub returns-in_err-append_directory : goal.returns-in_err-append_directory
returns-in_err-append_directory g c =
    let v = cache_of c.in-Some.cache.now in
    let p = err_from_is_err_and c.from_residual-in_err-append_directory.result
    c.from_residual-in_err-append_directory.ensures.1 in
    rw c.in-Some.is (item_unheld g.W.Out c.args.out.now g.P.Printer.spell cached_events directory_value
    c.args.text.now.bytes.items c.append_begin.new.text.bytes.items (cache_begin v) cache_end
    c.directories-directory-items.result.now v.directories c.in_ok-append_begin.ensures
    c.directories-directory-items.ensures _ c.loop-place.place p.1 p.2 c.loop-place.invariant)

pub returns-in_err-put_block : goal.returns-in_err-put_block
returns-in_err-put_block g c =
    let v = cache_of c.in-Some.cache.now in
    let p = err_from_is_err_and c.from_residual-in_err-put_block.result
    c.from_residual-in_err-put_block.ensures.1 in
    rw c.in-Some.is (item_broken g.W.Out c.args.out.now g.P.Printer.spell cached_events directory_value
    c.args.text.now.bytes.items c.append_begin.new.text.bytes.items (cache_begin v) cache_end
    c.directories-directory-items.result.now v.directories c.in_ok-append_begin.ensures
    c.directories-directory-items.ensures _ c.loop-place.place c.directory-item.result p.1
    (omega (arith, c.loop-place-test.true)) c.loop-place.invariant
    (c.in_ok-append_directory.ensures ∙ ap (λ (x : Directory). c.loop-place.text.bytes.items
    ++ print g.P.Printer.spell (cached_events c.loop-place.place (directory_value x))) c.directory-item.is)
    c.in_err-put_block.ensures.err c.in_err-put_block.ensures.has_failed c.in_err-put_block.ensures.loan)

pub returns-in_err-put_all : goal.returns-in_err-put_all
returns-in_err-put_all g c =
    let v = cache_of c.in-Some.cache.now in
    let p = err_from_is_err_and c.from_residual-in_err-put_all.result c.from_residual-in_err-put_all.ensures.1 in
    rw c.in-Some.is (ends_unheld g.W.Out c.args.out.now g.P.Printer.spell cached_events directory_value
    c.args.text.now.bytes.items c.append_begin.new.text.bytes.items (cache_begin v) cache_end
    c.directories-directory-items.result.now v.directories c.in_ok-append_begin.ensures
    c.directories-directory-items.ensures _ c.loop-place.place p.1 p.2 (omega (arith, c.loop-place-test.false))
    c.loop-place.invariant)

pub returns : goal.returns
returns g c =
    let v = cache_of c.in-Some.cache.now in
    rw c.in-Some.is (ends_sent g.W.Out c.args.out.now g.P.Printer.spell cached_events directory_value
    c.args.text.now.bytes.items c.append_begin.new.text.bytes.items (cache_begin v) cache_end
    c.directories-directory-items.result.now v.directories c.in_ok-append_begin.ensures
    c.directories-directory-items.ensures c.loop-place.place (omega (arith, c.loop-place-test.false))
    c.loop-place.invariant c.in_ok-put_all.ensures)
