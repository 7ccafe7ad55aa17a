use Rattle.std.proofs.Common.{◌≡◌, ℕ, None, [], ◌∷◌, List, ◌++◌, ◌∙◌, ap, arith, length, map, sym}
use Rattle.std.proofs.lemmas.List.{length-map}
use Rattle.std.proofs.lemmas.Result.{err_from_is_err_and}
use Rattle.ext_small.specs.ResolveUndo.{path_stages}
use Rattle.ext_small.specs.declared.resolve_undo.ResolvePath.{ResolvePath}
use Rattle.base_text.proofs.Written.{placed_out}
use Rattle.view_events.specs.declared.event.Key.TheVariants as keys
use Rattle.view_events.specs.declared.event.Where.TheVariants.{Member}
use Rattle.view_events.specs.Event.{Event, begin_array, end_array, print}
use Rattle.view_events.specs.Undo.{path_events, undo_events}
use Rattle.view_events.proofs.Chain.{done_as, first_sent}
use Rattle.view_events.proofs.Listed.{shown}
use Rattle.view_events.proofs.Loops.{ends_sent, ends_unheld, item_broken, item_unheld}
use Rattle.view_events.proofs.Steps.{one_told}
use Rattle.view_events.proofs.undo.write_undo.Goals as goal

-- the first event
abbrev begin : ℕ → List Event
begin n = begin_array (Member keys.ResolveUndo 0 6) n ∷ []

-- the last one
abbrev ends : List Event
ends = end_array (Member keys.ResolveUndo 0 6) ∷ []

-- the first one, with how many paths there are
counted : (spell : Event → List ℕ) (old : List ℕ) {new : List ℕ} {m n : ℕ}
    → new ≡ old ++ spell (begin_array (Member keys.ResolveUndo 0 6) m) → m ≡ n → new ≡ old ++ print spell (begin n)
counted spell old e is = one_told spell old _ e ∙ ap (λ k. old ++ print spell (begin k)) is

pub returns-in_default : goal.returns-in_default
returns-in_default g c =
    let spell = g.P.Printer.spell in
    rw c.in_default.is (done_as (first_sent spell c.args.text.now.bytes.items (undo_events None)
    (one_told spell _ _ c.in_ok-put.ensures)))

pub loop-place-preserved : goal.loop-place-preserved
loop-place-preserved g c =
    placed_out (shown g.P.Printer.spell path_events path_stages) c.put-2.new.text.bytes.items
    c.deref-path-items.result.now c.loop-place.place c.path-item.result (omega (arith, c.loop-place-test.true))
    c.loop-place.invariant
    (c.in_ok-append_path.ensures ∙ ap (λ (x : ResolvePath). c.loop-place.text.bytes.items
    ++ print g.P.Printer.spell (path_events c.loop-place.place (path_stages x))) c.path-item.is)
    c.in_ok-put_block.ensures.ok c.in_ok-put_block.ensures.has_failed c.in_ok-put_block.ensures.loan

pub returns-in_err-append_path : goal.returns-in_err-append_path
returns-in_err-append_path g c =
    let spell = g.P.Printer.spell in
    let paths = map path_stages c.in-Some.paths.now.items in
    let p = err_from_is_err_and c.from_residual-in_err-append_path.result
    c.from_residual-in_err-append_path.ensures.1 in
    rw c.in-Some.is (item_unheld g.W.Out c.args.out.now spell path_events path_stages c.args.text.now.bytes.items
    c.put-2.new.text.bytes.items
    (begin (length paths)) ends c.deref-path-items.result.now paths
    (counted spell c.args.text.now.bytes.items c.in_ok-put-2.ensures
    (c.len.ensures ∙ sym c.deref-path-items.ensures.len
    ∙ sym (length-map c.deref-path-items.result.now path_stages)
    ∙ ap (λ ps. length (map path_stages ps)) c.deref-path-items.ensures.value))
    (ap (map path_stages) c.deref-path-items.ensures.value) _ c.loop-place.place p.1 p.2 c.loop-place.invariant)

pub returns-in_err-put_block : goal.returns-in_err-put_block
returns-in_err-put_block g c =
    let spell = g.P.Printer.spell in
    let paths = map path_stages c.in-Some.paths.now.items in
    let p = err_from_is_err_and c.from_residual-in_err-put_block.result
    c.from_residual-in_err-put_block.ensures.1 in
    rw c.in-Some.is (item_broken g.W.Out c.args.out.now spell path_events path_stages c.args.text.now.bytes.items
    c.put-2.new.text.bytes.items
    (begin (length paths)) ends c.deref-path-items.result.now paths
    (counted spell c.args.text.now.bytes.items c.in_ok-put-2.ensures
    (c.len.ensures ∙ sym c.deref-path-items.ensures.len
    ∙ sym (length-map c.deref-path-items.result.now path_stages)
    ∙ ap (λ ps. length (map path_stages ps)) c.deref-path-items.ensures.value))
    (ap (map path_stages) c.deref-path-items.ensures.value) _ c.loop-place.place c.path-item.result p.1
    (omega (arith, c.loop-place-test.true)) c.loop-place.invariant
    (c.in_ok-append_path.ensures ∙ ap (λ (x : ResolvePath). c.loop-place.text.bytes.items
    ++ print spell (path_events c.loop-place.place (path_stages x))) c.path-item.is)
    c.in_err-put_block.ensures.err c.in_err-put_block.ensures.has_failed c.in_err-put_block.ensures.loan)

pub returns-in_err-put-3 : goal.returns-in_err-put-3
returns-in_err-put-3 g c =
    let spell = g.P.Printer.spell in
    let paths = map path_stages c.in-Some.paths.now.items in
    let p = err_from_is_err_and c.from_residual-in_err-put-3.result c.from_residual-in_err-put-3.ensures.1 in
    rw c.in-Some.is (ends_unheld g.W.Out c.args.out.now spell path_events path_stages c.args.text.now.bytes.items
    c.put-2.new.text.bytes.items
    (begin (length paths)) ends c.deref-path-items.result.now paths
    (counted spell c.args.text.now.bytes.items c.in_ok-put-2.ensures
    (c.len.ensures ∙ sym c.deref-path-items.ensures.len
    ∙ sym (length-map c.deref-path-items.result.now path_stages)
    ∙ ap (λ ps. length (map path_stages ps)) c.deref-path-items.ensures.value))
    (ap (map path_stages) c.deref-path-items.ensures.value) _ c.loop-place.place p.1 p.2
    (omega (arith, c.loop-place-test.false)) c.loop-place.invariant)

pub returns : goal.returns
returns g c =
    let spell = g.P.Printer.spell in
    let paths = map path_stages c.in-Some.paths.now.items in
    rw c.in-Some.is (ends_sent g.W.Out c.args.out.now spell path_events path_stages c.args.text.now.bytes.items
    c.put-2.new.text.bytes.items
    (begin (length paths)) ends c.deref-path-items.result.now paths
    (counted spell c.args.text.now.bytes.items c.in_ok-put-2.ensures
    (c.len.ensures ∙ sym c.deref-path-items.ensures.len
    ∙ sym (length-map c.deref-path-items.result.now path_stages)
    ∙ ap (λ ps. length (map path_stages ps)) c.deref-path-items.ensures.value))
    (ap (map path_stages) c.deref-path-items.ensures.value) c.loop-place.place
    (omega (arith, c.loop-place-test.false)) c.loop-place.invariant (one_told spell _ _ c.in_ok-put-3.ensures))
