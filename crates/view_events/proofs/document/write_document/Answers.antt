use Rattle.std.proofs.Common.{Err, ℕ, List, Ok, [], ◌++◌, ◌∙◌, ap, arith, map, refl}
use Rattle.std.proofs.lemmas.Result.{err_from_is_err_and}
use Rattle.entry_list.specs.Record.{record_in}
use Rattle.entry_list.specs.declared.Entry.{Entry}
use Rattle.index_state.specs.State.{contents, records, storage_of}
use Rattle.base_text.proofs.Blocks.{text_broken, text_out}
use Rattle.base_text.proofs.Written.{placed_out}
use Rattle.view_events.specs.Document.{behind_events, document_events, entry_events, head_events}
use Rattle.view_events.specs.Event.{listed, print}
use Rattle.view_events.proofs.Chain.{sent_then}
use Rattle.view_events.proofs.Listed.{shown, single_told}
use Rattle.view_events.proofs.Loops.{item_broken, item_unheld, items_sent}
use Rattle.view_events.proofs.document.write_document.Goals as goal

pub loop-place-preserved : goal.loop-place-preserved
loop-place-preserved g c =
    placed_out (shown g.P.Printer.spell entry_events (record_in (storage_of c.args.state.now)))
    c.append_head.new.text.bytes.items c.entries-entry-items.result.now c.loop-place.place _
    (omega (arith, c.loop-place-test.true)) c.loop-place.invariant
    (single_told g.P.Printer.spell c.loop-place.text.bytes.items c.put.new.text.bytes.items _ _
    (rw c.path.ensures at c.in_ok-put.ensures) refl)
    c.in_ok-put_block.ensures.ok c.in_ok-put_block.ensures.has_failed c.in_ok-put_block.ensures.loan

pub returns-in_err-put : goal.returns-in_err-put
unfolding document_events
returns-in_err-put g c =
    let spell = g.P.Printer.spell in
    let s = c.args.state.now in
    let head = head_events (contents s) c.args.checksum in
    let p = err_from_is_err_and c.from_residual-in_err-put.result c.from_residual-in_err-put.ensures.1 in
    rw p.1 (text_broken (Err p.0) {waiting = []} refl
    (item_unheld g.W.Out c.args.out.now spell entry_events (record_in (storage_of s)) []
    c.append_head.new.text.bytes.items head (behind_events (contents s).extensions c.args.marks.now)
    c.entries-entry-items.result.now (records s)
    (c.in_ok-append_head.ensures ∙ ap (λ (l : List ℕ). l ++ print spell head) c.new-bytes.ensures.items)
    (ap (λ (es : List Entry). map (record_in (storage_of s)) es) c.entries-entry-items.ensures) (Err p.0) c.loop-place.place refl p.2 c.loop-place.invariant))

pub returns-in_err-put_block : goal.returns-in_err-put_block
unfolding document_events
returns-in_err-put_block g c =
    let spell = g.P.Printer.spell in
    let s = c.args.state.now in
    let head = head_events (contents s) c.args.checksum in
    let p = err_from_is_err_and c.from_residual-in_err-put_block.result
    c.from_residual-in_err-put_block.ensures.1 in
    rw p.1 (text_broken (Err p.0) {waiting = []} refl
    (item_broken g.W.Out c.args.out.now spell entry_events (record_in (storage_of s)) []
    c.append_head.new.text.bytes.items head (behind_events (contents s).extensions c.args.marks.now)
    c.entries-entry-items.result.now (records s)
    (c.in_ok-append_head.ensures ∙ ap (λ (l : List ℕ). l ++ print spell head) c.new-bytes.ensures.items)
    (ap (λ (es : List Entry). map (record_in (storage_of s)) es) c.entries-entry-items.ensures) (Err p.0) c.loop-place.place _ refl (omega (arith, c.loop-place-test.true)) c.loop-place.invariant
    (single_told spell c.loop-place.text.bytes.items c.put.new.text.bytes.items _ _
    (rw c.path.ensures at c.in_ok-put.ensures) refl)
    c.in_err-put_block.ensures.err c.in_err-put_block.ensures.has_failed c.in_err-put_block.ensures.loan))

pub returns-in_err-write_behind : goal.returns-in_err-write_behind
unfolding document_events
returns-in_err-write_behind g c =
    let spell = g.P.Printer.spell in
    let s = c.args.state.now in
    let head = head_events (contents s) c.args.checksum in
    let behind = behind_events (contents s).extensions c.args.marks.now in
    let sent = items_sent g.W.Out c.args.out.now spell entry_events (record_in (storage_of s)) []
    c.append_head.new.text.bytes.items head behind c.entries-entry-items.result.now (records s)
    (c.in_ok-append_head.ensures ∙ ap (λ (l : List ℕ). l ++ print spell head) c.new-bytes.ensures.items)
    (ap (λ (es : List Entry). map (record_in (storage_of s)) es) c.entries-entry-items.ensures) c.loop-place.place (omega (arith, c.loop-place-test.false)) c.loop-place.invariant in
    let p = err_from_is_err_and c.from_residual-in_err-write_behind.result
    c.from_residual-in_err-write_behind.ensures.1 in
    rw (p.1, p.2) (text_broken (Err c.in_err-write_behind.field-0.0) refl
    (sent_then spell [] (head ++ listed entry_events (records s)) behind (Err _) sent c.in_err-write_behind.ensures))

pub returns : goal.returns
unfolding document_events
returns g c =
    let spell = g.P.Printer.spell in
    let s = c.args.state.now in
    let head = head_events (contents s) c.args.checksum in
    let behind = behind_events (contents s).extensions c.args.marks.now in
    let sent = items_sent g.W.Out c.args.out.now spell entry_events (record_in (storage_of s)) []
    c.append_head.new.text.bytes.items head behind c.entries-entry-items.result.now (records s)
    (c.in_ok-append_head.ensures ∙ ap (λ (l : List ℕ). l ++ print spell head) c.new-bytes.ensures.items)
    (ap (λ (es : List Entry). map (record_in (storage_of s)) es) c.entries-entry-items.ensures) c.loop-place.place (omega (arith, c.loop-place-test.false)) c.loop-place.invariant in
    text_out c.put_text.result
    (sent_then spell [] (head ++ listed entry_events (records s)) behind (Ok _) sent c.in_ok-write_behind.ensures)
    c.as_slice.ensures.value c.put_text.ensures
