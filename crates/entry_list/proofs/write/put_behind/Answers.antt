use Rattle.std.proofs.Common.{◌≡◌, ◌++◌, ◌∙◌, List, ℕ, Ok, length, take, ap, append-nil, refl, sym}
use Rattle.index_parts.specs.Gathered.{Gathered}
use Rattle.index_parts.proofs.Gatherings.{gathers_none, held_before}
use Rattle.index_parts.proofs.Puts.{puts_broken, puts_stopped_after, puts_then}
use Rattle.index_parts.proofs.Taking.{on_err}
use Rattle.entry_list.specs.EntryImage.{entry_in}
use Rattle.entry_list.specs.Record.{record_in}
use Rattle.entry_list.proofs.write.put_behind.Goals as goal

pub returns-in_err-put-clause-fault : goal.returns-in_err-put-clause-fault
returns-in_err-put-clause-fault g c =
    let old = c.args.block.now.bytes in
    let back : take (length old) c.put.new.out.bytes ≡ old =
    held_before _ _ c.args.block.now c.put.new.out old c.put.new.out.bytes _ c.put.result
    (sym c.is_ok.ensures.value ∙ c.if-is_ok.false) refl refl c.put.ensures.takes in
    let piece : c.as_slice.result.now ≡ old = c.as_slice.ensures ∙ ap (λ (h : Gathered). h.bytes) c.cut_to.ensures
    ∙ ap (λ n. take n c.put.new.out.bytes) c.len-len.ensures ∙ back in
    let entry = entry_in c.args.version c.args.previous.now (record_in c.args.storage.now c.args.entry.now) in
    on_err _ (puts_broken c.from_residual.result entry c.from_residual.ensures.0 (ap (λ (l : List ℕ). l ++ entry) piece)
    c.in_err-put.ensures.bytes c.in_err-put.ensures.has_failed c.in_err-put.ensures.loan)

pub returns-in_err-put-2-clause-fault : goal.returns-in_err-put-2-clause-fault
returns-in_err-put-2-clause-fault g c =
    let old = c.args.block.now.bytes in
    let r = c.from_residual-in_err-put-2.result in
    let back : take (length old) c.put.new.out.bytes ≡ old =
    held_before _ _ c.args.block.now c.put.new.out old c.put.new.out.bytes _ c.put.result
    (sym c.is_ok.ensures.value ∙ c.if-is_ok.false) refl refl c.put.ensures.takes in
    let piece : c.as_slice.result.now ≡ old = c.as_slice.ensures ∙ ap (λ (h : Gathered). h.bytes) c.cut_to.ensures
    ∙ ap (λ n. take n c.put.new.out.bytes) c.len-len.ensures ∙ back in
    let entry = entry_in c.args.version c.args.previous.now (record_in c.args.storage.now c.args.entry.now) in
    let took = rw piece at c.in_ok-put.ensures.bytes in
    on_err r (puts_stopped_after r _ c.from_residual-in_err-put-2.ensures.0 (append-nil (old ++ entry)) took
    c.in_ok-put.ensures.loan c.in_err-put-2.ensures)

pub returns-clause-gathered : goal.returns-clause-gathered
returns-clause-gathered g c =
    let old = c.args.block.now.bytes in
    let back : take (length old) c.put.new.out.bytes ≡ old =
    held_before _ _ c.args.block.now c.put.new.out old c.put.new.out.bytes _ c.put.result
    (sym c.is_ok.ensures.value ∙ c.if-is_ok.false) refl refl c.put.ensures.takes in
    let piece : c.as_slice.result.now ≡ old = c.as_slice.ensures ∙ ap (λ (h : Gathered). h.bytes) c.cut_to.ensures
    ∙ ap (λ n. take n c.put.new.out.bytes) c.len-len.ensures ∙ back in
    let took = rw piece at c.in_ok-put.ensures.bytes in
    let none = ap (λ (h : Gathered). h.bytes) c.cut_to-2.ensures in
    gathers_none (Ok c.in_ok-put-2.field-0) c.cut_to-2.new.self.bytes none
    (puts_then (Ok c.in_ok-put-2.field-0) took c.in_ok-put.ensures.has_failed c.in_ok-put.ensures.loan
    c.in_ok-put-2.ensures)
