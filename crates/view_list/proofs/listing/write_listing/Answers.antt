use Rattle.std.proofs.Common.{◌≡◌, ℕ, List, sym, ◌∙◌, ap, subst}
use Rattle.std.specs.Prelude.{flat_map}
use Rattle.std.proofs.lemmas.List.Folds.{flat_map-map}
use Rattle.std.proofs.lemmas.Result.{err_from_is_err_and}
use Rattle.entry_list.specs.Record.{record_in, records_in}
use Rattle.index_state.specs.State.{storage_of, entries_of}
use Rattle.entry_list.specs.declared.Entry.{Entry}
use Rattle.index_state.specs.declared.State.{State}
use Rattle.view_list.specs.Line.{line_of}
use Rattle.base_text.specs.Blocks.{PutsText}
use Rattle.base_text.specs.declared.lines.Lines.{Lines}
use Rattle.base_text.proofs.Printed.{first_lines, line_broken, line_more, lines_out, no_line}
use Rattle.view_list.proofs.listing.write_listing.Goals as goal

-- the lines of the entries are those of the records
lines_of : (style : Lines) (s : State) (entries : List Entry) → entries ≡ entries_of s
    → flat_map (λ e. line_of style (record_in (storage_of s) e)) entries
    ≡ flat_map (line_of style) (records_in (storage_of s) (entries_of s))
lines_of style s entries all =
    ap (flat_map (λ e. line_of style (record_in (storage_of s) e))) all
    ∙ sym (flat_map-map (line_of style) (record_in (storage_of s)) (entries_of s))

pub loop-entry-init : goal.loop-entry-init
loop-entry-init g c =
    let f : Entry → List ℕ = λ e. line_of c.args.style (record_in (storage_of c.args.state.now) e) in
    first_lines f c.entries-entry-items.result.now c.in_ok-lines.ensures.items

pub loop-entry-preserved : goal.loop-entry-preserved
loop-entry-preserved g c =
    let f : Entry → List ℕ = λ e. line_of c.args.style (record_in (storage_of c.args.state.now) e) in
    line_more f c.entries-entry-items.result.now c.loop-entry.entry-index _ c.loop-entry-test.true
    c.loop-entry.invariant c.in_ok-append_line.ensures c.in_ok-put_block.ensures.ok
    c.in_ok-put_block.ensures.has_failed c.in_ok-put_block.ensures.loan

pub returns-in_err-append_line : goal.returns-in_err-append_line
returns-in_err-append_line g c =
    let f : Entry → List ℕ = λ e. line_of c.args.style (record_in (storage_of c.args.state.now) e) in
    let r = c.from_residual-in_err-append_line.result in
    let p = err_from_is_err_and r c.from_residual-in_err-append_line.ensures.1 in
    let P : List ℕ → Type 0 = λ t. PutsText g.W.Out c.args.out.now c.loop-entry.out r t in
    subst P (lines_of c.args.style c.args.state.now _ c.entries-entry-items.ensures)
    (no_line r f c.entries-entry-items.result.now c.loop-entry.entry-index p.1 p.2 c.loop-entry.invariant)

pub returns-in_err-put_block : goal.returns-in_err-put_block
returns-in_err-put_block g c =
    let f : Entry → List ℕ = λ e. line_of c.args.style (record_in (storage_of c.args.state.now) e) in
    let r = c.from_residual-in_err-put_block.result in
    let p = err_from_is_err_and r c.from_residual-in_err-put_block.ensures.1 in
    let P : List ℕ → Type 0 = λ t. PutsText g.W.Out c.args.out.now c.put_block.new.out r t in
    subst P (lines_of c.args.style c.args.state.now _ c.entries-entry-items.ensures)
    (line_broken r f c.entries-entry-items.result.now c.loop-entry.entry-index _ p.1 c.loop-entry-test.true
    c.loop-entry.invariant c.in_ok-append_line.ensures c.in_err-put_block.ensures.err
    c.in_err-put_block.ensures.has_failed c.in_err-put_block.ensures.loan)

pub returns : goal.returns
returns g c =
    let f : Entry → List ℕ = λ e. line_of c.args.style (record_in (storage_of c.args.state.now) e) in
    let r = c.put_text.result in
    let P : List ℕ → Type 0 = λ t. PutsText g.W.Out c.args.out.now c.put_text.new.out r t in
    subst P (lines_of c.args.style c.args.state.now _ c.entries-entry-items.ensures)
    (lines_out r f c.entries-entry-items.result.now c.loop-entry.entry-index c.loop-entry-test.false
    c.loop-entry.invariant c.as_slice.ensures.value c.put_text.ensures)
