use Rattle.std.proofs.Common.{List, ℕ, subst}
use Rattle.std.proofs.lemmas.Result.{err_from_is_err_and}
use Rattle.entry_list.specs.Record.{Record}
use Rattle.view_layout.specs.Lines.{map_line, map_lines}
use Rattle.view_layout.specs.declared.part.Part.{Part}
use Rattle.base_text.proofs.Printed.{first_lines, line_broken, line_more, lines_out, no_line}
use Rattle.base_text.specs.Blocks.{PutsText}
use Rattle.view_layout.proofs.map.write_map.Goals as goal

pub loop-part-init : goal.loop-part-init
loop-part-init g c =
    let f : Part → List ℕ = map_line c.args.style c.as_slice-entries.result in
    first_lines f c.args.parts.now c.in_ok-lines.ensures.items

pub loop-part-preserved : goal.loop-part-preserved
loop-part-preserved g c =
    let f : Part → List ℕ = map_line c.args.style c.as_slice-entries.result in
    line_more f c.args.parts.now c.loop-part.part-index _ c.loop-part-test.true c.loop-part.invariant
    c.in_ok-append_line.ensures c.in_ok-put_block.ensures.ok c.in_ok-put_block.ensures.has_failed
    c.in_ok-put_block.ensures.loan

pub returns-in_err-append_line : goal.returns-in_err-append_line
returns-in_err-append_line g c =
    let f : Part → List ℕ = map_line c.args.style c.as_slice-entries.result in
    let r = c.from_residual-in_err-append_line.result in
    let p = err_from_is_err_and r c.from_residual-in_err-append_line.ensures.1 in
    let P : List Record → Type 0 = λ rs. PutsText g.W.Out c.args.out.now c.loop-part.out r (map_lines c.args.style rs c.args.parts.now) in
    subst P c.as_slice-entries.ensures
    (no_line r f c.args.parts.now c.loop-part.part-index p.1 p.2 c.loop-part.invariant)

pub returns-in_err-put_block : goal.returns-in_err-put_block
returns-in_err-put_block g c =
    let f : Part → List ℕ = map_line c.args.style c.as_slice-entries.result in
    let r = c.from_residual-in_err-put_block.result in
    let p = err_from_is_err_and r c.from_residual-in_err-put_block.ensures.1 in
    let P : List Record → Type 0 = λ rs. PutsText g.W.Out c.args.out.now c.put_block.new.out r (map_lines c.args.style rs c.args.parts.now) in
    subst P c.as_slice-entries.ensures
    (line_broken r f c.args.parts.now c.loop-part.part-index _ p.1 c.loop-part-test.true c.loop-part.invariant
    c.in_ok-append_line.ensures c.in_err-put_block.ensures.err c.in_err-put_block.ensures.has_failed
    c.in_err-put_block.ensures.loan)

pub returns : goal.returns
returns g c =
    let f : Part → List ℕ = map_line c.args.style c.as_slice-entries.result in
    let r = c.put_text.result in
    let P : List Record → Type 0 = λ rs. PutsText g.W.Out c.args.out.now c.put_text.new.out r (map_lines c.args.style rs c.args.parts.now) in
    subst P c.as_slice-entries.ensures
    (lines_out r f c.args.parts.now c.loop-part.part-index c.loop-part-test.false c.loop-part.invariant
    c.as_slice.ensures.value c.put_text.ensures)
