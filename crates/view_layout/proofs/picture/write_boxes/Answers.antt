use Rattle.std.proofs.Common.{ℕ, List}
use Rattle.std.proofs.lemmas.Result.{err_from_is_err_and}
use Rattle.view_layout.specs.declared.part.Part.{Part}
use Rattle.base_text.proofs.Printed.{first_lines, line_broken, line_more, lines_out, no_line}
use Rattle.view_layout.specs.Picture.{box}
use Rattle.view_layout.proofs.picture.write_boxes.Goals as goal

pub loop-part-init : goal.loop-part-init
loop-part-init g c =
    let f : Part → List ℕ = box c.args.each c.args.entries.now c.args.len in
    first_lines f c.args.boxes.now c.new-lines.ensures.items

pub loop-part-preserved : goal.loop-part-preserved
loop-part-preserved g c =
    let f : Part → List ℕ = box c.args.each c.args.entries.now c.args.len in
    line_more f c.args.boxes.now c.loop-part.part-index _ c.loop-part-test.true c.loop-part.invariant
    c.in_ok-append_box.ensures c.in_ok-put_block.ensures.ok c.in_ok-put_block.ensures.has_failed
    c.in_ok-put_block.ensures.loan

pub returns-in_err-append_box : goal.returns-in_err-append_box
returns-in_err-append_box g c =
    let f : Part → List ℕ = box c.args.each c.args.entries.now c.args.len in
    let r = c.from_residual.result in
    let p = err_from_is_err_and r c.from_residual.ensures.1 in
    no_line r f c.args.boxes.now c.loop-part.part-index p.1 p.2 c.loop-part.invariant

pub returns-in_err-put_block : goal.returns-in_err-put_block
returns-in_err-put_block g c =
    let f : Part → List ℕ = box c.args.each c.args.entries.now c.args.len in
    let r = c.from_residual-in_err-put_block.result in
    let p = err_from_is_err_and r c.from_residual-in_err-put_block.ensures.1 in
    line_broken r f c.args.boxes.now c.loop-part.part-index _ p.1 c.loop-part-test.true c.loop-part.invariant
    c.in_ok-append_box.ensures c.in_err-put_block.ensures.err c.in_err-put_block.ensures.has_failed
    c.in_err-put_block.ensures.loan

pub returns : goal.returns
returns g c =
    let f : Part → List ℕ = box c.args.each c.args.entries.now c.args.len in
    lines_out c.put_text.result f c.args.boxes.now c.loop-part.part-index c.loop-part-test.false c.loop-part.invariant
    c.as_slice.ensures.value c.put_text.ensures
