use Rattle.std.proofs.Common.{ℕ, List, Ok, Err, refl, subst}
use Rattle.std.specs.Prelude.{flat_map}
use Rattle.std.proofs.lemmas.Result.{err_from_is_err_and}
use Rattle.base_text.proofs.Blocks.{text_put, texts_broken, texts_then}
use Rattle.base_text.specs.Blocks.{PutsText}
use Rattle.view_layout.specs.Picture.{box, middle_text, row, svg_end}
use Rattle.view_layout.specs.Scale.{drawn_len}
use Rattle.view_layout.proofs.picture.write_drawing.Goals as goal

pub returns-in_err-write_front : goal.returns-in_err-write_front
returns-in_err-write_front g c =
    let each = c.args.each in
    let rs = c.args.entries.now in
    let p = err_from_is_err_and c.from_residual.result c.from_residual.ensures.1 in
    rw (p.1, p.2)
    (texts_broken (Err _) svg_end refl
    (texts_broken {T = Unit {0}} (Err _) (flat_map (row each rs) c.args.boxes.now) refl
    (texts_broken {T = Unit {0}} (Err _) (middle_text each c.args.parts.now) refl
    (texts_broken {T = Unit {0}} (Err _) (flat_map (box each rs (drawn_len c.args.parts.now)) c.args.boxes.now) refl
    c.in_err-write_front.ensures))))

pub returns-in_err-write_boxes : goal.returns-in_err-write_boxes
returns-in_err-write_boxes g c =
    let each = c.args.each in
    let rs = c.args.entries.now in
    let P : ℕ → Type 0 = λ n. PutsText {T = Unit {0}} g.W.Out c.write_front.new.out c.write_boxes.new.out
    (Err c.in_err-write_boxes.field-0.0)
    (flat_map (box each rs n) c.args.boxes.now) in
    let boxes = subst P c.drawn_len.ensures c.in_err-write_boxes.ensures in
    let p = err_from_is_err_and c.from_residual-in_err-write_boxes.result
    c.from_residual-in_err-write_boxes.ensures.1 in
    rw (p.1, p.2)
    (texts_broken (Err _) svg_end refl
    (texts_broken {T = Unit {0}} (Err _) (flat_map (row each rs) c.args.boxes.now) refl
    (texts_broken {T = Unit {0}} (Err _) (middle_text each c.args.parts.now) refl
    (texts_then {T = Unit {0}} (Err _) c.in_ok-write_front.ensures boxes))))

pub returns-in_err-write_middle : goal.returns-in_err-write_middle
returns-in_err-write_middle g c =
    let each = c.args.each in
    let rs = c.args.entries.now in
    let P : ℕ → Type 0 = λ n. PutsText g.W.Out c.write_front.new.out c.write_boxes.new.out (Ok _)
    (flat_map (box each rs n) c.args.boxes.now) in
    let boxes = subst P c.drawn_len.ensures c.in_ok-write_boxes.ensures in
    let p = err_from_is_err_and c.from_residual-in_err-write_middle.result
    c.from_residual-in_err-write_middle.ensures.1 in
    rw (p.1, p.2)
    (texts_broken (Err _) svg_end refl
    (texts_broken {T = Unit {0}} (Err _) (flat_map (row each rs) c.args.boxes.now) refl
    (texts_then {T = Unit {0}} (Err _) (texts_then (Ok _) c.in_ok-write_front.ensures boxes)
    c.in_err-write_middle.ensures)))

pub returns-in_err-write_rows : goal.returns-in_err-write_rows
returns-in_err-write_rows g c =
    let each = c.args.each in
    let rs = c.args.entries.now in
    let P : ℕ → Type 0 = λ n. PutsText g.W.Out c.write_front.new.out c.write_boxes.new.out (Ok _)
    (flat_map (box each rs n) c.args.boxes.now) in
    let boxes = subst P c.drawn_len.ensures c.in_ok-write_boxes.ensures in
    let p = err_from_is_err_and c.from_residual-in_err-write_rows.result
    c.from_residual-in_err-write_rows.ensures.1 in
    rw (p.1, p.2)
    (texts_broken (Err _) svg_end refl
    (texts_then {T = Unit {0}} (Err _) (texts_then (Ok _) (texts_then (Ok _) c.in_ok-write_front.ensures boxes)
    c.in_ok-write_middle.ensures) c.in_err-write_rows.ensures))

pub returns : goal.returns
returns g c =
    let each = c.args.each in
    let rs = c.args.entries.now in
    let P : ℕ → Type 0 = λ n. PutsText g.W.Out c.write_front.new.out c.write_boxes.new.out (Ok _)
    (flat_map (box each rs n) c.args.boxes.now) in
    let boxes = subst P c.drawn_len.ensures c.in_ok-write_boxes.ensures in
    let Q : List ℕ → Type 0 = λ t. PutsText g.W.Out c.write_rows.new.out c.put_text.new.out c.put_text.result t in
    let end = subst Q c.svg_end.ensures (text_put c.put_text.result c.put_text.ensures) in
    texts_then c.put_text.result
    (texts_then (Ok _) (texts_then (Ok _) (texts_then (Ok _) c.in_ok-write_front.ensures boxes)
    c.in_ok-write_middle.ensures) c.in_ok-write_rows.ensures) end
