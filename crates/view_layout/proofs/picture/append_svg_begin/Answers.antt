use Rattle.std.proofs.lemmas.Result.{on_ok_weaker}
use Rattle.view_layout.specs.Picture.{svg_begin}
use Rattle.view_layout.proofs.Written.{pair_more, piece_more}
use Rattle.view_layout.proofs.picture.append_svg_begin.Goals as goal

pub returns : goal.returns
unfolding svg_begin
returns c =
    let old = c.args.lines.now.items in
    let first = c.in_ok-append_number.ensures in
    let second = pair_more old c.append_number.new.lines.items c.append_number-2.new.lines.items _ _ _ first
    c.in_ok-append_number-2.ensures in
    on_ok_weaker c.append_piece.result (λ h. piece_more old c.append_number-2.new.lines.items
    c.append_piece.new.lines.items _ _ second h) c.append_piece.ensures
