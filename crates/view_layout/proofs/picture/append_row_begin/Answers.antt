use Rattle.std.proofs.Common.{◌∙◌, ap}
use Rattle.std.proofs.lemmas.Result.{on_ok_weaker}
use Rattle.view_layout.specs.Picture.{row_begin}
use Rattle.view_layout.specs.Shade.{ink}
use Rattle.view_layout.proofs.Written.{pair_more, piece_is, piece_more}
use Rattle.view_layout.proofs.picture.append_row_begin.Goals as goal

pub returns : goal.returns
unfolding row_begin
returns c =
    let old = c.args.lines.now.items in
    let first = c.in_ok-append_piece.ensures in
    let second = piece_more old c.append_piece.new.lines.items c.append_piece-2.new.lines.items _ _ first
    (piece_is c.append_piece.new.lines.items c.append_piece-2.new.lines.items _ _
    (c.ink.ensures ∙ ap ink c.shade_of.ensures) c.in_ok-append_piece-2.ensures) in
    on_ok_weaker c.append_number.result (λ h. pair_more old c.append_piece-2.new.lines.items
    c.append_number.new.lines.items _ _ _ second h) c.append_number.ensures
