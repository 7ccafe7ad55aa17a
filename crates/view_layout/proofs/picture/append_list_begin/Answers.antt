use Rattle.std.proofs.lemmas.Result.{on_ok_weaker}
use Rattle.view_layout.specs.Picture.{list_begin}
use Rattle.view_layout.proofs.Written.{piece_more}
use Rattle.view_layout.proofs.picture.append_list_begin.Goals as goal

pub returns : goal.returns
unfolding list_begin
returns c =
    let old = c.args.lines.now.items in
    let first = c.in_ok-append_piece.ensures in
    let second = piece_more old c.append_piece.new.lines.items c.append_piece-2.new.lines.items _ _ first
    c.in_ok-append_piece-2.ensures in
    let third = piece_more old c.append_piece-2.new.lines.items c.append_piece-3.new.lines.items _ _ second
    c.in_ok-append_piece-3.ensures in
    on_ok_weaker c.append_piece-4.result (λ h. piece_more old c.append_piece-3.new.lines.items
    c.append_piece-4.new.lines.items _ _ third h) c.append_piece-4.ensures
