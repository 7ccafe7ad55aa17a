use Rattle.std.proofs.lemmas.Result.{on_ok_weaker}
use Rattle.view_layout.specs.Picture.{totals}
use Rattle.view_layout.proofs.Written.{pair_more, piece_more}
use Rattle.view_layout.proofs.picture.append_totals.Goals as goal

pub returns : goal.returns
unfolding totals
returns c =
    let old = c.args.lines.now.items in
    let first = c.in_ok-append_number.ensures in
    let second = pair_more old c.append_number.new.lines.items c.append_number-2.new.lines.items _ _ _ first
    c.in_ok-append_number-2.ensures in
    let third = pair_more old c.append_number-2.new.lines.items c.append_number-3.new.lines.items _ _ _ second
    c.in_ok-append_number-3.ensures in
    on_ok_weaker c.append_piece.result (λ h. piece_more old c.append_number-3.new.lines.items
    c.append_piece.new.lines.items _ _ third h) c.append_piece.ensures
