use Rattle.std.proofs.lemmas.Result.{on_ok_weaker}
use Rattle.view_layout.specs.Picture.{box_title}
use Rattle.view_layout.proofs.Written.{pair_more, piece_more}
use Rattle.view_layout.proofs.picture.append_title.Goals as goal

pub returns : goal.returns
unfolding box_title
returns c =
    let old = c.args.lines.now.items in
    let first = c.in_ok-append_piece.ensures in
    let second = piece_more old c.append_piece.new.lines.items c.append_words.new.lines.items _ _ first
    c.in_ok-append_words.ensures in
    let third = pair_more old c.append_words.new.lines.items c.append_number.new.lines.items _ _ _ second
    c.in_ok-append_number.ensures in
    let fourth = pair_more old c.append_number.new.lines.items c.append_number-2.new.lines.items _ _ _ third
    c.in_ok-append_number-2.ensures in
    on_ok_weaker c.append_piece-2.result (λ h. piece_more old c.append_number-2.new.lines.items
    c.append_piece-2.new.lines.items _ _ fourth h) c.append_piece-2.ensures
