use Rattle.std.proofs.lemmas.Result.{on_ok_weaker}
use Rattle.view_layout.specs.Picture.{title_text}
use Rattle.view_layout.proofs.Written.{piece_more}
use Rattle.view_layout.proofs.picture.append_title_text.Goals as goal

pub returns : goal.returns
unfolding title_text
returns c =
    let old = c.args.lines.now.items in
    let first = c.in_ok-append_piece.ensures in
    on_ok_weaker c.append_piece-2.result (λ h. piece_more old c.append_piece.new.lines.items
    c.append_piece-2.new.lines.items _ _ first h) c.append_piece-2.ensures
