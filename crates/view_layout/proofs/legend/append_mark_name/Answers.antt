use Rattle.std.proofs.lemmas.Result.{on_ok_weaker}
use Rattle.view_layout.specs.Legend.{mark_name}
use Rattle.view_layout.proofs.Written.{piece_more}
use Rattle.view_layout.proofs.legend.append_mark_name.Goals as goal

pub returns : goal.returns
unfolding mark_name
returns c =
    let old = c.args.lines.now.items in
    let first = c.in_ok-append_piece.ensures in
    let second = piece_more old c.append_piece.new.lines.items c.append_piece-2.new.lines.items _ _ first
    c.in_ok-append_piece-2.ensures in
    on_ok_weaker c.append_piece-3.result (λ h. piece_more old c.append_piece-2.new.lines.items
    c.append_piece-3.new.lines.items _ _ second h) c.append_piece-3.ensures
