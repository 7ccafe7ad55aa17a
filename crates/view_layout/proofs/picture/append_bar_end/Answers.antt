use Rattle.std.proofs.lemmas.Result.{on_ok_weaker}
use Rattle.std.specs.Prelude.{codes, decimal}
use Rattle.view_layout.specs.Picture.{bar_end}
use Rattle.view_layout.proofs.Written.{pair_more, piece_more}
use Rattle.view_layout.proofs.picture.append_bar_end.Goals as goal

pub returns : goal.returns
unfolding bar_end
returns c =
    let old = c.args.lines.now.items in
    let first = c.in_ok-append_piece.ensures in
    let second = pair_more old c.append_piece.new.lines.items c.append_number.new.lines.items _
    (codes "<text x=\"9200\" y=\"1400\" text-anchor=\"end\" fill=\"#5f6368\">") (decimal c.args.bytes) first
    c.in_ok-append_number.ensures in
    on_ok_weaker c.append_piece-2.result (λ h. piece_more old c.append_number.new.lines.items
    c.append_piece-2.new.lines.items _ _ second h) c.append_piece-2.ensures
