use Rattle.std.proofs.Common.{◌≡◌, ◌++◌, ◌∙◌, ap}
use Rattle.std.specs.Prelude.{codes, decimal}
use Rattle.std.proofs.lemmas.Result.{on_ok_weaker}
use Rattle.view_layout.specs.Picture.{box_shape}
use Rattle.view_layout.specs.Scale.{box_begin, box_width}
use Rattle.view_layout.specs.Shade.{ink, shade_of}
use Rattle.view_layout.proofs.Written.{number_is, pair_more, piece_is, piece_more}
use Rattle.view_layout.proofs.picture.append_shape.Goals as goal

pub returns : goal.returns
unfolding box_shape
returns c =
    let old = c.args.lines.now.items in
    let begin = box_begin c.args.len c.args.part in
    let width = box_width c.args.len c.args.part in
    let colour = ink (shade_of c.args.part.what) in
    let a = c.append_number.new.lines.items in
    let b = c.append_number-2.new.lines.items in
    let d = c.append_piece.new.lines.items in
    let e = c.append_piece-2.new.lines.items in
    let x = codes "<rect x=\"" ++ decimal begin in
    let y = codes "\" width=\"" in
    let z = codes "\" height=\"600\" fill=\"" in
    let first : a ≡ old ++ x =
    number_is old a (codes "<rect x=\"") c.box_begin.result begin c.box_begin.ensures c.in_ok-append_number.ensures in
    let second : b ≡ a ++ (y ++ decimal width) =
    number_is a b y c.box_width.result width c.box_width.ensures c.in_ok-append_number-2.ensures in
    let sized : b ≡ old ++ ((x ++ y) ++ decimal width) = pair_more old a b x y (decimal width) first second in
    let third : d ≡ old ++ (((x ++ y) ++ decimal width) ++ z) =
    piece_more old b d ((x ++ y) ++ decimal width) z sized c.in_ok-append_piece.ensures in
    let fourth : e ≡ old ++ ((((x ++ y) ++ decimal width) ++ z) ++ colour) =
    piece_more old d e (((x ++ y) ++ decimal width) ++ z) colour third
    (piece_is d e c.ink.result.now colour (c.ink.ensures ∙ ap ink c.shade_of.ensures) c.in_ok-append_piece-2.ensures) in
    on_ok_weaker c.append_piece-3.result (λ h. piece_more old e c.append_piece-3.new.lines.items
    ((((x ++ y) ++ decimal width) ++ z) ++ colour) (codes "\">") fourth h) c.append_piece-3.ensures
