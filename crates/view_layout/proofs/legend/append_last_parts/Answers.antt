use Rattle.std.proofs.lemmas.Result.{on_ok_weaker}
use Rattle.view_layout.specs.Legend.{last_part_marks}
use Rattle.view_layout.proofs.Written.{piece_more}
use Rattle.view_layout.proofs.legend.append_last_parts.Goals as goal

pub returns : goal.returns
unfolding last_part_marks
returns c =
    let old = c.args.lines.now.items in
    let first = c.in_ok-append_mark.ensures in
    let second = piece_more old c.append_mark.new.lines.items c.append_mark-2.new.lines.items _ _ first
    c.in_ok-append_mark-2.ensures in
    let third = piece_more old c.append_mark-2.new.lines.items c.append_mark-3.new.lines.items _ _ second
    c.in_ok-append_mark-3.ensures in
    on_ok_weaker c.append_mark-4.result (λ h. piece_more old c.append_mark-3.new.lines.items
    c.append_mark-4.new.lines.items _ _ third h) c.append_mark-4.ensures
