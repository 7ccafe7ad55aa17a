use Rattle.std.proofs.Common.{◌∙◌, get_or, refl}
use Rattle.view_strict.proofs.Besides.{sides_of}
use Rattle.view_strict.proofs.beside.has_sides_beside.Goals as goal

pub returns-then-is_merged : goal.returns-then-is_merged
returns-then-is_merged c d =
    let rs = c.args.entries.now in
    sides_of (get_or rs c.args.place d) rs c.path.result.now c.has_sides.result
    (c.is_merged.ensures d ∙ c.if-is_merged.true) (c.path.ensures d) (c.has_sides.ensures c.requires.ordered)

pub returns : goal.returns
returns c d = rw (c.is_merged.ensures d ∙ c.if-is_merged.false) refl
