use Rattle.index_edit.proofs.Nexts.{known_after, known_first}
use Rattle.index_edit.proofs.update.known_at.Goals as goal

pub returns-then-place-eq0 : goal.returns-then-place-eq0
returns-then-place-eq0 c = λ d rs. known_first _ c.args.changes.now c.args.place c.if-place-eq0.true rs

pub returns : goal.returns
returns c = λ d rs. known_after c.args.changes.now c.args.place _ _ d c.clear_after.result c.if-place-eq0.false
    c.requires c.clear_after.ensures rs
