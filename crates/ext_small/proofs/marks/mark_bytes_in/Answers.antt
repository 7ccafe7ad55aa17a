use Rattle.std.proofs.Common.{ℕ, List, [], ◌∷◌, ◌++◌}
use Rattle.std.specs.Prelude.{codes}
use Rattle.index_extensions.specs.Walk.{Item, cursor, unread}
use Rattle.index_extensions.proofs.Walks.{step_item, step_more}
use Rattle.ext_small.proofs.MarkContents.{first_step, last_step}
use Rattle.ext_small.proofs.marks.mark_bytes_in.Goals as goal

pub loop-item-preserved : goal.loop-item-preserved
loop-item-preserved c =
    let inv = c.loop-item.invariant in
    let x : List ℕ × List ℕ = (c.in-Some.item.0, c.in-Some.item.1.now) in
    let before = cursor c.loop-item.walk in
    let after = cursor c.next.new.self in
    let i : Item = step_item x before after c.in-Some.ensures.steps in (
      inv.0 ++ i ∷ [],
      record {
        items_are = step_more (unread c.args.walk) inv.0 x before after inv.1.items_are c.in-Some.ensures.steps;
        table = first_step (codes "IEOT") inv.0 i _ _ _ inv.1.table (c.content_of-own.ensures i.size)
            c.or_other-table.ensures;
        end = last_step (codes "EOIE") inv.0 i _ _ _ inv.1.end (c.content_of-own-in-Some.ensures i.size)
            c.or_other-end.ensures;
      },
    )
