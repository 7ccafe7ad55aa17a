use Rattle.std.proofs.Common.{[], ◌∷◌, ◌++◌}
use Rattle.view_layout.proofs.Grouped.{groups_all, groups_more}
use Rattle.view_layout.proofs.grouping.grouped_behind.Goals as goal

pub loop-next-preserved : goal.loop-next-preserved
loop-next-preserved c = groups_more c.args.first c.args.others.now c.loop-next.next-index _ (c.loop-next.groups.items
    ++ (c.loop-next.last ∷ [])) _ c.loop-next-test.true c.loop-next.invariant c.in_ok-last.ensures

pub returns : goal.returns
returns c = groups_all c.args.first c.args.others.now c.loop-next.next-index
    (c.loop-next.groups.items ++ (c.loop-next.last ∷ [])) c.push.new.self.items c.loop-next-test.false
    c.loop-next.invariant c.in_ok-push.ensures.items
