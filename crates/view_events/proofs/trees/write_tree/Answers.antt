use Rattle.std.proofs.Common.{None}
use Rattle.view_events.specs.Trees.{cached_tree_events}
use Rattle.view_events.proofs.Chain.{done_as, first_sent}
use Rattle.view_events.proofs.Steps.{one_told}
use Rattle.view_events.proofs.trees.write_tree.Goals as goal

pub returns-in_default : goal.returns-in_default
returns-in_default g c =
    let spell = g.P.Printer.spell in
    rw c.in_default.is (done_as (first_sent spell c.args.text.now.bytes.items (cached_tree_events None)
    (one_told spell _ _ c.in_ok-put.ensures)))
