use Rattle.std.proofs.Common.{rules}
use Rattle.std.proofs.lemmas.Fn.{always_returns_same}
use Rattle.view_salvage.specs.Choice.{is_nameless}
use Rattle.view_salvage.proofs.Saved.{index_left}
use Rattle.view_salvage.proofs.chosen.keep_named.Goals as goal

pub returns-clause-named : goal.returns-clause-named
returns-clause-named c =
    c.remove_entries.ensures.filtered is_nameless (always_returns_same _ _ _ (λ a r f called. search rules))

pub returns-clause-index : goal.returns-clause-index
returns-clause-index c =
    let left = c.remove_entries.ensures in
    index_left c.args.state.now c.remove_entries.new.self left.others
    (left.placed (always_returns_same _ _ _ (λ a r f called. search rules)))
    (left.storable (always_returns_same _ _ _ (λ a r f called. search rules)))
