use Rattle.std.proofs.Common.{rules, ◌∙◌}
use Rattle.std.specs.Prelude.{nat_le}
use Rattle.std.proofs.lemmas.Fn.{always_returns_same}
use Rattle.gix_index.specs.State.{records}
use Rattle.view_salvage.proofs.Choosing.{left_first}
use Rattle.view_salvage.proofs.Saved.{index_left}
use Rattle.view_salvage.proofs.chosen.keep_first.Goals as goal

pub returns-clause-first : goal.returns-clause-first
returns-clause-first c =
    c.remove_entries.ensures.filtered_by_place (λ place r. nat_le c.args.len place)
    (always_returns_same _ _ _ (λ a r f called. search rules))
    ∙ left_first c.args.len (records c.args.state.now)

pub returns-clause-index : goal.returns-clause-index
returns-clause-index c =
    let left = c.remove_entries.ensures in
    index_left c.args.state.now c.remove_entries.new.self left.others
    (left.placed (always_returns_same _ _ _ (λ a r f called. search rules)))
    (left.storable (always_returns_same _ _ _ (λ a r f called. search rules)))
