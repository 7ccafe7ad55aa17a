use Rattle.std.proofs.Common.{ap, rules, true}
use Rattle.std.proofs.lemmas.Fn.{always_returns_same}
use Rattle.gix_index.specs.Contents.{Contents}
use Rattle.gix_index.specs.State.{contents}
use Rattle.capi_table.proofs.Rows.{none_left, none_placed}
use Rattle.capi_table.proofs.over.remove_all.Goals as goal

pub returns-clause-value : goal.returns-clause-value
returns-clause-value c =
    none_left (contents c.args.state.now) (contents c.remove_entries.new.self) c.remove_entries.ensures.others
    (c.remove_entries.ensures.filtered (λ r. true) (always_returns_same _ _ _ (λ a r f called. search rules)))

pub returns-clause-placed : goal.returns-clause-placed
returns-clause-placed c =
    none_placed c.remove_entries.new.self (ap (λ (v : Contents). v.records)
    (none_left (contents c.args.state.now) (contents c.remove_entries.new.self) c.remove_entries.ensures.others
    (c.remove_entries.ensures.filtered (λ r. true) (always_returns_same _ _ _ (λ a r f called. search rules)))))
