use Rattle.std.proofs.Common.{rules}
use Rattle.std.proofs.lemmas.Result.{on_ok_weaker}
use Rattle.entry_list.proofs.Sorting.{sorted_records, stable_entries, stable_records}
use Rattle.entry_list.proofs.sort.sort.Goals as goal

pub returns-clause-ordered : goal.returns-clause-ordered
returns-clause-ordered c =
    on_ok_weaker _ (λ s. sorted_records _ _ c.args.backing.now (λ a r f' k. search rules) c.sort_by.new.self.items s)
    c.sort_by.ensures.sorted

pub returns-clause-stable : goal.returns-clause-stable
returns-clause-stable c = stable_entries _ _ c.args.backing.now
    (λ a r f' k. search rules) c.args.entries.now.items c.sort_by.new.self.items c.sort_by.ensures.stable

pub returns-clause-stable_records : goal.returns-clause-stable_records
returns-clause-stable_records c =
    stable_records c.args.backing.now c.args.entries.now.items c.sort_by.new.self.items (returns-clause-stable c)
