use Rattle.std.proofs.Common.{rules}
use Rattle.std.proofs.lemmas.List.Sorted.{IsPermutation-map}
use Rattle.entry_lookup.specs.NameSteps.{named_value}
use Rattle.entry_lookup.proofs.NamedLists.{sorted_named}
use Rattle.entry_lookup.proofs.names.sort_names.Goals as goal

pub returns-clause-permutation : goal.returns-clause-permutation
returns-clause-permutation c = IsPermutation-map named_value c.args.names.now.items c.sort_unstable_by.new.self.items
    c.sort_unstable_by.ensures.permutation

pub returns-clause-ordered : goal.returns-clause-ordered
returns-clause-ordered c = sorted_named c.args.ignore_case _ _ c.sort_unstable_by.new.self.items
    c.sort_unstable_by.ensures.sorted (λ a r f' k. search rules)
