use Rattle.entry_lookup.specs.NameSteps.{name_order}
use Rattle.entry_lookup.specs.Folded.{folded}
use Rattle.entry_lookup.proofs.TableFound.{name_at}
use Rattle.entry_lookup.proofs.names.NamedSearchOrdered.compare.Goals as goal

pub returns : goal.returns
returns c = name_at (λ n. name_order c.args.self.now.outer (folded c.args.self.now.ignore_case n)
    (folded c.args.self.now.ignore_case c.args.self.now.name.now)) c.args.self.now.names.now c.args.place _
    c.compare_names.result c.requires c.compare_names.ensures
