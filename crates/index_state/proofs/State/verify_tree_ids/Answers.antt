use Rattle.std.proofs.Common.{ℕ, List, ap, rules, ◌∙◌}
use Rattle.ext_tree.specs.Tree.{node_of}
use Rattle.entry_list.specs.Record.{records_in}
use Rattle.index_state.specs.State.{contents, records, storage_of}
use Rattle.index_state.proofs.CachedTrees.{says_of_tree}
use Rattle.index_state.proofs.State.verify_tree_ids.Goals as goal

pub returns-clause-fault : goal.returns-clause-fault
returns-clause-fault c =
    says_of_tree c.verify_tree_ids.result (contents c.args.self.now).extensions.tree (contents c.args.self.now).kind
    (records_in c.path_backing-backing.result.now c.entries.result.now)
    (records c.args.self.now) (node_of c.in-Some.tree.now) (search rules)
    (ap (λ (l : List ℕ). records_in l c.entries.result.now) c.path_backing-backing.ensures
    ∙ ap (records_in (storage_of c.args.self.now)) c.entries.ensures) c.verify_tree_ids.ensures.fault
