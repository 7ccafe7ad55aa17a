-- The merged and the unmerged entries of a list. Public clauses cite none of these.
use Rattle.std.specs.Prelude.{List, filter, not}
use Rattle.entry_list.specs.declared.Entry.{Entry}
use Rattle.tree_encode.specs.Staged.{is_unmerged}

abbrev pub unmerged_entries : List Entry → List Entry
unmerged_entries es = filter (λ e. is_unmerged e.flags.0) es

abbrev pub merged_entries : List Entry → List Entry
merged_entries es = filter (λ e. not (is_unmerged e.flags.0)) es
