use Rattle.std.proofs.Common.{map, ◌∙◌, length, sym, ap, subst}
use Rattle.std.specs.List.Sorted.{IsPermutation}
use Rattle.std.proofs.lemmas.List.{length-map}
use Rattle.entry_lookup.specs.Folded.{is_at_folded}
use Rattle.entry_lookup.specs.NameSteps.{named_value, path_names}
use Rattle.entry_lookup.proofs.TableMade.{keys_are, table_made, path_keys_length, paths_pass, paths_have, paths_alike}
use Rattle.entry_lookup.proofs.TableMade.{AreNamedIn}
use Rattle.entry_lookup.proofs.Visits.{visits_sorted}
use Rattle.entry_lookup.proofs.names.path_table.Goals as goal

pub returns-clause-table : goal.returns-clause-table
returns-clause-table c =
    let ignore_case = c.args.ignore_case in
    let names = c.in_ok-names.names.items in
    let rs = c.args.entries.now in (
      table_made ignore_case path_names (is_at_folded ignore_case) rs (map named_value names)
          (map named_value c.sort_names.new.names.items) (subst (AreNamedIn path_names rs) (sym c.in_ok-names.ensures)
          (keys_are path_names rs)) c.sort_names.ensures.permutation c.sort_names.ensures.ordered
          (paths_pass ignore_case) (paths_have ignore_case) (paths_alike ignore_case),
      c.sort_names.ensures.len ∙ sym (length-map names named_value) ∙ ap length c.in_ok-names.ensures
          ∙ path_keys_length 0 rs,
    )

pub returns-clause-visits : goal.returns-clause-visits
returns-clause-visits c =
    let names = c.in_ok-names.names.items in
    let rs = c.args.entries.now in
    let sorted = c.sort_names.new.names.items in
    visits_sorted c.args.ignore_case rs (map named_value sorted) (subst
    (λ (ks : _). IsPermutation ks (map named_value sorted)) c.in_ok-names.ensures c.sort_names.ensures.permutation)
    (length-map sorted named_value ∙ c.sort_names.ensures.len ∙ sym (length-map names named_value)
    ∙ ap length c.in_ok-names.ensures ∙ path_keys_length 0 rs)
    c.sort_names.ensures.ordered
