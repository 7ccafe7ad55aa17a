use Rattle.std.proofs.Common.{rules, ◌∙◌, ap, inr, subst, sym}
use Rattle.std.specs.List.Sorted.{IsPermutation, IsStableBy}
use Rattle.entry_edit.specs.Reorders.{AreInOrder, are_nested, is_change_before}
use Rattle.entry_edit.proofs.Orderings.{copied, nested_too, sorted_changes, stable_changes, unnested_from}
use Rattle.entry_edit.proofs.order.in_order.Goals as goal

pub are_nested-requires : goal.are_nested-requires
are_nested-requires c = subst AreInOrder (sym c.deref.ensures.value)
    (sorted_changes _ _ (λ a r f' k. search rules) c.sort_by.new.self.items c.in_ok-sort_by.ensures.sorted)

pub returns-then-are_nested-clause-none : goal.returns-then-are_nested-clause-none
returns-then-are_nested-clause-none c = λ none.
    let cs = c.args.changes.now in
    let sorted = c.sort_by.new.self.items in
    let same = copied _ cs c.extend_from_slice.new.self.items c.in_ok-extend_from_slice.ensures.items
    c.in_ok-ordered.ensures.items in
    inr (nested_too cs sorted (subst (λ l. IsPermutation l sorted) same c.sort_by.ensures.permutation)
    (ap are_nested (sym c.deref.ensures.value) ∙ sym c.are_nested.ensures ∙ c.if-are_nested.true))

pub returns-clause-same : goal.returns-clause-same
returns-clause-same c =
    let cs = c.args.changes.now in
    let sorted = c.sort_by.new.self.items in
    let same = copied _ cs c.extend_from_slice.new.self.items c.in_ok-extend_from_slice.ensures.items
    c.in_ok-ordered.ensures.items in
    record {
      same = subst (λ l. IsPermutation l sorted) same c.sort_by.ensures.permutation;
      stable = subst (λ l. IsStableBy is_change_before l sorted) same
          (stable_changes _ _ (λ a r f' k. search rules) _ sorted c.sort_by.ensures.stable);
      unnested =
          unnested_from sorted (ap are_nested (sym c.deref.ensures.value) ∙ sym c.are_nested.ensures ∙ c.if-are_nested.false);
    }
