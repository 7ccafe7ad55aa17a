use Rattle.std.proofs.Common.{rules, ◌≡◌, ◌∙◌, ℕ, All, List, length, sym, None, Option, Some, ap, subst}
use Rattle.std.specs.declared.ops.Range.{Range}
use Rattle.entry_list.specs.Order.{IsOrderedByPath, IsStrictlyOrdered}
use Rattle.entry_list.specs.Record.{IsPlaced, Record, records_in}
use Rattle.entry_lookup.specs.Range.{IsRange, is_at}
use Rattle.entry_lookup.proofs.Lookup.{ordered_by_path}
use Rattle.entry_edit.proofs.Unstagings.{count_none, count_some, outside_placed, outside_records, unstaged_none, unstaged_some}
use Rattle.entry_edit.proofs.unstage.unstage.Goals as goal

range_is : (path : List ℕ) (there old : List Record) (r o : Option (Range ℕ)) → there ≡ old → r ≡ o
    → (IsOrderedByPath there → IsRange (is_at path) there r) → IsStrictlyOrdered old → IsRange (is_at path) old o
range_is path there old r o e f h ordered =
    subst (IsRange (is_at path) old) f
    (subst (λ rs. IsOrderedByPath rs → IsRange (is_at path) rs r) e h (ordered_by_path old ordered))

pub returns-in_default : goal.returns-in_default
returns-in_default c =
    let path = c.args.path.now in
    let s = c.args.storage.now in
    let old = records_in s c.args.entries.now.items in
    let range = range_is path c.new.result old c.path_range.result None
    (c.new.ensures ∙ ap (records_in s) c.deref.ensures.value) c.in_default.is c.path_range.ensures.exactly in
    record {
      unstaged = λ o. unstaged_none path old o (range o);
      count = λ o. count_none path old o (range o);
      placed = search rules;
    }

pub returns : goal.returns
returns c =
    let path = c.args.path.now in
    let s = c.args.storage.now in
    let es = c.args.entries.now.items in
    let p = c.in-Some.places in
    let range = range_is path c.new.result (records_in s es) c.path_range.result (Some p)
    (c.new.ensures ∙ ap (records_in s) c.deref.ensures.value) c.in-Some.is c.path_range.ensures.exactly in
    record {
      unstaged = λ o. unstaged_some path (records_in s es) o p (range o) _
          (ap (records_in s) c.remove_range.ensures ∙ outside_records s es p.start p.end);
      count = λ o. count_some path (records_in s es) o p (range o);
      placed = λ placed. subst (All (IsPlaced (length s))) (sym c.remove_range.ensures)
          (outside_placed (length s) es p.start p.end placed);
    }
