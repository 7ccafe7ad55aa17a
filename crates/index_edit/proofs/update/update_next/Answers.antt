use Rattle.std.proofs.Common.{rules, ◌≡◌, ◌∙◌, All, ap, drop, length, subst}
use Rattle.entry_list.specs.Order.{IsOrderedByPath, IsStrictlyOrdered}
use Rattle.entry_list.specs.Record.{records_in}
use Rattle.entry_edit.specs.Changes.{change_path}
use Rattle.entry_edit.specs.EditSteps.{IsBeyond}
use Rattle.entry_edit.proofs.Passes.{next_applied}
use Rattle.index_edit.specs.Undone.{all_recorded, lost, undo_paths}
use Rattle.index_edit.proofs.Nexts.{mid_clear, mid_ordered, mid_placed, next_lost}
use Rattle.index_edit.proofs.update.update_next.Goals as goal

beyond : (c : goal.In_ok-apply_one) → IsOrderedByPath (records_in c.args.storage.now.items c.args.rest.now)
    → All (IsBeyond (change_path c.args.change.now)) (drop c.in_ok-count.count (records_in c.args.storage.now.items c.args.rest.now))
beyond c =
    let rest = c.args.rest.now in
    let k = c.in_ok-count.count in
    subst (λ t. IsOrderedByPath (records_in t rest) → All (IsBeyond (change_path c.args.change.now)) (drop k (records_in t rest)))
    c.deref.ensures.value
    (subst (λ p. IsOrderedByPath (records_in c.deref.result.now rest) → All (IsBeyond p) (drop k (records_in c.deref.result.now rest)))
    c.path.ensures c.in_ok-count.ensures.beyond)

pub returns-clause-applied : goal.returns-clause-applied
returns-clause-applied c =
    let grown = c.in_ok-apply_one.ensures.storage in
    let mid = mid_placed (length c.args.storage.now.items) c.args.done.now.items c.args.rest.now c.pass.new.done.items
    c.in_ok-count.count c.in_ok-count.ensures.copied in
    record {
      inside = search rules;
      applied = λ here behind o clear. next_applied c.args.change.now c.args.storage.now.items grown.0 c.apply_one.new.storage.items
          c.args.done.now.items c.args.rest.now c.pass.new.done.items c.apply_one.new.entries.items c.in_ok-count.count grown.1
          behind c.in_ok-count.ensures.copied (beyond c)
          (λ m. c.in_ok-apply_one.ensures.applied (mid here behind) m (mid_clear c.args.change.now c.args.storage.now.items
          c.args.done.now.items c.args.rest.now c.pass.new.done.items c.in_ok-count.count c.in_ok-count.ensures.copied
          (beyond c) o c.args.known clear)) o;
      placed = λ here behind. c.in_ok-apply_one.ensures.placed (mid here behind);
      storage = search rules;
    }

pub returns-clause-undone : goal.returns-clause-undone
returns-clause-undone c = λ o.
    let s = c.args.storage.now.items in
    let change = c.args.change.now in
    let done = c.args.done.now.items in
    let mid = c.pass.new.done.items in
    let undo = undo_paths c.args.undo.now in
    let there : c.new.result ≡ records_in s mid =
    c.new.ensures ∙ ap (λ x. records_in x c.deref-2.result.now) c.deref-3.ensures.value
    ∙ ap (records_in s) c.deref-2.ensures.value in
    let told = subst (λ rs. IsStrictlyOrdered rs → undo_paths c.record_lost.new.undo ≡ all_recorded (lost change rs) undo)
    there c.in_ok-record_lost.ensures.added in
    told (mid_ordered change s done c.args.rest.now mid c.in_ok-count.count c.in_ok-count.ensures.copied (beyond c) o)
    ∙ ap (λ l. all_recorded l undo)
    (next_lost change s done c.args.rest.now mid c.in_ok-count.count c.in_ok-count.ensures.copied (beyond c) o)
