-- The closure removes entries by their path, and changes none. The three stages follow the entries that are left, and
-- the sort moves them.
use Rattle.std.proofs.Common.{◌≡◌, rules, List, subst, sym, IsPermutation}
use Rattle.std.proofs.lemmas.Fn.{always_returns_same}
use Rattle.gix_index.specs.Range.{is_at}
use Rattle.gix_index.specs.Record.{Record}
use Rattle.gix_index.specs.State.{records}
use Rattle.examples.specs.Conflict.{elsewhere, side_record}
use Rattle.examples.proofs.Stages.{on_ok, three_pushed}
use Rattle.examples.proofs.merge.put_in_conflict.Goals as goal

others : (c : goal.After-sort_entries)
    → records c.remove_entries.new.self ≡ elsewhere c.args.path.now (records c.args.state.now)
others c = c.remove_entries.ensures.filtered (is_at c.args.path.now)
    (always_returns_same _ _ _ (λ a r f called. search rules))

pub returns-clause-exactly : goal.returns-clause-exactly
returns-clause-exactly c = λ placed.
    let path = c.args.path.now in
    let left = c.remove_entries.ensures.placed (always_returns_same _ _ _ (λ a r f called. search rules)) placed in
    let one = c.in_ok-push_side.ensures.placed left in
    let two = c.in_ok-push_side-2.ensures.placed one in
    let pushed = three_pushed (records c.remove_entries.new.self) (records c.push_side.new.state)
    (records c.push_side-2.new.state) (records c.push_side-3.new.state)
    (side_record path 1 c.args.base) (side_record path 2 c.args.ours) (side_record path 3 c.args.theirs)
    (c.in_ok-push_side.ensures.pushed left) (c.in_ok-push_side-2.ensures.pushed one)
    (c.in_ok-push_side-3.ensures.pushed two) in
    let P : List Record → Type 0 = λ l. IsPermutation l (records c.sort_entries.new.self) in
    on_ok c.sort_entries.result
    (subst P (rw (sym (others c)) pushed) c.sort_entries.ensures.permutation)
