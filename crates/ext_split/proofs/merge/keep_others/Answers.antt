use Rattle.std.proofs.lemmas.List.Elements.{All-filter}
use Rattle.entry_list.specs.Record.{IsPlaced}
use Rattle.ext_split.proofs.Merging.{stays, kept_all, marked_placed}
use Rattle.ext_split.proofs.merge.keep_others.Goals as goal

pub returns-clause-retained : goal.returns-clause-retained
returns-clause-retained c = rw c.drop_removed.ensures (kept_all c.args.storage.now c.args.delete.now.words.items
    c.args.entries.now.items c.mark_deleted.new.entries.items c.in_ok-mark_deleted.ensures.marked)

pub returns-clause-placed : goal.returns-clause-placed
returns-clause-placed c =
    λ len placed. rw c.drop_removed.ensures
    (All-filter stays (IsPlaced len) c.mark_deleted.new.entries.items (marked_placed len _ c.args.entries.now.items
    c.mark_deleted.new.entries.items c.in_ok-mark_deleted.ensures.marked.marked placed))
