use Rattle.std.proofs.Common.{◌≡◌, List, ◌++◌, None, length}
use Rattle.std.specs.List.{FoldsTo}
use Rattle.entry_list.specs.declared.Entry.{Entry}
use Rattle.entry_lookup.specs.FilterMap.{IsClosureCall}
use Rattle.entry_lookup.proofs.paths.FilterMapPathsIterator.next.Given as goal

abbrev pub invariant-loop-entry : goal.invariant-loop-entry
invariant-loop-entry g l =
    goal.F-IsAlwaysCallable g l.self.filter_map
    × (l.self.backing.now ≡ l.initial.self.backing.now)
    × ((skipped : List Entry)
    × (l.initial.self.entries.now ≡ skipped ++ l.self.entries.now)
    × FoldsTo (λ h e k. IsClosureCall (λ f p b o j. goal.F-step g f p b o j) l.initial.self.backing.now h e None k)
    l.initial.self.filter_map skipped l.self.filter_map)

abbrev pub decreases-loop-entry : goal.decreases-loop-entry
decreases-loop-entry g l = length l.self.entries.now
