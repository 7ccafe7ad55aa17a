use Rattle.std.proofs.Common.{◌≡◌, [], ◌∷◌, ◌++◌, take}
use Rattle.view_layout.specs.Groups.{grouped}
use Rattle.view_layout.proofs.grouping.grouped_behind.Given as goal

abbrev pub invariant-loop-next : goal.invariant-loop-next
invariant-loop-next l = l.groups.items ++ (l.last ∷ []) ≡ grouped (l.fn.first ∷ take l.next-index l.others)
