use Rattle.std.proofs.Common.{◌≡◌, ℕ, ◌++◌, take}
use Rattle.view_events.specs.Untracked.{subdirectory_events}
use Rattle.view_events.proofs.Listed.{all_shown}
use Rattle.view_events.proofs.untracked.append_places.Given as goal

-- the indices before this one were appended
abbrev pub invariant-loop-index : goal.invariant-loop-index
invariant-loop-index g l = l.text.bytes.items
    ≡ l.fn.text.bytes.items ++ all_shown g.P.Printer.spell subdirectory_events (λ (n : ℕ). n) (take l.index l.places)
