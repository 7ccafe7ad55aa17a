use Rattle.std.proofs.Common.{◌≡◌, ◌++◌, take}
use Rattle.bstr.specs.Owned.{bstring_bytes}
use Rattle.view_events.specs.Untracked.{name_events}
use Rattle.view_events.proofs.Listed.{all_shown}
use Rattle.view_events.proofs.untracked.append_names.Given as goal

-- the names before this one were appended
abbrev pub invariant-loop-place : goal.invariant-loop-place
invariant-loop-place g l = l.text.bytes.items
    ≡ l.fn.text.bytes.items ++ all_shown g.P.Printer.spell name_events bstring_bytes (take l.place l.names)
