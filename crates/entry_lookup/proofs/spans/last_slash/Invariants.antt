use Rattle.std.proofs.Common.{◌≡◌, ◌≤◌, length}
use Rattle.entry_lookup.specs.Tables.{last_slash, slash_upto}
use Rattle.entry_lookup.proofs.spans.last_slash.Given as goal

abbrev pub invariant-loop-end : goal.invariant-loop-end
invariant-loop-end l = (l.end ≤ length l.path) × (slash_upto l.end l.path ≡ last_slash l.path)

abbrev pub decreases-loop-end : goal.decreases-loop-end
decreases-loop-end l = l.end
