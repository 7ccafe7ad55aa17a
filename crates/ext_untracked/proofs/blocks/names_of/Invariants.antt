use Rattle.std.proofs.Common.{◌≡◌, ◌-◌, map}
use Rattle.bstr.specs.Owned.{bstring_bytes}
use Rattle.ext_untracked.specs.CacheSteps.{names_at}
use Rattle.ext_untracked.proofs.BlockHeads.{ahead}
use Rattle.ext_untracked.proofs.blocks.names_of.Given as goal

abbrev pub invariant-loop-i : goal.invariant-loop-i
invariant-loop-i l =
    names_at l.count l.bytes ≡ ahead (map bstring_bytes l.names.items) (names_at (l.count - l._i) l.rest)
