use Rattle.std.proofs.Common.{◌≡◌, take}
use Rattle.ext_untracked.specs.Untracked.{cache_of}
use Rattle.index_edit.specs.Invalidated.{all_unlisted}
use Rattle.index_edit.proofs.invalidating.unlist_each.Given as goal

-- the paths of the changes so far are invalidated
abbrev pub invariant-loop-change : goal.invariant-loop-change
invariant-loop-change l = cache_of l.cache ≡ all_unlisted (take l.change-index l.changes) (cache_of l.initial.cache)
