use Rattle.std.proofs.Common.{◌∙◌, ap, subst, sym}
use Rattle.ext_untracked.specs.Untracked.{CacheIdsAreOf, cache_of}
use Rattle.ext_untracked.specs.UntrackedEdits.{invalidated_from}
use Rattle.ext_untracked.proofs.Invalidating.{ids_stay}
use Rattle.ext_untracked.proofs.invalidation.invalidate.Goals as goal

pub returns-clause-ids : goal.returns-clause-ids
returns-clause-ids c = λ kind h.
    let old = cache_of c.args.cache.now in
    let path = c.args.path.now in
    let is = ap (λ ds. record old { directories = ds }) (c.invalidate_down.ensures
    ∙ ap (λ w. invalidated_from w path 0 old.directories) c.tells_directories-wholes.ensures) in
    subst (CacheIdsAreOf kind) (sym is) (ids_stay kind path old h)
