use Rattle.std.proofs.Common.{◌≡◌, take}
use Rattle.std.specs.List.{list_all}
use Rattle.ext_untracked.specs.Blocks.{directory_value}
use Rattle.ext_encode.specs.SpellableCache.{has_names}
use Rattle.ext_encode.proofs.untracked_cache.have_names.Given as goal

abbrev pub invariant-loop-directory : goal.invariant-loop-directory
invariant-loop-directory l =
    l.all ≡ list_all (λ d. has_names (directory_value d)) (take l.directory-index l.directories)
