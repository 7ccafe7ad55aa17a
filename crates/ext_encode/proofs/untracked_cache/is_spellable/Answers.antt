use Rattle.std.proofs.Common.{ap, ◌∙◌}
use Rattle.std.specs.List.{list_all}
use Rattle.ext_encode.specs.SpellableCache.{has_names}
use Rattle.ext_encode.proofs.WrittenSizes.{directories_all}
use Rattle.ext_encode.proofs.untracked_cache.is_spellable.Goals as goal

pub returns : goal.returns
returns c = c.have_names.ensures ∙ directories_all c.directories.result.now
    ∙ ap (λ l. list_all has_names l) c.directories.ensures
