use Rattle.std.proofs.Common.{ap, ◌∙◌, length}
use Rattle.std.specs.Prelude.{not, ◌==◌}
use Rattle.std.specs.List.{list_all}
use Rattle.ext_encode.proofs.WrittenSizes.{names_all}
use Rattle.ext_encode.proofs.untracked_cache.has_names.Goals as goal

pub returns : goal.returns
returns c = c.names_are_some.ensures ∙ names_all c.untracked_entries.result.now
    ∙ ap (λ l. list_all (λ name. not (length name == 0)) l) c.untracked_entries.ensures
