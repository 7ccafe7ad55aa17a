use Rattle.std.proofs.Common.{rules}
use Rattle.std.proofs.lemmas.Fn.{filter_same}
use Rattle.ext_split.proofs.Merging.{stays}
use Rattle.ext_split.proofs.merge.drop_removed.Goals as goal

pub returns : goal.returns
returns c = filter_same _ stays _ (λ x b f' k. search rules) _ _ c.retain.ensures.filtered
