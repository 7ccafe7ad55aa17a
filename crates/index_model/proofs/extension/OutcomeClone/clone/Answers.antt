use Rattle.std.proofs.Common.{rules}
use Rattle.ext_small.proofs.Clones.{same_paths}
use Rattle.index_model.proofs.extension.OutcomeClone.clone.Goals as goal

pub returns : goal.returns
returns c = search (rules, same_paths)
