use Rattle.std.proofs.Common.{◌*◌, arith}
use Rattle.std.proofs.lemmas.List.{take-replicate}
use Rattle.view_show.specs.Words.{indent}
use Rattle.view_show.proofs.words.indent_of.Goals as goal

pub returns : goal.returns
unfolding indent
returns c = take-replicate (2 * c.args.level) 68 32 (omega arith)
