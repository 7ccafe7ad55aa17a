use Rattle.std.proofs.Common.{arith}
use Rattle.entry_lookup.proofs.Words.{lowered}
use Rattle.entry_lookup.proofs.fold.lower_word.Goals as goal

pub returns : goal.returns
returns c = lowered c.args.word (omega arith)
