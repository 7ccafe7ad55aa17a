use Rattle.std.proofs.Common.{[]}
use Rattle.ext_encode.proofs.WrittenPaths.{resolve_undo_there, paths_spellable}
use Rattle.ext_encode.proofs.laws.resolve_undo_reads_back.Goals as goal

pub returns-clause-read : goal.returns-clause-read
returns-clause-read c = resolve_undo_there

pub returns-clause-spellable : goal.returns-clause-spellable
returns-clause-spellable c = λ kind bytes paths h. paths_spellable kind bytes paths [] h
