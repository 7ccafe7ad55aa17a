use Rattle.ext_encode.proofs.WrittenMonitors.{monitor_there, monitor_spellable}
use Rattle.ext_encode.proofs.laws.monitor_reads_back.Goals as goal

pub returns-clause-read : goal.returns-clause-read
returns-clause-read c = monitor_there

pub returns-clause-spellable : goal.returns-clause-spellable
returns-clause-spellable c = monitor_spellable
