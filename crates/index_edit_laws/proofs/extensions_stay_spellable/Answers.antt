use Rattle.index_edit_laws.proofs.Spelled.{cache_spellable, monitor_spellable}
use Rattle.index_edit_laws.proofs.extensions_stay_spellable.Goals as goal

pub returns-clause-untracked : goal.returns-clause-untracked
returns-clause-untracked c = λ kind cs v h. cache_spellable kind cs v.extensions.untracked h

pub returns-clause-fs_monitor : goal.returns-clause-fs_monitor
returns-clause-fs_monitor c = λ cs v h. monitor_spellable cs v.records _ v.extensions.fs_monitor h
