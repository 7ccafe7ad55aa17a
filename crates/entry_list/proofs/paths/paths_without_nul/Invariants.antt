use Rattle.std.proofs.Common.{take}
use Rattle.entry_list.specs.EntryImage.{LackNul}
use Rattle.entry_list.specs.Record.{records_in}
use Rattle.entry_list.proofs.paths.paths_without_nul.Given as goal

abbrev pub invariant-loop-entry : goal.invariant-loop-entry
invariant-loop-entry l = LackNul (records_in l.storage (take l.entry-index l.entries))
