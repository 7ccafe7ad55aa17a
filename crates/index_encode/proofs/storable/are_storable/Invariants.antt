use Rattle.std.proofs.Common.{All, take}
use Rattle.entry_list.specs.Record.{records_in}
use Rattle.entry_list.specs.Storable.{IsStorableIn}
use Rattle.index_encode.proofs.storable.are_storable.Given as goal

-- all before the place are storable
abbrev pub invariant-loop-entry : goal.invariant-loop-entry
invariant-loop-entry l = All (IsStorableIn l.object_hash) (records_in l.storage (take l.entry-index l.entries))
