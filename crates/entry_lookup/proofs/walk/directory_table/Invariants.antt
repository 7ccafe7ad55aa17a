use Rattle.std.proofs.Common.{◌≡◌, map, take}
use Rattle.entry_lookup.specs.NameSteps.{named_value}
use Rattle.entry_lookup.specs.WalkSteps.{span_value}
use Rattle.entry_lookup.proofs.Extents.{start_value}
use Rattle.entry_lookup.proofs.walk.directory_table.Given as goal

abbrev pub invariant-loop-span : goal.invariant-loop-span
invariant-loop-span l =
    map named_value l.names.items ≡ map start_value (map span_value (take l.span-index l.span-items))
