use Rattle.std.proofs.Common.{◌≡◌, map, take}
use Rattle.entry_lookup.specs.NameSteps.{named_value, named_from, path_names}
use Rattle.entry_lookup.proofs.names.paths_of.Given as goal

abbrev pub invariant-loop-place : goal.invariant-loop-place
invariant-loop-place l = map named_value l.names.items ≡ named_from path_names 0 (take l.place l.entries)
