use Rattle.std.proofs.Common.{◌≡◌, map, take}
use Rattle.gix_index.specs.State.{PathsInStorage, records}
use Rattle.examples.specs.Listed.{listed_record}
use Rattle.examples.proofs.tree_builder.unsorted.Given as goal

abbrev pub invariant-loop-file : goal.invariant-loop-file
invariant-loop-file l = record {
  entries : records l.state ≡ map listed_record (take l.file-index l.files);
  placed : PathsInStorage l.state;
}
