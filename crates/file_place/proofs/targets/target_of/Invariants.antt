use Rattle.std.specs.Path.{path_buf_bytes}
use Rattle.file_place.specs.Locks.{IsLinkChain}
use Rattle.file_place.proofs.targets.target_of.Given as goal

-- as many links as were followed lead to what is looked at
abbrev pub invariant-loop-links : goal.invariant-loop-links
invariant-loop-links g l = record {
  follows : IsLinkChain (g.D.Folder.known l.folder) (path_buf_bytes l.path) l.links (path_buf_bytes l.target);
}
