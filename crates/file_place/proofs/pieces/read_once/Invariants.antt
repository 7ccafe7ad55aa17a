use Rattle.std.proofs.Common.{◌≡◌, true}
use Rattle.std.specs.Io.KnownBytes.{Keeps}
use Rattle.file_place.proofs.pieces.read_once.Given as goal

abbrev pub invariant-loop : goal.invariant-loop
invariant-loop g l = record {
  keeps : Keeps (g.S.Source.remaining l.fn.file) (g.S.Source.remaining l.file);
  stored : g.S.Source.stored l.file ≡ g.S.Source.stored l.fn.file;
  works : g.S.Source.works l.file ≡ g.S.Source.works l.fn.file;
  first : g.S.Source.works l.fn.file ≡ true → l.counter ≡ 0;
}
