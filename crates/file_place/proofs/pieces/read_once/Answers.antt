use Rattle.std.proofs.Common.{rules}
use Rattle.std.proofs.KnownBytes.{Keeps-trans}
use Rattle.file_place.proofs.pieces.read_once.Goals as goal

pub returns-in_default : goal.returns-in_default
returns-in_default g c = record {
  bound = search rules;
  bytes = Keeps-trans _ _ _ c.loop.invariant.keeps c.in-Err.ensures.bytes;
  stored = search rules;
  works = search rules;
  succeeds = search rules;
}
