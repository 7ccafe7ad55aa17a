use Rattle.file_place.specs.Sizes.{max_len}
use Rattle.file_windows.proofs.Hashed.{digest_of_pieces, held_len}
use Rattle.file_windows.proofs.disk.read_hashed.Goals as goal

pub returns : goal.returns
returns g c = record {
  hashed = digest_of_pieces c.args.kind c.args.is_held _ _ _ _ c.in_ok-pieces.ensures.pieces c.finalize.result
      c.finalize.ensures;
  bound = held_len c.args.kind c.args.is_held _ _ _ _ c.in_ok-pieces.ensures.pieces max_len c.in_ok-pieces.ensures.bound;
  stored = c.read_pieces.ensures.stored;
  works = c.read_pieces.ensures.works;
  fault = λ _. tt;
}
