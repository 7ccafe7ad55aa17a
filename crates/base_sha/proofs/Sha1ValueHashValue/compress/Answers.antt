use Rattle.std.proofs.Common.{arith}
use Rattle.base_sha.specs.Blocks.{block}
use Rattle.base_sha.proofs.Lanes.{column}
use Rattle.base_sha.proofs.Sha1ValueHashValue.compress.Goals as goal

pub returns : goal.returns
returns c = λ group keyed. c.compress.ensures (block group c.args.j) (column c.args.keyed.now group c.args.j (omega arith) keyed)
