use Rattle.std.proofs.Common.{arith}
use Rattle.base_sha.proofs.Functions.{ch_by_xor}
use Rattle.base_sha.proofs.sha256.rounds.choose.Goals as goal

pub returns : goal.returns
returns c = ch_by_xor c.args.x c.args.y c.args.z (omega arith) (omega arith) (omega arith)
