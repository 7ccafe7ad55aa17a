use Rattle.base_sha.proofs.Functions256.{maj_by_two_xors}
use Rattle.base_sha.proofs.sha256.rounds.majority.Goals as goal

pub returns : goal.returns
returns c = maj_by_two_xors c.args.x c.args.y c.args.z
