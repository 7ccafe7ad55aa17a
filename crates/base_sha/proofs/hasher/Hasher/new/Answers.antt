use Rattle.std.proofs.Common.{rules}
use Rattle.base_sha.specs.Blocks.{compressed}
use Rattle.base_sha.specs.Hasher.{HasAbsorbed}
use Rattle.base_sha.proofs.hasher.Hasher.new.Goals as goal

pub returns : goal.returns
unfolding HasAbsorbed compressed
returns g c = search rules
