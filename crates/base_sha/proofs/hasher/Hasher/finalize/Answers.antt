use Rattle.std.proofs.Common.{arith}
use Rattle.base_sha.proofs.Absorbing.{finished}
use Rattle.base_sha.proofs.hasher.Hasher.finalize.Goals as goal

pub returns : goal.returns
returns g c = λ m held.
    let v = g.V.HashValue in
    let padded = c.update-2.ensures _ (c.update.ensures m held) in
    c.to_digest.ensures m (finished v.compress v.initial v.words c.args.self c.update-2.new.self m _ _ _ held padded c.to_be_bytes.ensures (omega arith) c.compress_first.ensures)
