use Rattle.std.proofs.Common.{◌≡◌, arith, sym}
use Rattle.base_sha.proofs.Compressing.{compressed_more, compressed_none}
use Rattle.base_sha.proofs.groups.compress_blocks.Goals as goal

pub loop-j-init : goal.loop-j-init
loop-j-init g c = λ group keyed. sym (compressed_none g.V.HashValue.compress (g.V.HashValue.words c.args.hash.now) group)

pub loop-j-preserved : goal.loop-j-preserved
loop-j-preserved g c = λ group keyed.
    compressed_more g.V.HashValue.compress (g.V.HashValue.words c.args.hash.now) (g.V.HashValue.words c.loop-j.hash) _ group c.loop-j.j
    (c.loop-j.invariant group keyed) (c.compress.ensures group keyed)

pub returns : goal.returns
returns g c = λ group keyed.
    let all : c.loop-j.j ≡ c.args.count = omega arith in
    rw all at (c.loop-j.invariant group keyed)
