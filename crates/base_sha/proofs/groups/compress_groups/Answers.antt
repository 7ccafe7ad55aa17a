use Rattle.std.proofs.Common.{◌≡◌, ◌*◌, ◌+◌, ◌-◌, ◌/◌, length, arith, sym}
use Rattle.base_sha.proofs.Compressing.{compressed_group, compressed_none}
use Rattle.base_sha.proofs.groups.compress_groups.Goals as goal

pub loop-i-init : goal.loop-i-init
loop-i-init g c = sym (compressed_none g.V.HashValue.compress (g.V.HashValue.words c.args.hash.now) c.args.groups.now)

pub loop-i-preserved : goal.loop-i-preserved
loop-i-preserved g c =
    let len : 256 * c.loop-i.i + 256 - 256 * c.loop-i.i ≡ 256 = omega arith in
    compressed_group g.V.HashValue.compress (g.V.HashValue.words c.args.hash.now) (g.V.HashValue.words c.loop-i.value) _ c.args.groups.now c.loop-i.i
    c.loop-i.invariant (c.compress_blocks.ensures _ (rw len at c.spread.ensures))

pub returns : goal.returns
returns g c =
    let all : 4 * c.loop-i.i ≡ length c.args.groups.now / 64 = omega arith in
    rw all at c.loop-i.invariant
