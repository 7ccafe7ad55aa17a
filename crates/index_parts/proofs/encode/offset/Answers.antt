use Rattle.std.proofs.Common.{refl, arith, rules}
use Rattle.index_parts.proofs.Encodings.{offset_is, room_next, spelled_all, spelled_last, spelled_next}
use Rattle.index_parts.proofs.encode.offset.Goals as goal

pub loop-higher-init : goal.loop-higher-init
loop-higher-init c = record {
  len = refl;
  inside = omega arith;
  room = omega (arith, c.ranges.n.fits);
  so_far = spelled_last c.args.n;
}

pub loop-higher-preserved : goal.loop-higher-preserved
loop-higher-preserved c =
    let h = c.loop-higher.invariant in
    let room = room_next c.loop-higher.start c.loop-higher.higher h.room c.loop-higher-test.true in
    record {
      len = search rules;
      inside = omega (arith, h.inside);
      room = room.1;
      so_far = spelled_next c.args.n c.loop-higher.start c.loop-higher.higher c.loop-higher.bytes
          c.loop-higher-test.true h.room (omega (arith, h.len, h.inside)) h.so_far;
    }

pub returns-clause-bytes : goal.returns-clause-bytes
returns-clause-bytes c = spelled_all c.args.n c.loop-higher.start c.loop-higher.higher c.loop-higher.bytes
    (omega (arith, c.loop-higher-test.false)) c.loop-higher.invariant.so_far

pub returns-clause-spelled : goal.returns-clause-spelled
returns-clause-spelled c = offset_is c.args.n (omega (arith, c.ranges.n.fits))
