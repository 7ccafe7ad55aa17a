use Rattle.std.proofs.Common.{refl, arith, rules}
use Rattle.ext_encode.proofs.OctalDigits.{digits_all, digits_last, digits_next, room_next}
use Rattle.ext_encode.proofs.resolve_undo.octal.Goals as goal

pub loop-higher-init : goal.loop-higher-init
loop-higher-init c = record {
  len = refl;
  inside = omega arith;
  room = omega (arith, c.ranges.n.fits);
  so_far = digits_last c.args.n;
}

pub loop-higher-preserved : goal.loop-higher-preserved
loop-higher-preserved c =
    let h = c.loop-higher.invariant in
    let room = room_next c.loop-higher.start c.loop-higher.higher h.room c.loop-higher-test.true in
    record {
      len = search rules;
      inside = omega (arith, h.inside);
      room = room.1;
      so_far = digits_next c.args.n c.loop-higher.start c.loop-higher.higher c.loop-higher.digits
          c.loop-higher-test.true h.room (omega (arith, h.len, h.inside)) h.so_far;
    }

pub returns-clause-digits : goal.returns-clause-digits
returns-clause-digits c = digits_all c.args.n c.loop-higher.start c.loop-higher.higher c.loop-higher.digits
    (omega (arith, c.loop-higher-test.false)) c.loop-higher.invariant.so_far
