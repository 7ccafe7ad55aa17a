use Rattle.std.proofs.Common.{arith}
use Rattle.view_json.proofs.Plain.{plain_more}
use Rattle.view_json.proofs.values.stand_for_themselves.Goals as goal

pub loop-byte-preserved : goal.loop-byte-preserved
loop-byte-preserved c = plain_more c.loop-byte.all c.args.bytes.now c.loop-byte.byte-index
    (omega (arith, c.loop-byte-test.true)) c.loop-byte.invariant
