use Rattle.std.proofs.Common.{arith, refl, ◌∙◌}
use Rattle.std.proofs.lemmas.List.{length-set}
use Rattle.base_sha.proofs.Lanes256.{first_lanes, keyed_lanes}
use Rattle.base_sha.proofs.sha256.schedule.load.Goals as goal

pub loop-i-preserved : goal.loop-i-preserved
loop-i-preserved c =
    let held = c.loop-i.invariant in
    let words = first_lanes c.loop-i.words c.args.group.now c.words_at-first.result c.loop-i.i (omega arith) held.0 held.2.0 c.words_at-first.ensures in (
      length-set c.loop-i.words c.loop-i.i c.words_at-first.result ∙ held.0,
      length-set c.loop-i.keyed c.loop-i.i c.keyed_by.result ∙ held.1,
      (
        words,
        keyed_lanes c.loop-i.keyed c.loop-i.words c.args.group.now c.words_at-first.result c.keyed_by.result c.loop-i.i _ (omega arith) held.0 held.1 held.2.1 words
            refl c.keyed_by.ensures,
      ),
    )
