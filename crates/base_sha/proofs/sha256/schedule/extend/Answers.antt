use Rattle.std.proofs.Common.{refl}
use Rattle.base_sha.proofs.Lanes256.{next_lanes, keyed_lanes}
use Rattle.base_sha.proofs.sha256.schedule.extend.Goals as goal

pub returns : goal.returns
returns c = λ group held.
    let words = next_lanes c.args.words.now group c.next_words-next.result c.args.t c.requires.low c.requires.high c.told-words held.0 c.next_words-next.ensures in
    (words, keyed_lanes c.args.keyed.now c.args.words.now group c.next_words-next.result c.keyed_by.result c.args.t _ c.requires.high c.told-words c.told-keyed held.1 words refl c.keyed_by.ensures)
