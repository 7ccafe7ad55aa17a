use Rattle.base_sha.proofs.Lanes.{next_lanes, keyed_lanes}
use Rattle.base_sha.proofs.schedule.extend.Goals as goal

pub returns : goal.returns
returns c = λ group held.
    let words = next_lanes c.args.words.now group c.next_words-next.result c.args.t c.requires.low c.requires.high c.told-words held.0 c.next_words-next.ensures in
    (words, keyed_lanes c.args.keyed.now c.args.words.now group c.next_words-next.result c.keyed_by.result c.args.t c.args.k c.requires.high c.told-words c.told-keyed held.1 words c.requires.constant c.keyed_by.ensures)
