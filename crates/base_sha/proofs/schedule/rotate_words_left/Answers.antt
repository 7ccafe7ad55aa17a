use Rattle.base_sha.proofs.Lanes.{turned_lanes}
use Rattle.base_sha.proofs.schedule.rotate_words_left.Goals as goal

pub returns : goal.returns
returns c = turned_lanes c.args.words c.fits-words.0
