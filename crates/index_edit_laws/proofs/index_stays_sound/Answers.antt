use Rattle.index_edit_laws.proofs.SoundIndexes.{index_stays}
use Rattle.index_edit_laws.proofs.index_stays_sound.Goals as goal

pub returns : goal.returns
returns c = index_stays
