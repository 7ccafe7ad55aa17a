use Rattle.index_edit_laws.proofs.SoundTrees.{sound_in_order, sound_stays}
use Rattle.index_edit_laws.proofs.tree_stays_sound.Goals as goal

pub returns-clause-sound : goal.returns-clause-sound
returns-clause-sound c = sound_stays

pub returns-clause-order : goal.returns-clause-order
returns-clause-order c = sound_in_order
