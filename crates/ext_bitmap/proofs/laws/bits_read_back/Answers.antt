use Rattle.ext_bitmap.proofs.EncodedBits.{bits_listed, bits_spellable, last_len}
use Rattle.ext_bitmap.proofs.laws.bits_read_back.Goals as goal

pub returns-clause-places : goal.returns-clause-places
returns-clause-places c = bits_listed

pub returns-clause-few : goal.returns-clause-few
returns-clause-few c = last_len

pub returns-clause-spellable : goal.returns-clause-spellable
returns-clause-spellable c = bits_spellable
