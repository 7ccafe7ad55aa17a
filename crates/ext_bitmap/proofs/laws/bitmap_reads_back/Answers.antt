use Rattle.ext_bitmap.proofs.WrittenBitmaps.{bitmap_there, bitmap_spellable}
use Rattle.ext_bitmap.proofs.laws.bitmap_reads_back.Goals as goal

pub returns-clause-read : goal.returns-clause-read
returns-clause-read c = bitmap_there

pub returns-clause-spellable : goal.returns-clause-spellable
returns-clause-spellable c = bitmap_spellable
