use Rattle.ext_untracked.proofs.BitmapPlaces.{none_by}
use Rattle.ext_untracked.proofs.bitmaps.bitmap_of.Goals as goal

pub returns-in_default : goal.returns-in_default
returns-in_default c =
    record { found = tt; none = none_by c.in-Err.error c.args.bytes.now c.in-Err.ensures.fault c.in_default.not-Memory }
