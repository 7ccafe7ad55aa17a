use Rattle.std.proofs.Common.{refl}
use Rattle.ext_bitmap.proofs.Unpackings.{unpacked-nil}
use Rattle.ext_bitmap.proofs.ewah.iter.Positions.stop.Goals as goal

pub returns : goal.returns
returns c = rw unpacked-nil refl
