use Rattle.std.proofs.Common.{refl}
use Rattle.gix_index.specs.Link.{Corrupt, BitmapDecode}
use Rattle.view_salvage.proofs.items.extension_error.Goals as goal

pub returns-in-Corrupt-clause-told : goal.returns-in-Corrupt-clause-told
returns-in-Corrupt-clause-told c = λ kind content h. (Corrupt c.in-Corrupt.text.now, (refl, rw c.in-Corrupt.is at h))

pub returns-in-BitmapDecode-clause-told : goal.returns-in-BitmapDecode-clause-told
returns-in-BitmapDecode-clause-told c = λ kind content h.
    (BitmapDecode c.in-BitmapDecode.err c.in-BitmapDecode.kind.now, (refl, rw c.in-BitmapDecode.is at h))
