-- What bytes can hold of a monitor's answer.
use Rattle.std.proofs.Common.{◌≡◌, ◌^◌, ◌<◌, Bool, List, arith, length, subst, sym}
use Rattle.ext_bitmap.proofs.EncodedBits.{bits_spellable, encoded_len, last_len, words_len}
use Rattle.ext_bitmap.proofs.WrittenBitmaps.{bitmap_len}
use Rattle.ext_bitmap.specs.BitmapImage.{bitmap_bytes}
use Rattle.ext_bitmap.specs.EncodedBitmap.{encoded, up_to_last, words_of}
use Rattle.ext_bitmap.specs.Bitmap.{Bitmap}
use Rattle.index_edit.specs.DirtySteps.{IsSpellableDirty}

pub bits_are : (bits : List Bool) (b : Bitmap) → length bits < 2 ^ 32 → b ≡ encoded bits → IsSpellableDirty b
bits_are bits b few e =
    let kept : List Bool = up_to_last bits in
    let size : length (bitmap_bytes (encoded bits)) < 2 ^ 32 = omega (
      arith,
      bitmap_len (encoded bits),
      encoded_len (words_of kept),
      words_len kept,
      last_len bits,
      few,
    ) in
    subst IsSpellableDirty (sym e) (record { spellable = bits_spellable bits few; size = size })
