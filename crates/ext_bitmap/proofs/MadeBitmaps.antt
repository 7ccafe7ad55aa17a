-- A bitmap that is made of bits in memory.
use Rattle.std.proofs.Common.{◌≡◌, ℕ, ◌^◌, ◌<◌, Bool, List, [], ◌++◌, length, map, sym, ap, subst, ◌∙◌}
use mathlib.Core.List.{append-nil, map-id}
use Rattle.ext_bitmap.specs.Bitmap.{Bitmap, IsBitmap}
use Rattle.ext_bitmap.proofs.Bitmaps.{one_bitmap}
use Rattle.ext_bitmap.specs.BitmapImage.{bitmap_bytes}
use Rattle.ext_bitmap.specs.EncodedBitmap.{encoded}
use Rattle.ext_bitmap.proofs.EncodedBits.{bits_spellable}
use Rattle.ext_bitmap.proofs.WrittenBitmaps.{bitmap_there}

-- what is read of its bytes is the bitmap
pub read_again : (bits : List Bool) (first bytes : List ℕ) (b : Bitmap) (rest : List ℕ) → length bits < 2 ^ 32
    → first ≡ [] → bytes ≡ first ++ bitmap_bytes (encoded (map (λ bit. bit) bits)) → IsBitmap bytes b rest
    → b ≡ encoded bits
read_again bits first bytes b rest few none parts h =
    let it : Bitmap = encoded bits in
    let whole : bytes ≡ bitmap_bytes it ++ [] =
    parts ∙ ap (λ l. l ++ bitmap_bytes (encoded (map (λ bit. bit) bits))) none
    ∙ ap (λ l. bitmap_bytes (encoded l)) (map-id bits) ∙ sym (append-nil (bitmap_bytes it)) in
    (one_bitmap (bitmap_bytes it ++ []) b it rest [] (subst (λ l. IsBitmap l b rest) whole h)
    (bitmap_there it [] (bits_spellable bits few))).0
