-- The set bits of a bitmap as ranges of adjacent positions. The ranges are the library's own; the bits are those of
-- git's bitmap-format document, "Serialization format for an EWAH bitmap".
use Rattle.std.specs.Prelude.{ℕ, ◌+◌, ◌==◌, nat_lt, Bool, true, false, if◌then◌else◌, List, [], ◌∷◌, Result, Ok, Err}
use Rattle.ext_bitmap.specs.Bitmap.{Bitmap}
use Rattle.ext_bitmap.specs.declared.ewah.iter.Malformed.{Malformed}
use Rattle.ext_bitmap.specs.Bits.{places}
use Rattle.ext_bitmap.specs.UnpackingSteps.{unpacked}
use Rattle.ext_bitmap.specs.declared.ranges.Range.{Range}

-- the positions of the set bits, ascending, followed by an error if the words break off
unfoldable pub set_places : Bitmap → List (Result ℕ Malformed)
set_places b = places 0 (unpacked b.words)

-- the items below a limit, up to the first that isn't or the error; the positions ascend
unfoldable pub places_below : {E : Type 0} → ℕ → List (Result ℕ E) → List ℕ
places_below limit [] = []
places_below limit (Ok place ∷ items) = if nat_lt place limit then place ∷ places_below limit items else []
places_below limit (Err fault ∷ items) = []

-- whether the error comes before any position that isn't below the limit
unfoldable pub breaks_below : {E : Type 0} → ℕ → List (Result ℕ E) → Bool
breaks_below limit [] = false
breaks_below limit (Ok place ∷ items) = if nat_lt place limit then breaks_below limit items else false
breaks_below limit (Err fault ∷ items) = true

-- a position before ranges: it extends the first range if it is right before it, and is a range of its own otherwise
unfoldable pub with_place : ℕ → List Range → List Range
with_place place [] = record { first = place; end = place + 1 } ∷ []
with_place place (r ∷ rs) =
    if r.first == place + 1 then record { first = place; end = r.end } ∷ rs
    else record { first = place; end = place + 1 } ∷ (r ∷ rs)

-- ascending positions as the fewest ranges
unfoldable pub ranges_of : List ℕ → List Range
ranges_of [] = []
ranges_of (place ∷ ps) = with_place place (ranges_of ps)

-- the set bits among those that the bitmap declares
abbrev pub set_ranges : Bitmap → List Range
set_ranges b = ranges_of (places_below b.num_bits (set_places b))
