-- Bits that are set one after another. Public clauses cite none of these.
use Rattle.std.specs.Prelude.{◌≡◌, ℕ, ◌^◌, ◌<◌, ◌||◌, Bool, true, List, [], ◌∷◌, length, map, Option, Result}
use Rattle.std.specs.Option.{option_map}
use Rattle.ext_bitmap.specs.BitmapImage.{IsSpellableBitmap, bitmap_bytes}
use Rattle.ext_bitmap.specs.Bitmap.{Bitmap, bitmap}
use Rattle.ext_bitmap.specs.Ranges.{set_places}
use Rattle.ext_bitmap.specs.declared.ewah.Vec.{Vec}
use Rattle.ext_bitmap.specs.declared.ewah.iter.Malformed.{Malformed}
use Rattle.entry_edit.specs.declared.change.Change.{Change}
use Rattle.entry_list.specs.Order.{IsStrictlyOrdered}
use Rattle.entry_list.specs.Record.{Record}
use Rattle.ext_encode.specs.MonitorPlaces.{are_below}
use Rattle.index_edit.specs.Dirty.{dirty_after, is_among, is_dirty}
use Rattle.ext_small.specs.FsMonitor.{Monitor}

-- the bits of two lists, one of which is set if either is
abbrev pub either : List Bool → List Bool → List Bool
either [] bs = []
either (a ∷ ls) [] = []
either (a ∷ ls) (b ∷ bs) = (a || b) ∷ either ls bs

-- the bitmap can be encoded, and its length fits the size of four bytes before it
pub record IsSpellableDirty (b : Bitmap) : Type 0 where
  pub spellable : IsSpellableBitmap b
  pub size : length (bitmap_bytes b) < 2 ^ 32

-- If there is a bit of each record, and the records are in strict order, the bits of those that pass the test are set.
-- Bits that were set before remain so.
pub record SetsBits (test : Record → Bool) (rs : List Record) (old now : List Bool) : Type 0 where
  pub len : length now ≡ length old
  pub marked : length old ≡ length rs → IsStrictlyOrdered rs → now ≡ either old (map test rs)

-- If there is a bit of each record, the records are in strict order, and each index is below `most`, the bits of those
-- that pass the test are set. The test depends on the indexes. Bits that were set before remain so.
pub record SetsBitsWithin (test : List (Result ℕ Malformed) → Record → Bool) (most : ℕ) (places : Bitmap)
    (rs : List Record) (old now : List Bool) : Type 0 where
  pub len : length now ≡ length old
  pub marked : length old ≡ length rs → IsStrictlyOrdered rs → are_below most (set_places places) ≡ true
      → now ≡ either old (map (test (set_places places)) rs)

-- the bits of the records are set that were at one of the indexes
abbrev pub MarksPlaces : List Record → Bitmap → List Record → List Bool → List Bool → Type 0
MarksPlaces old places rs bits made = SetsBitsWithin (is_among old) (length old) places rs bits made

-- the bits of the records are set that may have changed
abbrev pub MarksDirty : List Change → List Record → Bitmap → List Record → List Bool → List Bool → Type 0
MarksDirty cs old places rs bits made = SetsBitsWithin (is_dirty cs old) (length old) places rs bits made

-- for new records in strict order, the bitmap is this after the changes
abbrev pub IsDirtyAfter : List Change → List Record → List Record → Monitor → Option Vec → Type 0
IsDirtyAfter cs old now m made = IsStrictlyOrdered now → option_map bitmap made ≡ dirty_after cs old now m
