-- The events of a bitmap, of a link and of a file system monitor (the library's own). The parts are those of
-- gitformat-index, "Split index" and "File System Monitor cache".
use Rattle.std.specs.Prelude.{List, ℕ, [], ◌∷◌, ◌++◌, Option, Some, None}
use Rattle.ext_bitmap.specs.Bitmap.{Bitmap}
use Rattle.ext_bitmap.specs.Ranges.{breaks_below, set_places, set_ranges}
use Rattle.ext_small.specs.FsMonitor.{Monitor, TokenValue, nanoseconds, opaque}
use Rattle.ext_split.specs.Link.{BitmapPair, LinkValue}
use Rattle.view_events.specs.declared.event.Datum.TheVariants.{Absent, Answer, Id, Number}
use Rattle.view_events.specs.declared.event.Key.TheVariants as keys
use Rattle.view_events.specs.declared.event.Where.{Where}
use Rattle.view_events.specs.declared.event.Where.TheVariants.{Member}
use Rattle.view_events.specs.Event.{Event, begin_object, datum_field, end_object, ranges_field, text_field}

-- The number of bits that a bitmap declares, the set bits, and whether its words end before the last bit.
unfoldable pub bitmap_events : Where → ℕ → Bitmap → List Event
bitmap_events at depth b =
    begin_object at ∷ datum_field (Member keys.NumBits depth 0) (Number b.num_bits)
    ∷ ranges_field (Member keys.SetBits depth 1) (set_ranges b)
    ∷ datum_field (Member keys.IsMalformed depth 2) (Answer (breaks_below b.num_bits (set_places b)))
    ∷ end_object at ∷ []

-- The entries of the shared index that are deleted, and those that are replaced.
unfoldable pub pair_events : Option BitmapPair → List Event
pair_events None = datum_field (Member keys.Bitmaps 1 1) Absent ∷ []
pair_events (Some pair) =
    begin_object (Member keys.Bitmaps 1 1) ∷ bitmap_events (Member keys.Delete 2 0) 3 pair.delete
    ++ (bitmap_events (Member keys.Replace 2 1) 3 pair.replace ++ end_object (Member keys.Bitmaps 1 1) ∷ [])

-- The id of the shared index, and the bitmaps.
unfoldable pub link_events : Option LinkValue → List Event
link_events None = datum_field (Member keys.Link 0 5) Absent ∷ []
link_events (Some link) =
    begin_object (Member keys.Link 0 5)
    ∷ datum_field (Member keys.SharedIndexChecksum 1 0) (Id (Some link.shared))
    ∷ pair_events link.bitmaps ++ end_object (Member keys.Link 0 5) ∷ []

-- The time in nanoseconds since 1970, or the text of the monitor.
unfoldable pub token_event : TokenValue → Event
token_event (nanoseconds time) = datum_field (Member keys.NanosSince1970 1 0) (Number time)
token_event (opaque text) = text_field (Member keys.Token 1 0) text

-- The token, and which entries may have changed.
unfoldable pub monitor_events : Option Monitor → List Event
monitor_events None = datum_field (Member keys.FsMonitor 0 8) Absent ∷ []
monitor_events (Some monitor) =
    begin_object (Member keys.FsMonitor 0 8) ∷ token_event monitor.token
    ∷ bitmap_events (Member keys.EntryDirty 1 1) 2 monitor.dirty ++ end_object (Member keys.FsMonitor 0 8) ∷ []
