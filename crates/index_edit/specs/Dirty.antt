-- The answer of a file system monitor about entries, after changes of them (gitformat-index, "File System Monitor
-- cache"). The n-th bit is set if the n-th entry may have changed.
use Rattle.std.specs.Prelude.{◌≡◌, ℕ, ◌^◌, ◌&&◌, ◌||◌, nat_lt, Bool, false, List, [], ◌∷◌, drop, length, map}
use Rattle.std.specs.Prelude.{IfSome, Option, Some, None, Result, Ok, Err, if◌then◌else◌}
use Rattle.std.specs.List.{list_any}
use Rattle.std.specs.Option.{option_map}
use Rattle.ext_bitmap.specs.EncodedBitmap.{encoded}
use Rattle.ext_bitmap.specs.Bitmap.{Bitmap}
use Rattle.ext_bitmap.specs.Ranges.{set_places}
use Rattle.ext_bitmap.specs.declared.ewah.iter.Malformed.{Malformed}
use Rattle.entry_edit.specs.declared.change.Change.{Change}
use Rattle.entry_edit.specs.declared.change.Change.TheVariants as changes
use Rattle.entry_list.specs.Order.{IsStrictlyOrdered, record_stage}
use Rattle.entry_list.specs.Record.{Record}
use Rattle.ext_encode.specs.MonitorImage.{IsSpellableMonitor}
use Rattle.ext_encode.specs.MonitorPlaces.{monitor_is_within}
use Rattle.entry_lookup.specs.Lookup.{has_key}
use Rattle.entry_fields.specs.Flags.{stage_number}
use Rattle.ext_small.specs.FsMonitor.{Monitor, monitor_of}
use Rattle.ext_small.specs.declared.fs_monitor.FsMonitor.{FsMonitor}

-- the change stages an entry with the record's path and stage
abbrev pub is_replaced : Change → Record → Bool
is_replaced (changes.Stage entry path) r = has_key path.now (stage_number entry.flags.0) r
is_replaced (changes.Unstage path) r = false

-- the first of the records has the path and the stage of another
abbrev pub leads_with : Record → List Record → Bool
leads_with r [] = false
leads_with r (q ∷ qs) = has_key q.path (record_stage q) r

-- the record at an index has the path and the stage of another
abbrev pub is_at_place : List Record → Record → Result ℕ Malformed → Bool
is_at_place rs r (Ok place) = leads_with r (drop place rs)
is_at_place rs r (Err fault) = false

-- one of the changes stages an entry with the record's path and stage
abbrev pub is_staged : List Change → Record → Bool
is_staged cs r = list_any (λ c. is_replaced c r) cs

-- a record at one of the indexes has the path and the stage of another
abbrev pub is_among : List Record → List (Result ℕ Malformed) → Record → Bool
is_among old places r = list_any (is_at_place old r) places

-- a record may have changed: the bit of its path and stage was set, or a change stages it
abbrev pub is_dirty : List Change → List Record → List (Result ℕ Malformed) → Record → Bool
is_dirty cs old places r = is_among old places r || is_staged cs r

-- The bits of records, after changes of the old ones, which a monitor reported. It is None if the report was about more
-- records than there were, or if indexes of records don't fit 32 bits.
abbrev pub dirty_after : List Change → List Record → List Record → Monitor → Option Bitmap
dirty_after cs old now m =
    if monitor_is_within (length old) m && nat_lt (length now) (2 ^ 32)
    then Some (encoded (map (is_dirty cs old (set_places m.dirty)) now)) else None

-- the answer of a monitor, after changes from the old records to these; it is unchanged without a change
abbrev pub monitor_after : List Change → List Record → List Record → Option Monitor → Option Monitor
monitor_after cs old now None = None
monitor_after [] old now (Some m) = Some m
monitor_after (c ∷ cs) old now (Some m) =
    option_map (λ dirty. record { token = m.token; dirty = dirty }) (dirty_after (c ∷ cs) old now m)

-- for new records in strict order, an answer is this after the changes
abbrev pub IsMonitorAfter : List Change → List Record → List Record → Option FsMonitor → Option FsMonitor → Type 0
IsMonitorAfter cs old now monitor made =
    IsStrictlyOrdered now → option_map monitor_of made ≡ monitor_after cs old now (option_map monitor_of monitor)

-- if the one answer can be encoded, the other can be
abbrev pub StaysSpellableMonitor : Option FsMonitor → Option FsMonitor → Type 0
StaysSpellableMonitor monitor made =
    IfSome monitor (λ m. IsSpellableMonitor (monitor_of m)) → IfSome made (λ m. IsSpellableMonitor (monitor_of m))
