-- The events of an index, as a list. An event is a begin, a value or an end, with its position in the structure (the
-- library's own). Printers define names, words, commas and indents.
use Rattle.std.specs.Prelude.{◌≡◌, ℕ, List, [], ◌++◌, OnOk, Option, Result}
use Rattle.std.specs.declared.io.Error.{Error}
use Rattle.std.specs.Global.{Vec}
use Rattle.std.specs.List.{enumerate_from, flat_map}
use Rattle.std.specs.Option.{option_map}
use Rattle.ext_bitmap.specs.declared.ranges.Range.{Range}
use Rattle.entry_list.specs.Record.{Record, record_in}
use Rattle.entry_list.specs.declared.Entry.{Entry}
use Rattle.index_parts.specs.declared.hash.io.Out.{Ghosts}
use Rattle.base_text.specs.Blocks.{PutsBlocks}
use Rattle.ext_untracked.specs.Blocks.{DirectoryValue, directory_value}
use Rattle.ext_untracked.specs.declared.OidStat.{OidStat}
use Rattle.view_events.specs.declared.event.Datum.{Datum}
use Rattle.view_events.specs.declared.event.Event.{Event as RustEvent}
use Rattle.view_events.specs.declared.event.Event.TheVariants as events
use Rattle.view_events.specs.declared.event.Where.{Where}
use Rattle.view_events.specs.declared.printer.Text.{Text}

pub data Event : Type 0 where
  datum_field : Where → Datum → Event
  text_field : Where → List ℕ → Event
  ranges_field : Where → List Range → Event
  -- an entry, and its index among the entries
  entry_item : ℕ → Record → Event
  -- the id and the stat of a file of exclude patterns
  exclude_file : Where → Option OidStat → Event
  -- the first members of the object of a directory of the untracked cache: its name, its stat, the id of its file of
  -- exclude patterns, and whether it was only checked
  directory_facts : DirectoryValue → Event
  begin_object : Where → Event
  -- an object whose last member is an array, and the number of the array's elements
  begin_collection : Where → ℕ → Event
  end_object : Where → Event
  -- an array, and the number of its elements
  begin_array : Where → ℕ → Event
  end_array : Where → Event
  end_text : Event

-- The record with this path and the other parts of an entry.
abbrev pub record_at : List ℕ → Entry → Record
record_at path e = record (record_in [] e) { path = path }

-- The event for an event in memory.
abbrev pub event_of : RustEvent → Event
event_of (events.Value at d) = datum_field at d
event_of (events.Bytes at bytes) = text_field at bytes.now
event_of (events.Ranges at ranges) = ranges_field at ranges.now
event_of (events.EntryAt place entry path) = entry_item place (record_at path.now entry.now)
event_of (events.ExcludeFile at file) = exclude_file at (option_map (λ f. f.now) file)
event_of (events.DirectoryFacts directory) = directory_facts (directory_value directory.now)
event_of (events.BeginObject at) = begin_object at
event_of (events.BeginCollection at count) = begin_collection at count
event_of (events.EndObject at) = end_object at
event_of (events.BeginArray at count) = begin_array at count
event_of (events.EndArray at) = end_array at
event_of events.EndText = end_text

-- The text of events, one after another.
abbrev pub print : (Event → List ℕ) → List Event → List ℕ
print spell events = flat_map spell events

-- The events of items, each with its index.
abbrev pub listed : {X : Type 0} → (ℕ → X → List Event) → List X → List Event
listed events xs = flat_map (λ p. events p.0 p.1) (enumerate_from 0 xs)

-- ---- the effect of a call that appends the text of events

-- After an `Ok` this text follows what was there.
abbrev pub Adds : {T E : Type 0} → Result T E → Vec ℕ → Vec ℕ → List ℕ → Type 0
Adds answer old new text = OnOk answer (new.items ≡ old.items ++ text)

-- After an `Ok` the text of these events follows the text that wasn't written yet.
abbrev pub AddsEvents : {T E : Type 0} → (Event → List ℕ) → Result T E → Text → Text → List Event → Type 0
AddsEvents spell answer old new events = Adds answer old.bytes new.bytes (print spell events)

-- The text of these events follows the text that wasn't written yet. Text that fills a block was written.
abbrev pub Sends : {S T : Type 0} → (Event → List ℕ) → Ghosts S → S → S → Result T Error → Text → Text → List Event
    → Type 0
Sends spell writer before behind answer old new events =
    PutsBlocks writer before behind answer new.bytes.items (old.bytes.items ++ print spell events)
