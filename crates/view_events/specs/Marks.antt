-- The events of an offset table and of an end marker (the library's own). The parts are those of gitformat-index,
-- "Index Entry Offset Table" and "End of Index Entry".
use Rattle.std.specs.Prelude.{ℕ, Bool, List, [], ◌∷◌, ◌++◌, length, Option, Some, None, if◌then◌else◌}
use Rattle.std.specs.Option.{option_map}
use Rattle.ext_small.specs.declared.marks.EndMark.{EndMark}
use Rattle.ext_small.specs.declared.marks.Marks.{Marks}
use Rattle.ext_small.specs.declared.index_entry_offset_table.Offset.{Offset}
use Rattle.view_events.specs.declared.event.Datum.TheVariants.{Absent, Answer, Block, Id, Malformed, Number}
use Rattle.view_events.specs.declared.event.Item.TheVariants as items
use Rattle.view_events.specs.declared.event.Key.TheVariants as keys
use Rattle.view_events.specs.declared.event.Where.TheVariants.{Element, Member}
use Rattle.view_events.specs.Event.{Event, begin_array, begin_object, datum_field, end_array, end_object, listed}

-- The offset of a block of entries, and the number of its entries.
abbrev pub block_events : ℕ → Offset → List Event
block_events place o = datum_field (Element items.Block 1 place) (Block o) ∷ []

-- The number of blocks, and each block.
unfoldable pub blocks_events : Option (List Offset) → List Event
blocks_events None = datum_field (Member keys.OffsetTable 0 10) Malformed ∷ []
blocks_events (Some blocks) =
    begin_array (Member keys.OffsetTable 0 10) (length blocks) ∷ listed block_events blocks
    ++ end_array (Member keys.OffsetTable 0 10) ∷ []

-- Whether there is an offset table, and its content.
unfoldable pub table_events : Bool → Option (List Offset) → List Event
table_events had table =
    datum_field (Member keys.HadOffsetTable 0 9) (Answer had)
    ∷ (if had then blocks_events table else datum_field (Member keys.OffsetTable 0 10) Absent ∷ [])

-- The offset of the extensions, and the digest.
unfoldable pub marker_events : Option EndMark → List Event
marker_events None = datum_field (Member keys.EndOfIndexMarker 0 12) Malformed ∷ []
marker_events (Some m) =
    begin_object (Member keys.EndOfIndexMarker 0 12)
    ∷ datum_field (Member keys.OffsetToExtensions 1 0) (Number m.offset)
    ∷ datum_field (Member keys.EndChecksum 1 1) (Id (Some m.digest))
    ∷ end_object (Member keys.EndOfIndexMarker 0 12) ∷ []

-- Whether there is an end marker, and its content.
unfoldable pub end_events : Bool → Option EndMark → List Event
end_events had mark =
    datum_field (Member keys.HadEndOfIndexMarker 0 11) (Answer had)
    ∷ (if had then marker_events mark else datum_field (Member keys.EndOfIndexMarker 0 12) Absent ∷ [])

abbrev pub marks_events : Bool → Bool → Marks → List Event
marks_events table marker m = table_events table (option_map (λ v. v.items) m.table) ++ end_events marker m.end
