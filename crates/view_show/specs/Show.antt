-- The lines of events, and of a complete index file (the library's own).
use Rattle.std.specs.Prelude.{List, ℕ, [], ◌++◌, Option}
use Rattle.view_events.specs.Document.{document_events}
use Rattle.view_events.specs.Event.{Event, begin_array, begin_collection, begin_object, datum_field, directory_facts}
use Rattle.view_events.specs.Event.{entry_item, exclude_file, print, ranges_field, text_field}
use Rattle.index_model.specs.Contents.{Contents}
use Rattle.ext_small.specs.declared.marks.Marks.{Marks}
use Rattle.index_parts.specs.declared.hash.ObjectId.{ObjectId}
use Rattle.view_show.specs.Entries.{entry_lines}
use Rattle.view_show.specs.Fields.{datum_text, ranges_line, text_line}
use Rattle.view_show.specs.Untracked.{directory_lines, exclude_lines}
use Rattle.view_show.specs.Words.{count_line, depth_line, indent_at, line_at, object_line, line_words}

-- The lines of an event. Ends have none.
abbrev pub line_text : Event → List ℕ
line_text (datum_field at d) = line_at at (datum_text d)
line_text (text_field at bytes) = text_line (indent_at at) (line_words at) bytes ++ depth_line at
line_text (ranges_field at ranges) = ranges_line (indent_at at) (line_words at) ranges
line_text (entry_item place r) = entry_lines place r
line_text (exclude_file at file) = exclude_lines at file
line_text (directory_facts d) = directory_lines d
line_text (begin_object at) = object_line at
line_text (begin_collection at count) = count_line at count
line_text (begin_array at count) = count_line at count
line_text event = []

-- All lines of an index file.
abbrev pub show_lines : Contents → Option ObjectId → Marks → List ℕ
show_lines c checksum marks = print line_text (document_events c checksum marks)
