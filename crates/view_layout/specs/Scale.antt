-- The parts of a file as boxes of a bar, to scale (the library's own).
use Rattle.std.specs.Prelude.{ℕ, ◌+◌, ◌-◌, ◌*◌, ◌/◌, min, List, length, slice_get, Option, Some, None}
use Rattle.view_layout.specs.declared.part.Part.{Part}

-- The width of the bar, in tenths of a pixel.
abbrev pub bar_width : ℕ
bar_width = 8800

-- The offset of the first byte after a part.
abbrev pub part_end : Part → ℕ
part_end p = p.offset + p.len

abbrev pub end_or_zero : Option Part → ℕ
end_or_zero None = 0
end_or_zero (Some p) = part_end p

-- The number of bytes that are drawn: the end of the last part, or 0 if there is none.
abbrev pub drawn_len : List Part → ℕ
drawn_len parts = end_or_zero (slice_get parts (length parts - 1))

-- The position of an offset in a bar for `len` bytes.
unfoldable pub scaled : ℕ → ℕ → ℕ
scaled len offset = min offset len * bar_width / len

-- The begin of a part's box, and its width: up to the position of the part's end.
abbrev pub box_begin : ℕ → Part → ℕ
box_begin len p = scaled len p.offset

abbrev pub box_width : ℕ → Part → ℕ
box_width len p = scaled len (part_end p) - scaled len p.offset
