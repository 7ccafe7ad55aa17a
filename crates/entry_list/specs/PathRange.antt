-- The range of a path in a storage: a start of 48 bits in two parts, and a length of 32 bits (the library's own).
use Rattle.std.specs.Prelude.{ℕ, ◌+◌, ◌*◌, ◌/◌, ◌%◌, ◌^◌}
use Rattle.entry_list.specs.declared.path_range.PathRange.{PathRange}

-- the index of the first byte
abbrev pub range_start : PathRange → ℕ
range_start p = p.high * 2 ^ 32 + p.low

-- the index after the last byte
abbrev pub range_end : PathRange → ℕ
range_end p = range_start p + p.len

-- the range of `len` bytes that begins at index `start`
abbrev pub packed_range : ℕ → ℕ → PathRange
packed_range start len = record { low = start % 2 ^ 32; len = len; high = start / 2 ^ 32 }
