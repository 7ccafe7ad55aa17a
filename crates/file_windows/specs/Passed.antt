-- The total length of the paths of entries that are passed without storing them (the library's own).
use Rattle.std.specs.Prelude.{◌^◌, ℕ, nat_lt, List, length, Option, Some, None, if◌then◌else◌, sum_by}
use Rattle.entry_list.specs.Record.{Record}

-- The total length of the paths of these records in bytes.
abbrev pub paths_len : List Record → ℕ
paths_len rs = sum_by (λ r. length r.path) rs

-- The number, if it has at most 64 bits.
abbrev pub in_64_bits : ℕ → Option ℕ
in_64_bits n = if nat_lt n (2 ^ 64) then Some n else None
