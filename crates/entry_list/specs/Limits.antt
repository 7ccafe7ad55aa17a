-- The number of entries that a file can hold, by the sizes that follow from gitformat-index, "Index entry"; and the
-- memory that they are counted as (the library's own).
use Rattle.std.specs.Prelude.{ℕ, ◌-◌, ◌*◌, ◌+◌, ◌/◌, ◌||◌, not, min, Bool, Option, Some, None}
use Rattle.index_parts.specs.Limit.{is_within}
use Rattle.index_parts.specs.Id.{id_len}
use Rattle.index_parts.specs.declared.hash.Kind.{Kind}
use Rattle.index_parts.specs.declared.hash.Kind.TheVariants as kinds
use Rattle.entry_list.specs.Header.{header_len}
use Rattle.entry_list.specs.declared.Version.{Version}
use Rattle.entry_list.specs.declared.Version.TheVariants.{V4}

-- the number of bytes after the header: up to the extensions if an end marker names their offset, or else up to the
-- trailer
abbrev pub block_len : ℕ → Option ℕ → Kind → ℕ
block_len len None kind = len - id_len kind - header_len
block_len len (Some offset) kind = offset - header_len

-- the smallest number of bytes that an entry takes
abbrev pub smallest_entry : Kind → Version → ℕ
smallest_entry kinds.Sha1 version = 64
smallest_entry kinds.Sha256 V4 = 76
smallest_entry kinds.Sha256 version = 80

-- the largest number of entries that a file of `len` bytes can hold
abbrev pub most_entries : ℕ → Option ℕ → Kind → Version → ℕ
most_entries len offset kind version = block_len len offset kind / smallest_entry kind version

-- the number of bytes of an entry without its second word, its path and its padding
abbrev pub fixed_len : Kind → ℕ
fixed_len kinds.Sha1 = 62
fixed_len kinds.Sha256 = 74

-- the number of bytes of its path that an entry of version 4 is assumed to encode
abbrev pub average_delta_len : ℕ
average_delta_len = 80

-- the number of bytes that the paths of `count` entries may take
abbrev pub path_estimate : ℕ → ℕ → Option ℕ → Kind → Version → ℕ
path_estimate count len offset kind V4 =
    min (block_len len offset kind - count * (fixed_len kind + 2)) (average_delta_len * count)
path_estimate count len offset kind version = block_len len offset kind - count * fixed_len kind

-- the number of bytes that an entry is counted as
abbrev pub entry_cost : ℕ
entry_cost = 96

-- the entries, or the estimate of their paths, exceed the limit
abbrev pub is_too_large : Option ℕ → ℕ → ℕ → Option ℕ → Kind → Version → Bool
is_too_large limit count len offset kind version =
    not (is_within limit (entry_cost * count)) || not (is_within limit (path_estimate count len offset kind version))
