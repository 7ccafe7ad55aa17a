-- The bits of an entry's flags (gitformat-index, "Index entry", the flags fields).
use Rattle.std.specs.Prelude.{ℕ, ◌*◌, ◌/◌, ◌^◌, ◌==◌, Bool, if◌then◌else◌, bit_and, bit_or}
use Rattle.entry_fields.specs.declared.entry.flags.Stage.{Stage}
use Rattle.entry_fields.specs.declared.entry.flags.Stage.TheVariants.{Unconflicted, Base, Ours, Theirs}

-- bits 12 and 13 as a number
abbrev pub stage_number : ℕ → ℕ
stage_number flags = bit_and flags 0x3000 / 4096

abbrev pub stage_named : ℕ → Stage
stage_named n = if n == 0 then Unconflicted else if n == 1 then Base else if n == 2 then Ours else Theirs

abbrev pub stage_of : ℕ → Stage
stage_of flags = stage_named (stage_number flags)

-- the number of a stage
abbrev pub stage_code : Stage → ℕ
stage_code Unconflicted = 0
stage_code Base = 1
stage_code Ours = 2
stage_code Theirs = 3

-- whether a second word of flags belongs to the entry: bit 14
abbrev pub is_extended : ℕ → Bool
is_extended flags = bit_and flags 0x4000 == 0x4000

-- the flags in the first word of a file: bits 12 to 15
abbrev pub storage_flags : ℕ → ℕ
storage_flags flags = bit_and flags 0xf000

-- the flags in the second word of a file: bits 29 and 30, shifted right by sixteen bits
abbrev pub extended_flags : ℕ → ℕ
extended_flags flags = bit_and (flags / 2 ^ 16) 0x6000

-- the two words of a file as one number: the first is its low half, the second its high half
abbrev pub joined_words : ℕ → ℕ → ℕ
joined_words word second = bit_or word (second * 2 ^ 16)

-- the flags that a file stores: the stage and two flags (bits 12 to 15), and with bit 14 also intent-to-add and
-- skip-worktree (bits 29 and 30)
abbrev pub stored_flags : ℕ → ℕ
stored_flags flags = if is_extended flags then bit_and flags 0x6000f000 else bit_and flags 0xf000
