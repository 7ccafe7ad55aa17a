-- Entries as bytes (gitformat-index, "Index entry"): the only bytes that are written for a record, and what they
-- preserve.
use Rattle.std.specs.Prelude.{◌≢◌, ℕ, ◌-◌, ◌%◌, ◌==◌, Bool, not, min, List, [], ◌∷◌, ◌++◌, All, length, map, drop}
use Rattle.std.specs.Prelude.{replicate, bit_and, bit_or, if◌then◌else◌}
use Rattle.std.specs.List.{filter, list_any}
use Rattle.std.specs.Int.{w16, to_be_bytes}
use Rattle.entry_fields.specs.Flags.{is_extended, stored_flags, storage_flags, extended_flags}
use Rattle.index_parts.specs.Numbers.{be32}
use Rattle.index_parts.specs.Id.{id_bytes}
use Rattle.index_parts.specs.Mode.{stored_mode}
use Rattle.index_parts.specs.Offset.{offset_bytes}
use Rattle.entry_list.specs.declared.Version.{Version}
use Rattle.entry_list.specs.declared.Version.TheVariants.{V2, V3, V4}
use Rattle.entry_list.specs.declared.write.VersionChoice.{VersionChoice}
use Rattle.entry_list.specs.declared.write.VersionChoice.TheVariants as choices
use Rattle.entry_list.specs.Entry.{EntryHead, head_bytes}
use Rattle.entry_list.specs.Header.{signature}
use Rattle.entry_list.specs.Record.{Record}
use Rattle.entry_list.specs.Shared.{shared_len}

-- a number of two bytes, the highest byte first
abbrev pub be16 : ℕ → List ℕ
be16 n = to_be_bytes w16 n

-- ---- one entry

-- the ten numbers before the id; the mode has all its 32 bits
unfoldable pub numbers_of : Record → List ℕ
numbers_of r =
    be32 r.stat.ctime.secs ++ be32 r.stat.ctime.nsecs ++ be32 r.stat.mtime.secs ++ be32 r.stat.mtime.nsecs
    ++ be32 r.stat.dev ++ be32 r.stat.ino ++ be32 r.mode ++ be32 r.stat.uid ++ be32 r.stat.gid ++ be32 r.stat.size

-- the first word of flags: bits 12 to 15, and the path's length, at most 0xfff
abbrev pub first_word : Record → ℕ
first_word r = bit_or (storage_flags r.flags) (min (length r.path) 0xfff)

-- the second word of flags, if bit 14 of the first is set: bits 13 and 14
abbrev pub second_word : Record → List ℕ
second_word r = if is_extended r.flags then be16 (extended_flags r.flags) else []

abbrev pub head_of : Record → EntryHead
head_of r = record { numbers = numbers_of r; id = id_bytes r.id; word = be16 (first_word r); second = second_word r }

-- an entry up to the end of its path
unfoldable pub unpadded : Record → List ℕ
unpadded r = head_bytes (head_of r) ++ r.path

-- the 1 to 8 NULs that follow n bytes, up to a multiple of 8
abbrev pub padding : ℕ → List ℕ
padding n = replicate (8 - n % 8) 0

-- an entry of version 2 or 3
abbrev pub entry_bytes : Record → List ℕ
entry_bytes r = unpadded r ++ padding (length (unpadded r))

-- an entry of version 4 after the path `previous`: the number of bytes to remove from that path, as an offset number;
-- the bytes of its own path that follow; and a NUL
unfoldable pub delta_bytes : List ℕ → Record → List ℕ
delta_bytes previous r =
    head_bytes (head_of r) ++
    (offset_bytes (length previous - shared_len previous r.path) ++
    (drop (shared_len previous r.path) r.path ++ 0 ∷ []))

-- an entry of a version after the path `previous`, which matters only in version 4
abbrev pub entry_in : Version → List ℕ → Record → List ℕ
entry_in V2 previous r = entry_bytes r
entry_in V3 previous r = entry_bytes r
entry_in V4 previous r = delta_bytes previous r

-- ---- all entries

-- consecutive entries, the first after the path `previous`
abbrev pub entries_in : Version → List ℕ → List Record → List ℕ
entries_in version previous [] = []
entries_in version previous (r ∷ rs) = entry_in version previous r ++ entries_in version r.path rs

-- whether an entry is marked REMOVE, bit 17 of the flags in memory: a file leaves it out
abbrev pub is_removed : ℕ → Bool
is_removed flags = bit_and flags 0x20000 == 0x20000

-- the records that a file has: those that are not marked REMOVE
abbrev pub written : List Record → List Record
written rs = filter (λ r. not (is_removed r.flags)) rs

-- no path that is written has a NUL
abbrev pub LackNul : List Record → Type 0
LackNul rs = All (λ r. All (λ b. b ≢ 0) r.path) (written rs)

-- version 4 if it is chosen; otherwise version 3 if there is a second word of flags, or else 2
abbrev pub version_by : VersionChoice → Bool → Version
version_by choices.Smallest extended = if extended then V3 else V2
version_by choices.V4 extended = V4

-- the version of a file of these records; those that are left out count too
abbrev pub chosen_version : VersionChoice → List Record → Version
chosen_version choice rs = version_by choice (list_any (λ r. is_extended r.flags) rs)

abbrev pub version_code : Version → ℕ
version_code V2 = 2
version_code V3 = 3
version_code V4 = 4

-- the signature, the version and the number of entries ("A 12-byte header")
abbrev pub header_bytes : Version → ℕ → List ℕ
header_bytes version count = signature ++ be32 (version_code version) ++ be32 count

-- ---- what a file preserves

-- the record with only the bits that a file stores
abbrev pub stored_record : Record → Record
stored_record r = record r { flags = stored_flags r.flags; mode = stored_mode r.mode }

-- the records that a file has, with only the bits that it stores
abbrev pub stored_records : List Record → List Record
stored_records rs = map stored_record (written rs)
