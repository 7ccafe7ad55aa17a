-- Entries at the front of bytes, as functions that return a value and the rest, or None (gitformat-index, "Index
-- entry"). Public clauses don't use these definitions.
use Rattle.std.specs.Prelude.{◌≡◌, ℕ, ◌-◌, ◌%◌, ◌==◌, nat_lt, List, length, take, drop, Option, Some, None}
use Rattle.std.specs.Prelude.{if◌then◌else◌, bit_and}
use Rattle.index_parts.specs.Numbers.{be, number}
use Rattle.entry_fields.specs.Flags.{is_extended, joined_words, stored_flags}
use Rattle.index_parts.specs.Mode.{stored_mode}
use Rattle.entry_fields.specs.Stat.{stat_of}
use Rattle.index_parts.specs.Id.{id_len, make_id}
use Rattle.index_parts.specs.ReadingSteps.{◌>>=◌, piece_at, split_at_byte, offset_at}
use Rattle.index_parts.specs.declared.hash.Kind.{Kind}
use Rattle.entry_list.specs.Record.{Record}

-- the parts of an entry before its path, with both words of flags as numbers; the second is 0 if there is none
pub record HeadValues : Type 0 where
  pub numbers : List ℕ
  pub id : List ℕ
  pub flags : ℕ
  pub extended : ℕ

-- the record of an entry with these values and this path; the mode is the seventh number
abbrev pub record_from : Kind → HeadValues → List ℕ → Record
record_from kind v path = record {
  path = path;
  stat = stat_of (take 24 v.numbers) (drop 28 v.numbers);
  id = make_id kind v.id;
  flags = stored_flags (joined_words v.flags v.extended);
  mode = stored_mode (number v.numbers 6);
}

-- the numbers and the id have the lengths that they have in a file with this hash algorithm
abbrev pub IsLong : Kind → HeadValues → Type 0
IsLong kind v = (length v.numbers ≡ 40) × (length v.id ≡ id_len kind)

-- the second word if there is one, or 0; None if it has a bit except 13 and 14
unfoldable pub second_at : ℕ → List ℕ → Option (ℕ × List ℕ)
second_at word bytes =
    if is_extended word then (do
      second ← piece_at 2 bytes
      if bit_and (be second.0) 0x6000 == be second.0 then Some (be second.0, second.1) else None)
    else Some (0, bytes)

unfoldable pub head_at : Kind → List ℕ → Option (HeadValues × List ℕ)
head_at kind bytes = do
  numbers ← piece_at 40 bytes
  id ← piece_at (id_len kind) numbers.1
  word ← piece_at 2 id.1
  second ← second_at (be word.0) word.1
  Some (record { numbers = numbers.0; id = id.0; flags = be word.0; extended = second.0 }, second.1)

-- the path, and the bytes after it
unfoldable pub path_at : ℕ → List ℕ → Option (List ℕ × List ℕ)
path_at field bytes =
    if field == 0xfff then (do
      x ← split_at_byte 0 bytes
      piece_at (length x.0) bytes)
    else piece_at field bytes

-- the head and the path, and the rest after the padding
unfoldable pub entry23_at : Kind → List ℕ → Option ((HeadValues × List ℕ) × List ℕ)
entry23_at kind bytes = do
  head ← head_at kind bytes
  path ← path_at (bit_and head.0.flags 0xfff) head.1
  padding ← piece_at (8 - (length bytes - length path.1) % 8) path.1
  Some ((head.0, path.0), padding.1)

-- the number of bytes that remain of a path of this length after n are removed; 0 if there is no path
abbrev pub shared_of : Option ℕ → ℕ → Option ℕ
shared_of None n = Some 0
shared_of (Some len) n = if nat_lt len n then None else Some (len - n)

-- the head, the number of bytes that remain of the path before, and the tail
unfoldable pub entry4_at : Kind → Option ℕ → List ℕ → Option ((HeadValues × ℕ × List ℕ) × List ℕ)
entry4_at kind room bytes = do
  head ← head_at kind bytes
  stripped ← offset_at head.1
  shared ← shared_of room stripped.0
  tail ← split_at_byte 0 stripped.1
  Some ((head.0, shared, tail.0), tail.1)
