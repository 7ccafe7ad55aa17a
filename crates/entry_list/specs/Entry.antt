-- One entry of a file as a sequence of bytes (gitformat-index, "Index entry").
use Rattle.std.specs.Prelude.{◌≡◌, ℕ, ◌+◌, ◌-◌, ◌%◌, ◌≤◌, ◌==◌, List, [], ◌++◌, length, take, drop, Option, Some, None}
use Rattle.std.specs.Prelude.{MatchBool, bit_and}
use Rattle.index_parts.specs.Numbers.{be, number, IsUpTo}
use Rattle.index_parts.specs.Id.{id_len, make_id}
use Rattle.entry_fields.specs.Flags.{is_extended, joined_words, stored_flags}
use Rattle.index_parts.specs.Mode.{stored_mode}
use Rattle.index_parts.specs.Offset.{StartsWithOffset}
use Rattle.index_parts.specs.declared.hash.Kind.{Kind}
use Rattle.entry_fields.specs.Stat.{stat_of}
use Rattle.entry_list.specs.declared.Version.{Version}
use Rattle.entry_list.specs.declared.Version.TheVariants.{V2, V3, V4}
use Rattle.entry_list.specs.Record.{Record}

-- the parts of an entry before its path: ten numbers of four bytes, the id, a word of flags, and a second word or
-- nothing
pub record EntryHead : Type 0 where
  pub numbers : List ℕ
  pub id : List ℕ
  pub word : List ℕ
  pub second : List ℕ

abbrev pub head_bytes : EntryHead → List ℕ
head_bytes f = f.numbers ++ (f.id ++ (f.word ++ f.second))

-- there is a second word exactly if bit 14 of the first is set; the second has no bits except 13 and 14
abbrev pub IsSecondWord : ℕ → List ℕ → Type 0
IsSecondWord word second =
    MatchBool (is_extended word) ((length second ≡ 2) × (bit_and (be second) 0x6000 ≡ be second)) (second ≡ [])

pub record IsEntryHead (kind : Kind) (f : EntryHead) : Type 0 where
  pub numbers : length f.numbers ≡ 40
  pub id : length f.id ≡ id_len kind
  pub word : length f.word ≡ 2
  pub second : IsSecondWord (be f.word) f.second

-- the record of an entry with this head and this path; the mode is the seventh number
abbrev pub record_of : Kind → EntryHead → List ℕ → Record
record_of kind f path = record {
  path = path;
  stat = stat_of (take 24 f.numbers) (drop 28 f.numbers);
  id = make_id kind f.id;
  flags = stored_flags (joined_words (be f.word) (be f.second));
  mode = stored_mode (number f.numbers 6);
}

-- bits 0 to 11 of the first word
abbrev pub length_field : EntryHead → ℕ
length_field f = bit_and (be f.word) 0xfff

-- The length field is the path's length if it is below 0xfff. If it is 0xfff, the path ends at
-- the first NUL.
abbrev pub IsPath : ℕ → List ℕ → List ℕ → Type 0
IsPath field path after =
    MatchBool (field == 0xfff) ((rest : List ℕ) × IsUpTo 0 (path ++ after) path rest) (length path ≡ field)

-- An entry of version 2 or 3 at the front of bytes. 1 to 8 bytes of any value pad it to a multiple of 8.
pub record IsEntry23 (kind : Kind) (bytes : List ℕ) (r : Record) (rest : List ℕ) : Type 0 where
  pub head : EntryHead
  pub is_head : IsEntryHead kind head
  pub padding : List ℕ
  pub parts : bytes ≡ head_bytes head ++ (r.path ++ (padding ++ rest))
  pub path : IsPath (length_field head) r.path (padding ++ rest)
  pub some_padding : 1 ≤ length padding
  pub small_padding : length padding ≤ 8
  pub whole : (length (head_bytes head) + length r.path + length padding) % 8 ≡ 0
  pub is : r ≡ record_of kind head r.path

-- the path before without its last n bytes, followed by the tail; only the tail if there is no path before
abbrev pub joined_path : Option (List ℕ) → ℕ → List ℕ → List ℕ
joined_path None n tail = tail
joined_path (Some previous) n tail = take (length previous - n) previous ++ tail

-- no more bytes are removed than the path before has
abbrev pub CanStrip : Option (List ℕ) → ℕ → Type 0
CanStrip None n = Unit {0}
CanStrip (Some previous) n = n ≤ length previous

-- An entry of version 4 at the front of bytes. After its head it has the number of bytes to remove from the path
-- before, as an offset number, and a tail up to a NUL.
pub record IsEntry4 (kind : Kind) (previous : Option (List ℕ)) (bytes : List ℕ) (r : Record) (rest : List ℕ)
    : Type 0 where
  pub head : EntryHead
  pub is_head : IsEntryHead kind head
  pub after : List ℕ
  pub parts : bytes ≡ head_bytes head ++ after
  pub stripped : ℕ
  pub delta : List ℕ
  pub is_offset : StartsWithOffset after stripped delta
  pub tail : List ℕ
  pub is_tail : IsUpTo 0 delta tail rest
  pub can_strip : CanStrip previous stripped
  pub is : r ≡ record_of kind head (joined_path previous stripped tail)

-- an entry of a version at the front of bytes; `previous` is the path before it, if there is one
abbrev pub IsEntry : Version → Kind → Option (List ℕ) → List ℕ → Record → List ℕ → Type 0
IsEntry V2 kind previous bytes r rest = IsEntry23 kind bytes r rest
IsEntry V3 kind previous bytes r rest = IsEntry23 kind bytes r rest
IsEntry V4 kind previous bytes r rest = IsEntry4 kind previous bytes r rest
