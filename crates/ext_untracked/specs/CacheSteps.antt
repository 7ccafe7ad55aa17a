-- The results of the readers of an untracked cache, as functions: a value and the rest, or nothing (gitformat-index,
-- "Untracked cache"). Public clauses cite none of these.
use Rattle.std.specs.Prelude.{ℕ, zero, suc, ◌-◌, ◌*◌, ◌/◌, ◌==◌, ◌&&◌, nat_le, nat_lt, Bool, List, [], ◌∷◌, length, map}
use Rattle.std.specs.Prelude.{slice_index, Option, Some, None, if◌then◌else◌}
use Rattle.bstr.specs.Owned.{bstring_bytes}
use Rattle.index_parts.specs.Numbers.{be}
use Rattle.index_parts.specs.Id.{id_len}
use Rattle.index_parts.specs.ReadingSteps.{◌>>=◌, piece_at, split_at_byte, offset_at}
use Rattle.index_parts.specs.declared.hash.Kind.{Kind}
use Rattle.ext_untracked.specs.Blocks.{BlockHead}
use Rattle.index_parts.specs.Limit.{is_within}
use Rattle.ext_untracked.specs.CacheBitmaps.{DirectoryBitmaps}
use Rattle.ext_untracked.specs.Untracked.{Preamble, oid_stat}
use Rattle.ext_untracked.specs.declared.blocks.BlockHead.{BlockHead as LentBlockHead}
use Rattle.ext_untracked.specs.declared.blocks.Start.{Start as OwnStart}
use Rattle.ext_untracked.specs.declared.preamble.Preamble.{Preamble as LentPreamble}
use Rattle.ext_untracked.specs.declared.bitmaps.DirectoryBitmaps.{DirectoryBitmaps as OwnBitmaps}

-- whether the last byte is 0
abbrev pub ends_with_nul : List ℕ → Bool
ends_with_nul bytes = nat_lt 0 (length bytes) && slice_index bytes (length bytes - 1) == 0

-- the fields of a cache before its directories
unfoldable pub preamble_at : Kind → List ℕ → Option (Preamble × List ℕ)
preamble_at kind bytes = do
  len ← offset_at bytes
  identifier ← piece_at len.0 len.1
  info ← piece_at 36 identifier.1
  excludes ← piece_at 36 info.1
  flags ← piece_at 4 excludes.1
  info_id ← piece_at (id_len kind) flags.1
  excludes_id ← piece_at (id_len kind) info_id.1
  name ← split_at_byte 0 excludes_id.1
  Some (
    record {
      identifier = identifier.0;
      info_exclude = oid_stat kind info.0 info_id.0;
      excludes_file = oid_stat kind excludes.0 excludes_id.0;
      dir_flags = be flags.0;
      exclude_filename = name.0;
    },
    name.1,
  )

-- the value of a preamble that borrows its texts
abbrev pub lent_preamble : LentPreamble → Preamble
lent_preamble f =
    record {
      identifier = f.identifier.now;
      info_exclude = f.info_exclude;
      excludes_file = f.excludes_file;
      dir_flags = f.dir_flags;
      exclude_filename = f.exclude_filename.now;
    }

-- the number of directories
unfoldable pub directory_count_at : Option ℕ → List ℕ → Option (ℕ × List ℕ)
directory_count_at limit bytes = do
  count ← offset_at bytes
  if nat_le count.0 (length count.1) && is_within limit (152 * count.0) then Some count else None

-- whether `left` bytes and the limit have room for what a head declares
abbrev pub is_allowed : Option ℕ → BlockHead → ℕ → Bool
is_allowed limit h left =
    nat_le h.untracked (left / 2) &&
    (nat_le h.subs (left / 2) && (is_within limit (24 * h.untracked) && is_within limit (8 * h.subs)))

abbrev pub allowed : Option ℕ → BlockHead → List ℕ → Option (BlockHead × List ℕ)
allowed limit h rest = if is_allowed limit h (length rest) then Some (h, rest) else None

-- the head of a block
unfoldable pub block_head_at : Option ℕ → List ℕ → Option (BlockHead × List ℕ)
block_head_at limit bytes = do
  untracked ← offset_at bytes
  subs ← offset_at untracked.1
  name ← split_at_byte 0 subs.1
  allowed limit (record { untracked = untracked.0; subs = subs.0; name = name.0 }) name.1

abbrev pub lent_block_head : LentBlockHead → BlockHead
lent_block_head h = record { untracked = h.untracked; subs = h.subs; name = h.name.now }

-- as many names as the first argument
abbrev pub names_at : ℕ → List ℕ → Option (List (List ℕ) × List ℕ)
names_at zero bytes = Some ([], bytes)
names_at (suc n) bytes =
    split_at_byte 0 bytes >>= λ name. names_at n name.1 >>= λ names. Some (name.0 ∷ names.0, names.1)

-- a block up to its directories
pub record Start : Type 0 where
  pub name : List ℕ
  pub untracked : List (List ℕ)
  pub subs : ℕ

unfoldable pub start_at : Option ℕ → List ℕ → Option (Start × List ℕ)
start_at limit bytes = do
  head ← block_head_at limit bytes
  names ← names_at head.0.untracked head.1
  Some (record { name = head.0.name; untracked = names.0; subs = head.0.subs }, names.1)

abbrev pub own_start : OwnStart → Start
own_start s = record { name = bstring_bytes s.name; untracked = map bstring_bytes s.untracked.items; subs = s.subs }

abbrev pub own_bitmaps : OwnBitmaps → DirectoryBitmaps
own_bitmaps m = record { valid = m.valid.items; check_only = m.check_only.items; hash_valid = m.hash_valid.items }
