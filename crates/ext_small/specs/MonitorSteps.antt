-- The results of the readers of the file system monitor, as functions: a value and the rest, or nothing
-- (gitformat-index, "File System Monitor cache"). Public clauses cite none of these.
use Rattle.std.specs.Prelude.{◌≡◌, ℕ, ◌+◌, ◌*◌, ◌==◌, ◌&&◌, nat_le, Bool, List, [], length, Option, Some, None}
use Rattle.std.specs.Prelude.{if◌then◌else◌}
use Rattle.ext_bitmap.specs.Bitmap.{Bitmap, IsBitmap}
use Rattle.index_parts.specs.Numbers.{number}
use Rattle.index_parts.specs.ReadingSteps.{◌>>=◌, split_at_byte, number_at}
use Rattle.ext_small.specs.FsMonitor.{TokenValue, nanoseconds, opaque}
use Rattle.ext_small.specs.declared.fs_monitor.parts.LentToken.{LentToken}
use Rattle.ext_small.specs.declared.fs_monitor.parts.LentToken.TheVariants as lent

-- the token of a version
unfoldable pub token_at : ℕ → List ℕ → Option (TokenValue × List ℕ)
token_at version bytes =
    if version == 1 then (number_at 8 bytes >>= λ time. Some (nanoseconds time.0, time.1))
    else (if version == 2 then (split_at_byte 0 bytes >>= λ text. Some (opaque text.0, text.1)) else None)

-- the token, the size of the bitmap, and the rest
unfoldable pub parts_at : List ℕ → Option (TokenValue × ℕ × List ℕ)
parts_at bytes = do
  version ← number_at 4 bytes
  token ← token_at version.0 version.1
  size ← number_at 4 token.1
  Some (token.0, size.0, size.1)

-- the value of a token that borrows its text
abbrev pub lent_token : LentToken → TokenValue
lent_token (lent.V1 nanos) = nanoseconds nanos
lent_token (lent.V2 text) = opaque text.now

-- whether the number of bytes is that of a bitmap with the number of words that they declare
abbrev pub has_bitmap_len : List ℕ → Bool
has_bitmap_len bytes = nat_le 12 (length bytes) && length bytes == 12 + 8 * number bytes 1

-- bytes are a bitmap of this size, and nothing follows it
pub record IsSizedBitmap (size : ℕ) (bytes : List ℕ) (b : Bitmap) : Type 0 where
  pub len : length bytes ≡ size
  pub is_bitmap : IsBitmap bytes b []
