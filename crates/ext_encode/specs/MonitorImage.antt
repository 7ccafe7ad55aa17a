-- The bytes that are written for the file system monitor extension (gitformat-index, "File System Monitor cache").
use Rattle.std.specs.Prelude.{◌≢◌, ℕ, ◌^◌, ◌<◌, List, [], ◌∷◌, ◌++◌, All, codes, length}
use Rattle.index_parts.specs.Numbers.{be32}
use Rattle.ext_bitmap.specs.Bitmap.{Bitmap}
use Rattle.index_extensions.specs.Encoding.{item_of}
use Rattle.index_extensions.specs.Walk.{Item}
use Rattle.ext_small.specs.FsMonitor.{TokenValue, nanoseconds, opaque, Monitor, token_value}
use Rattle.ext_small.specs.declared.fs_monitor.Token.{Token}
use Rattle.ext_bitmap.specs.BitmapImage.{be64, bitmap_bytes, borrowed_bitmap, IsSpellableBitmap}
use Rattle.ext_bitmap.specs.declared.write.BorrowedVec.{BorrowedVec}

-- a token and a bitmap with borrowed words, as plain data
abbrev pub borrowed_monitor : Token → BorrowedVec → Monitor
borrowed_monitor token dirty = record { token = token_value token; dirty = borrowed_bitmap dirty }

-- the version of a token: 1 for nanoseconds, 2 for a text
abbrev pub token_version : TokenValue → ℕ
token_version (nanoseconds n) = 1
token_version (opaque text) = 2

-- nanoseconds in eight bytes, or the text and a NUL
abbrev pub token_bytes : TokenValue → List ℕ
token_bytes (nanoseconds n) = be64 n
token_bytes (opaque text) = text ++ 0 ∷ []

-- the size of a bitmap in four bytes, and the bitmap
unfoldable pub sized_bitmap_bytes : Bitmap → List ℕ
sized_bitmap_bytes b = be32 (length (bitmap_bytes b)) ++ bitmap_bytes b

-- the version in four bytes, the token, the size of the bitmap in four bytes, and the bitmap
unfoldable pub monitor_bytes : Monitor → List ℕ
monitor_bytes m = be32 (token_version m.token) ++ (token_bytes m.token ++ sized_bitmap_bytes m.dirty)

-- the file system monitor extension with its head
abbrev pub monitor_item : Monitor → Item
monitor_item m = item_of (codes "FSMN") (monitor_bytes m)

-- the nanoseconds fit into eight bytes, and the text contains no NUL
abbrev pub IsSpellableToken : TokenValue → Type 0
IsSpellableToken (nanoseconds n) = n < 2 ^ 64
IsSpellableToken (opaque text) = All (λ b. b ≢ 0) text

pub record IsSpellableMonitor (m : Monitor) : Type 0 where
  pub token : IsSpellableToken m.token
  pub dirty : IsSpellableBitmap m.dirty
  pub size : length (bitmap_bytes m.dirty) < 2 ^ 32
