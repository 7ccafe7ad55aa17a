-- The file system monitor extension (gitformat-index, "File System Monitor cache"): the point up to which its answer is
-- valid, and the entries that may have changed.
use Rattle.std.specs.Prelude.{◌≡◌, ◌≢◌, ℕ, List, [], ◌∷◌, ◌++◌, All, length}
use Rattle.bstr.specs.Owned.{bstring_bytes}
use Rattle.ext_bitmap.specs.Bitmap.{Bitmap, bitmap, IsBitmap}
use Rattle.index_parts.specs.Numbers.{be}
use Rattle.ext_small.specs.declared.fs_monitor.FsMonitor.{FsMonitor}
use Rattle.ext_small.specs.declared.fs_monitor.Token.{Token}
use Rattle.ext_small.specs.declared.fs_monitor.Token.TheVariants as tokens

-- a token: nanoseconds since 1970, or a text that only the monitor interprets
pub data TokenValue : Type 0 where
  nanoseconds : ℕ → TokenValue
  opaque : List ℕ → TokenValue

-- the code's token as plain data
abbrev pub token_value : Token → TokenValue
token_value (tokens.V1 nanos) = nanoseconds nanos
token_value (tokens.V2 text) = opaque (bstring_bytes text)

pub record Monitor : Type 0 where
  pub token : TokenValue
  pub dirty : Bitmap

-- the code's extension as plain data
abbrev pub monitor_of : FsMonitor → Monitor
monitor_of m = record { token = token_value m.token; dirty = bitmap m.entry_dirty }

-- bytes are a token of the version: nanoseconds in eight bytes for 1, or a text and a NUL for 2
pub data IsToken (version : ℕ) (bytes : List ℕ) (token : TokenValue) : Type 0 where
  version_1 : version ≡ 1 → length bytes ≡ 8 → token ≡ nanoseconds (be bytes) → IsToken version bytes token
  version_2 : (text : List ℕ) → version ≡ 2 → bytes ≡ text ++ 0 ∷ [] → All (λ b. b ≢ 0) text → token ≡ opaque text
      → IsToken version bytes token

-- Bytes are the version in four bytes, a token, the size of a bitmap in four bytes, and the bitmap. The bitmap has
-- exactly that size.
pub record IsMonitor (bytes : List ℕ) (m : Monitor) : Type 0 where
  pub version : List ℕ
  pub token : List ℕ
  pub size : List ℕ
  pub dirty : List ℕ
  pub parts : bytes ≡ version ++ (token ++ (size ++ dirty))
  pub version_len : length version ≡ 4
  pub is_token : IsToken (be version) token m.token
  pub size_len : length size ≡ 4
  pub dirty_len : length dirty ≡ be size
  pub is_dirty : IsBitmap dirty m.dirty []

pub record HasMonitor (bytes : List ℕ) : Type 0 where
  pub monitor : Monitor
  pub is_monitor : IsMonitor bytes monitor
