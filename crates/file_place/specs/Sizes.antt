-- The maximum length of an index file. The errors for a longer file, and for one that doesn't fit in memory (the
-- library's own).
use Rattle.std.specs.Prelude.{◌≡◌, ◌⊎◌, ◌<◌, ℕ, List, length, Option, IfSome}
use Rattle.std.specs.IoError.{error_kind}
use Rattle.std.specs.declared.io.Error.{Error}
use Rattle.std.specs.declared.io.ErrorKind.TheVariants.{FileTooLarge, OutOfMemory}

-- The maximum length of an index in bytes: 2^32 plus a trailer of SHA-256.
abbrev pub max_len : ℕ
max_len = 4294967328

-- A file of this length is longer than an index can be.
abbrev pub IsTooLong : ℕ → Type 0
IsTooLong len = max_len < len

-- An allocation failure, or that a file is too long, if `MayBeLong` holds.
abbrev pub IsSizeFault : Type 0 → Error → Type 0
IsSizeFault MayBeLong e = (error_kind e ≡ OutOfMemory) ⊎ (MayBeLong × (error_kind e ≡ FileTooLarge))

-- An error of reading these bytes of an open file, if they are known.
abbrev pub IsOwnFault : Option (List ℕ) → Error → Type 0
IsOwnFault bytes e = IsSizeFault (IfSome bytes (λ bs. IsTooLong (length bs))) e

-- This number of bytes can't be allocated, or is more than an index has.
abbrev pub IsRoomFault : ℕ → Error → Type 0
IsRoomFault len e = IsSizeFault (IsTooLong len) e
