-- The first twelve bytes of a file (gitformat-index, "A 12-byte header").
use Rattle.std.specs.Prelude.{ℕ, ◌+◌, ◌==◌, nat_eq, nat_lt, List, length, take, drop, codes, Option, Some, None, Result}
use Rattle.std.specs.Prelude.{Ok, Err, if◌then◌else◌}
use Rattle.std.specs.List.{starts_with}
use Rattle.index_parts.specs.Numbers.{be}
use Rattle.index_parts.specs.Id.{id_len}
use Rattle.index_parts.specs.declared.hash.Kind.{Kind}
use Rattle.entry_list.specs.declared.Version.{Version}
use Rattle.entry_list.specs.declared.Version.TheVariants.{V2, V3, V4}

-- the number of bytes of a header, and its first four bytes
abbrev pub header_len : ℕ
header_len = 12

abbrev pub signature : List ℕ
signature = codes "DIRC"

-- an error of a header: a text, or the version that isn't supported
pub data HeaderFault : Type 0 where
  Corrupt : List ℕ → HeaderFault
  UnsupportedVersion : ℕ → HeaderFault

-- the version with this number, or None if it isn't supported
abbrev pub version_of : ℕ → Option Version
version_of n = if n == 2 then Some V2 else (if n == 3 then Some V3 else (if n == 4 then Some V4 else None))

abbrev pub version_number : List ℕ → ℕ
version_number bytes = be (take 4 (drop 4 bytes))

-- the declared number of entries
abbrev pub count_of : List ℕ → ℕ
count_of bytes = be (take 4 (drop 8 bytes))

abbrev pub version_or_fault : ℕ → Option Version → Result Version HeaderFault
version_or_fault n None = Err (UnsupportedVersion n)
version_or_fault n (Some version) = Ok version

-- the version, or the first error of the header: of its length together with that of a trailer, its signature, or its
-- version
abbrev pub header_of : Kind → List ℕ → Result Version HeaderFault
header_of kind bytes =
    if nat_lt (length bytes) (header_len + id_len kind)
    then Err (Corrupt (codes "File is too small even for header with zero entries and smallest hash"))
    else (if starts_with nat_eq bytes signature
    then version_or_fault (version_number bytes) (version_of (version_number bytes))
    else Err (Corrupt (codes "Signature mismatch - this doesn't claim to be a header file")))
