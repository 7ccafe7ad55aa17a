-- The result of comparing a file's bytes with a checksum (gitformat-index, "Hash checksum").
use Rattle.std.specs.Prelude.{◌≡◌, ◌≢◌, Bool, ℕ, ◌<◌, ◌≤◌, List, length, Some}
use Rattle.index_parts.specs.Id.{id_kind, id_len}
use Rattle.index_parts.specs.declared.hash.ObjectId.{ObjectId}
use Rattle.file_windows.specs.Intact.{digest_id}
use Rattle.file_place.specs.World.{Known, World}
use Rattle.gix_index.specs.Disk.{MayHave}
use Rattle.gix_index.specs.File.{checksum_of, path_of}
use Rattle.gix_index.specs.FileFaults.{IsOfFile}
use Rattle.gix_index.specs.declared.file.File.{File}
use Rattle.file_errors.specs.declared.verify.Error.{Error}
use Rattle.file_errors.specs.declared.verify.Error.TheVariants as errors

-- There are fewer bytes than the checksum has. Or there are enough, and the digest of the bytes before the last ones is
-- another. The last ones are as many as the checksum has.
abbrev pub ChecksumCause : List ℕ → ObjectId → Error → Type 0
ChecksumCause bytes checksum errors.TooShort = length bytes < id_len (id_kind checksum)
ChecksumCause bytes checksum (errors.Verify e) =
    (id_len (id_kind checksum) ≤ length bytes) × (digest_id (id_kind checksum) bytes ≢ checksum)
    × (e.actual ≡ digest_id (id_kind checksum) bytes) × (e.expected ≡ checksum)
ChecksumCause bytes checksum (errors.Io e) = ⊥
ChecksumCause bytes checksum errors.Memory = ⊥

-- there are at least as many bytes as the checksum has, and it is the digest of the bytes before that many last ones
abbrev pub HasDigest : List ℕ → ObjectId → Type 0
HasDigest bytes checksum =
    (id_len (id_kind checksum) ≤ length bytes) × (digest_id (id_kind checksum) bytes ≡ checksum)

-- The checksum matches the file. It is the digest of the file's bytes before the last ones, which are as many as the
-- checksum has.
abbrev pub FitsFile : Known → ObjectId → Type 0
FitsFile known checksum = (bytes : List ℕ) × MayHave known bytes × HasDigest bytes checksum

-- An error that follows from the file's bytes. If none were read, it is a disk error that names the path, or an
-- allocation failure, which implies nothing.
abbrev pub FileChecksumCause : List ℕ → Bool → Known → ObjectId → Error → Type 0
FileChecksumCause path works known checksum errors.TooShort =
    (bytes : List ℕ) × MayHave known bytes × ChecksumCause bytes checksum errors.TooShort
FileChecksumCause path works known checksum (errors.Verify e) =
    (bytes : List ℕ) × MayHave known bytes × ChecksumCause bytes checksum (errors.Verify e)
FileChecksumCause path works known checksum (errors.Io fault) = IsOfFile path works known fault
FileChecksumCause path works known checksum errors.Memory = Unit {0}

-- why the checksum of an index doesn't match the file at its path, if the index has a checksum
abbrev pub VerifyCause : File → Bool → World → Error → Type 0
VerifyCause f works world e =
    (checksum : ObjectId) × (checksum_of f ≡ Some checksum)
    × FileChecksumCause (path_of f) works (world (path_of f)) checksum e
