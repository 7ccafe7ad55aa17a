-- The results of the calls that read or write an index in the system's files (the library's own). Nothing is known of
-- such a file, and a call may fail at any time.
use Rattle.std.specs.Prelude.{false, IfSome}
use Rattle.file_errors.specs.declared.verify.Error.{Error as VerifyFault}
use Rattle.file_place.specs.World.{Unknown, World}
use Rattle.gix_index.specs.File.{checksum_of}
use Rattle.gix_index.specs.VerifiedFile.{FitsFile, VerifyCause}
use Rattle.gix_index.specs.declared.file.File.{File}

-- what is known of each path of the system
abbrev pub system_world : World
system_world = λ path. Unknown

-- ---- verifying

-- the checksum matches the bytes of a file, if there is a checksum
abbrev pub FitsOnSystem : File → Type 0
FitsOnSystem f = IfSome (checksum_of f) (FitsFile Unknown)

-- why the checksum doesn't match the file at the index's path
abbrev pub SystemVerifyCause : File → VerifyFault → Type 0
SystemVerifyCause f e = VerifyCause f false system_world e
