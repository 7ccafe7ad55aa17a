-- When bytes are an index written again, and the names of errors. These definitions belong to the example alone.
use Rattle.std.specs.Prelude.{◌≡◌, ℕ, List, Option, Ok, codes}
use Rattle.gix_index.specs.Answer.{Answer, IsAnswer, trailer_checksum}
use Rattle.gix_index.specs.Contents.{Contents}
use Rattle.gix_index.specs.DecodeError.{Error}
use Rattle.gix_index.specs.DecodeError.TheVariants as errors
use Rattle.gix_index.specs.DecodeErrors.{DecodeCause}
use Rattle.gix_index.specs.DecodeOptions.{Options as Reading}
use Rattle.gix_index.specs.ExtensionError.TheVariants as extensions
use Rattle.gix_index.specs.FileTime.{FileTime}
use Rattle.gix_index.specs.HeaderError.TheVariants as headers
use Rattle.gix_index.specs.Image.{trailer}
use Rattle.gix_index.specs.Kind.{Kind}
use Rattle.gix_index.specs.Laws.{TakesAll}
use Rattle.gix_index.specs.ObjectId.{ObjectId}
use Rattle.gix_index.specs.Stored.{expected}
use Rattle.gix_index.specs.WriteOptions.{Options}
use Rattle.examples.specs.declared.repair.Repaired.{Repaired}
use Rattle.examples.specs.declared.repair.Repaired.TheVariants.{Again, Faulty}

-- The bytes encode what a file stores of the contents `v`. If a reader has the hash algorithm of `v`, no memory limit
-- and no expected id, its only possible answer is that value, with the trailer that was written.
abbrev pub ReadsAs : Contents → Options → List ℕ → Type 0
ReadsAs v options bytes = (time : FileTime) (reading : Reading) (a : Answer) → TakesAll reading
    → IsAnswer v.kind time reading bytes a
    → a ≡ Ok (expected v options time, trailer_checksum v.kind (trailer v options))

-- The name of an error.
abbrev pub name_of : Error → List ℕ
name_of (errors.Header (headers.Corrupt text)) = codes "header"
name_of (errors.Header (headers.UnsupportedVersion n)) = codes "version"
name_of errors.Hasher = codes "hasher"
name_of errors.OutOfMemory = codes "limit"
name_of (errors.Entry i) = codes "entry"
name_of (errors.Extension (extensions.MandatoryUnimplemented signature)) = codes "extension"
name_of (errors.Extension (extensions.Link e)) = codes "link"
name_of (errors.UnexpectedTrailerLength expected actual) = codes "length"
name_of (errors.Verify actual expected) = codes "digest"
name_of errors.Memory = codes "memory"

-- A result is right for the bytes of an index, read without a memory limit and without an expected id. `Faulty` has an
-- error that the bytes give, and its name. `Again` has bytes that encode what a file stores of the value that the
-- format gives the bytes.
abbrev pub IsRepaired : Kind → Options → List ℕ → Repaired → Type 0
IsRepaired kind options bytes (Faulty name fault) = (name.now ≡ name_of fault)
    × ((time : FileTime) × (reading : Reading) × TakesAll reading
    × DecodeCause fault (IsAnswer kind time reading bytes))
IsRepaired kind options bytes (Again again) =
    (v : Contents) × (id : Option ObjectId) × (time : FileTime) × (reading : Reading) × TakesAll reading
    × IsAnswer kind time reading bytes (Ok (v, id)) × ReadsAs v options again.items
