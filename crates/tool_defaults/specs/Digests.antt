-- Which hash algorithm the ids of an index have, by its trailer (gitformat-index, "Hash checksum over the content of
-- the index file before this checksum").
use Rattle.std.specs.Prelude.{◌≡◌, ◌≤◌, ◌↔◌, ℕ, Bool, List, length, take, true, Option, Some, None}
use Rattle.std.specs.Prelude.{Result, IfErr, IfOk, IfSome, IsTrue, codes}
use Rattle.std.specs.Global.{Vec}
use Rattle.std.specs.IoError.{error_kind}
use Rattle.std.specs.declared.io.Error.{Error}
use Rattle.std.specs.declared.io.ErrorKind.TheVariants.{OutOfMemory}
use Rattle.gix_index.specs.Disk.World.{whole_of}
use Rattle.gix_index.specs.Hashing.Digest.{digest}
use Rattle.gix_index.specs.Id.{id_len}
use Rattle.gix_index.specs.Intact.{checked_part, trailer_part}
use Rattle.gix_index.specs.Kind.{Kind}
use Rattle.gix_index.specs.Kind.TheVariants as kinds
use Rattle.gix_index.specs.OnDisk.SourceTrait.{Ghosts}
use Rattle.file_place.specs.Sizes.{IsOwnFault}

-- the last bytes, as many as an id of this algorithm has, are the checksum of all before them
abbrev pub EndsWithDigest : Kind → List ℕ → Type 0
EndsWithDigest kind bytes =
    (id_len kind ≤ length bytes) × (trailer_part kind bytes ≡ digest kind (checked_part kind bytes))

-- the hash algorithm whose checksum the trailer is, if it is one; SHA-1 if it were both
abbrev pub IsKindOf : List ℕ → Option Kind → Type 0
IsKindOf bytes (Some kinds.Sha1) = EndsWithDigest kinds.Sha1 bytes
IsKindOf bytes (Some kinds.Sha256) =
    (EndsWithDigest kinds.Sha1 bytes → ⊥) × EndsWithDigest kinds.Sha256 bytes
IsKindOf bytes None =
    (EndsWithDigest kinds.Sha1 bytes → ⊥) × (EndsWithDigest kinds.Sha256 bytes → ⊥)

-- what a header begins with (gitformat-index, "The signature is { 'D', 'I', 'R', 'C' }")
abbrev pub HasSignature : List ℕ → Type 0
HasSignature bytes = take 4 bytes ≡ codes "DIRC"

-- ---- what each reading of an open file returns

-- all bytes of the file, if they are known
pub record ReadsFew {S : Type 0} (source : Ghosts S) (old new : S) (result : Result (Option (Vec ℕ)) Error)
    : Type 0 where
  pub whole : IfOk result (λ read. IfSome read (λ bytes. IfSome (source.stored old) (λ file. bytes.items ≡ file.bytes)))
  pub stored : source.stored new ≡ source.stored old
  pub works : source.works new ≡ source.works old
  pub fault : source.works old ≡ true → IfErr result (λ e. error_kind e ≡ OutOfMemory)

-- whether the trailer of the file is the checksum by this algorithm
pub record ComparesDigest {S : Type 0} (source : Ghosts S) (old new : S) (kind : Kind) (result : Result Bool Error)
    : Type 0 where
  pub told : IfOk result (λ is. IfSome (source.stored old) (λ file. IsTrue is ↔ EndsWithDigest kind file.bytes))
  pub stored : source.stored new ≡ source.stored old
  pub works : source.works new ≡ source.works old
  pub fault : source.works old ≡ true → IfErr result (IsOwnFault (whole_of (source.stored old)))

-- the hash algorithm by the trailer of the file
pub record ReadsTrailer {S : Type 0} (source : Ghosts S) (old : S) (result : Result (Option Kind) Error) : Type 0 where
  pub told : IfOk result (λ kind. IfSome (source.stored old) (λ file. IsKindOf file.bytes kind))
  pub fault : source.works old ≡ true → IfErr result (IsOwnFault (whole_of (source.stored old)))
