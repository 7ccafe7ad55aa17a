-- What a file system has at its paths, as far as that is known (the library's own).
use Rattle.std.specs.Prelude.{◌≡◌, ◌≢◌, ◌⊎◌, ℕ, List, ◌++◌, codes, drop, length, Bool, true, Option, IfSome}
use Rattle.std.specs.Option.{option_map}
use Rattle.std.specs.IoError.{error_kind}
use Rattle.std.specs.declared.io.Error.{Error}
use Rattle.std.specs.declared.io.ErrorKind.TheVariants.{NotFound}
use Rattle.entry_fields.specs.declared.entry.stat.FileTime.{FileTime}
use Rattle.file_place.specs.Sizes.{IsSizeFault, IsTooLong}
use Rattle.file_place.specs.declared.folder.Standing.{Standing}
use Rattle.file_place.specs.declared.folder.Standing.TheVariants as standings
use Rattle.file_place.specs.declared.folder.Status.{Status}

-- A regular file: its bytes, and the time of its last change.
pub record Stored : Type 0 where
  pub bytes : List ℕ
  pub time : FileTime

-- What is at a path. What is known stays until the owner of the file system changes it. If others may change it at any
-- time, nothing is known.
pub data Known : Type 0 where
  Unknown : Known
  Absent : Known
  Holds : (file : Stored) → Known
  Leads : (to : List ℕ) → Known
  Directory : Known
  Special : Known

-- What is at each path.
abbrev pub World : Type 0
World = List ℕ → Known

-- ---- examining

-- The type that is seen of it. No link is followed.
abbrev pub IsSeen : Known → Standing → Type 0
IsSeen Unknown standing = Unit {0}
IsSeen Absent standing = standing ≡ standings.Nothing
IsSeen (Holds file) standing = standing ≡ standings.File
IsSeen (Leads to) standing = standing ≡ standings.Link
IsSeen Directory standing = standing ≡ standings.Folder
IsSeen Special standing = standing ≡ standings.Special

-- A link may have this text.
abbrev pub MayLead : Known → List ℕ → Type 0
MayLead Unknown text = Unit {0}
MayLead (Leads to) text = text ≡ to
MayLead Absent text = ⊥
MayLead (Holds file) text = ⊥
MayLead Directory text = ⊥
MayLead Special text = ⊥

-- It may not be a link, because others may have changed it.
abbrev pub MayBeNoLink : Known → Type 0
MayBeNoLink known = (text : List ℕ) → known ≢ Leads text

-- ---- open files

-- The status of an open file.
pub record IsStatusOf (status : Status) (file : Stored) : Type 0 where
  pub plain : status.is_plain ≡ true
  pub len : status.len ≡ length file.bytes
  pub modified : status.modified ≡ file.time

-- The bytes from an offset on, if the file is known.
abbrev pub from_place : ℕ → Option Stored → Option (List ℕ)
from_place place stored = option_map (λ file. drop place file.bytes) stored

-- All bytes of a file, if it is known.
abbrev pub whole_of : Option Stored → Option (List ℕ)
whole_of stored = option_map (λ file. file.bytes) stored

-- The predicate holds of the file that is opened at a path, if it is known. Nothing is stated of the target of a link,
-- or of what isn't a regular file.
abbrev pub MayBe : Known → (Stored → Type 0) → Type 0
MayBe Unknown P = Unit {0}
MayBe Absent P = ⊥
MayBe (Holds file) P = P file
MayBe (Leads to) P = Unit {0}
MayBe Directory P = Unit {0}
MayBe Special P = Unit {0}

-- It may be that no file is there.
abbrev pub MayBeMissing : Known → Type 0
MayBeMissing Unknown = Unit {0}
MayBeMissing Absent = Unit {0}
MayBeMissing (Holds file) = ⊥
MayBeMissing (Leads to) = Unit {0}
MayBeMissing Directory = ⊥
MayBeMissing Special = ⊥

-- An error of the file at a path, or that none is there.
abbrev pub IsFaultOf : Known → Error → Type 0
IsFaultOf known e = IsSizeFault (MayBe known (λ file. IsTooLong (length file.bytes))) e
    ⊎ ((error_kind e ≡ NotFound) × MayBeMissing known)

-- ---- changes

-- What is known of a path stays.
abbrev pub Stays : Known → Known → Type 0
Stays old new = old ≢ Unknown → new ≡ old

-- What is known of all paths except these stays.
abbrev pub StaysBut : (List ℕ → Type 0) → World → World → Type 0
StaysBut P old new = (p : List ℕ) → (P p → ⊥) → Stays (old p) (new p)

-- Nothing may be at the path, so a file can be created there.
abbrev pub MayBeFree : Known → Type 0
MayBeFree Unknown = Unit {0}
MayBeFree Absent = Unit {0}
MayBeFree (Holds file) = ⊥
MayBeFree (Leads to) = ⊥
MayBeFree Directory = ⊥
MayBeFree Special = ⊥

-- Something may be at the path.
abbrev pub MayBeTaken : Known → Type 0
MayBeTaken k = k ≢ Absent

-- A new file was created at a path, and is there, as far as that is known. If the owner respects locks, the file that
-- the new file locks is known from then on.
pub record Makes (guards : Bool) (old new : World) (path : List ℕ) : Type 0 where
  pub free : MayBeFree (old path)
  pub there : MayBeTaken (new path)
  pub others : StaysBut (λ p. p ≡ path) old new
  pub guarded : guards ≡ true → (p : List ℕ) → p ++ codes ".lock" ≡ path → new p ≢ Unknown

-- A file replaced what was at a path, and nothing is at its old path. It has these bytes, if they are known, and each
-- time of its last change.
pub record Moves (old new : World) (from to : List ℕ) (bytes : Option (List ℕ)) (Changed : FileTime → Type 0)
    : Type 0 where
  pub file : Stored
  pub here : new to ≡ Holds file
  pub are_bytes : IfSome bytes (λ bs. file.bytes ≡ bs)
  pub is_time : (time : FileTime) → Changed time → file.time ≡ time
  pub moved : from ≢ to → new from ≡ Absent
  pub others : StaysBut (λ p. (p ≡ from) ⊎ (p ≡ to)) old new

-- Nothing is at a path.
pub record Removes (old new : World) (path : List ℕ) : Type 0 where
  pub gone : new path ≡ Absent
  pub others : StaysBut (λ p. p ≡ path) old new
