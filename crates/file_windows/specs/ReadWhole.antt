-- A file that is read to its end, not in windows. The result is all its bytes, or its first error if its first bytes
-- aren't a header (gitformat-index, "A 12-byte header"; the library's own).
use Rattle.std.specs.Prelude.{◌≡◌, ◌≤◌, ℕ, ◌+◌, ◌-◌, Bool, false, true, List, ◌++◌, drop, length, Err, Option, Result}
use Rattle.std.specs.Prelude.{IfErr, IfOk, IfSome, OnOk, slice_range}
use Rattle.std.specs.declared.io.Error.{Error as IoError}
use Rattle.entry_list.specs.Header.{header_of}
use Rattle.file_place.specs.Sizes.{IsSizeFault, IsTooLong, max_len}
use Rattle.file_place.specs.World.{Stored}
use Rattle.file_place.specs.declared.folder.Source.{Ghosts}
use Rattle.index_model.specs.HeaderErrors.{header_fault}
use Rattle.index_model.specs.declared.error.Error.{Error}
use Rattle.index_model.specs.declared.error.Error.TheVariants as errors
use Rattle.index_model.specs.declared.error.Header.{Header}
use Rattle.index_parts.specs.Digest.{hasher_kind, Holds}
use Rattle.index_parts.specs.Id.{id_len, is_null}
use Rattle.index_parts.specs.declared.hash.Hasher.{Hasher}
use Rattle.index_parts.specs.declared.hash.Kind.{Kind}
use Rattle.index_parts.specs.declared.hash.ObjectId.{ObjectId}
use Rattle.file_windows.specs.Answers.{IsAllOf}
use Rattle.file_windows.specs.Intact.{IsBroken, IsIntact, checked_part, digest_fault, digest_id, needs_check}
use Rattle.file_windows.specs.Intact.{trailer_part}
use Rattle.file_windows.specs.declared.disk.Pieces.{Pieces}
use Rattle.file_windows.specs.declared.disk.WholeFile.{WholeFile}
use Rattle.file_windows.specs.declared.disk.WholeFile.TheVariants as whole

-- ---- whether the digest is compared

-- The trailer of the file is null, if the file is known.
abbrev pub EndsInNull : Kind → Option Stored → Type 0
EndsInNull kind stored = IfSome stored (λ file. is_null (trailer_part kind file.bytes) ≡ true)

-- The digest of the file isn't compared.
abbrev pub IsUnchecked : Bool → Kind → Option Stored → Type 0
IsUnchecked skip kind stored = IfSome stored (λ file. needs_check skip kind file.bytes ≡ false)

-- ---- hashing

-- The bytes in memory from an index on were passed, except the last, the length of an id. They were hashed, if
-- requested. They and those before them were removed unless they are held.
pub record PassesFront (kind : Kind) (is_hashed is_held : Bool) (from : ℕ) (h i : Hasher) (old new : List ℕ) (passed : ℕ)
    : Type 0 where
  pub kind_stays : hasher_kind i ≡ hasher_kind h
  pub taken : is_hashed ≡ true
      → (m : List ℕ) → Holds h m → Holds i (m ++ slice_range old from (length old - id_len kind))
  pub held : is_held ≡ true → (new ≡ old) × (passed ≡ length old - id_len kind)
  pub let_go : is_held ≡ false → (new ≡ drop (length old - id_len kind) old) × (passed ≡ 0)

-- The number of bytes that were read before and all that were left of a file. A hasher took all except the last, the
-- length of an id, if they are to be hashed. All of them are in memory, or only those last.
pub record AreFilePieces (kind : Kind) (is_hashed is_held : Bool) (left : Option (List ℕ)) (before after : List ℕ)
    (x : Pieces) : Type 0 where
  pub more : List ℕ
  pub whole : IfSome left (λ l. more ≡ l)
  pub len : x.len ≡ length (before ++ more)
  pub is_kind : hasher_kind x.hasher ≡ kind
  pub hashed : is_hashed ≡ true → Holds x.hasher (checked_part kind (before ++ more))
  pub held : is_held ≡ true → after ≡ before ++ more
  pub let_go : is_held ≡ false → after ≡ trailer_part kind (before ++ more)

-- This is the digest of the bytes that were read before and all that were left of a file. All of them are in memory, or
-- only the last, the length of an id.
pub record AreHashed (kind : Kind) (is_held : Bool) (left : Option (List ℕ)) (before after : List ℕ) (id : ObjectId)
    : Type 0 where
  pub more : List ℕ
  pub whole : IfSome left (λ l. more ≡ l)
  pub digest : id ≡ digest_id kind (before ++ more)
  pub held : is_held ≡ true → after ≡ before ++ more
  pub let_go : is_held ≡ false → after ≡ trailer_part kind (before ++ more)

-- An allocation failure; or the bytes that were read before and all that were left of a file are too many.
abbrev pub IsFaultBehind : ℕ → Option (List ℕ) → IoError → Type 0
IsFaultBehind before left e = IsSizeFault (IfSome left (λ l. IsTooLong (before + length l))) e

pub record ReadsPieces {S : Type 0} (source : Ghosts S) (old new : S) (kind : Kind) (is_hashed is_held : Bool)
    (before after : List ℕ) (result : Result Pieces IoError) : Type 0 where
  pub pieces : IfOk result (AreFilePieces kind is_hashed is_held (source.remaining old) before after)
  pub bound : IfOk result (λ x. x.len ≤ max_len)
  pub stored : source.stored new ≡ source.stored old
  pub works : source.works new ≡ source.works old
  pub fault : source.works old ≡ true → IfErr result (IsFaultBehind (length before) (source.remaining old))

pub record HashesToEnd {S : Type 0} (source : Ghosts S) (old new : S) (kind : Kind) (is_held : Bool)
    (before after : List ℕ) (result : Result ObjectId IoError) : Type 0 where
  pub hashed : IfOk result (AreHashed kind is_held (source.remaining old) before after)
  pub bound : OnOk result (is_held ≡ true → length after ≤ max_len)
  pub stored : source.stored new ≡ source.stored old
  pub works : source.works new ≡ source.works old
  pub fault : source.works old ≡ true → IfErr result (IsFaultBehind (length before) (source.remaining old))

-- ---- bytes that aren't a header

-- Whatever follows these bytes, their header has this error.
abbrev pub LacksHeader : Kind → List ℕ → Header → Type 0
LacksHeader kind head fault = (more : List ℕ) → header_of kind (head ++ more) ≡ Err (header_fault fault)

-- The first error of bytes whose header has this error. The digest is compared before.
pub data IsRefusal (skip : Bool) (kind : Kind) (bytes : List ℕ) (fault : Header) (e : Error) : Type 0 where
  broken : IsBroken skip kind bytes → e ≡ digest_fault kind bytes → IsRefusal skip kind bytes fault e
  intact : IsIntact skip kind bytes → e ≡ errors.Header fault → IsRefusal skip kind bytes fault e

-- The first error of bytes that end with this trailer and whose header has this error, if `id` is their digest.
abbrev pub IsComparedFirst : Kind → ObjectId → List ℕ → Header → Error → Type 0
IsComparedFirst kind id trailer fault e =
    (bytes : List ℕ) → trailer ≡ trailer_part kind bytes → id ≡ digest_id kind bytes
    → IsRefusal false kind bytes fault e

-- The first error of a head and all that was left of a file after it, if the header has this error.
abbrev pub IsRefusalBehind : Kind → List ℕ → Option (List ℕ) → Header → Error → Type 0
IsRefusalBehind kind head left fault e =
    (more : List ℕ) × IfSome left (λ l. more ≡ l) × IsRefusal false kind (head ++ more) fault e

-- ---- the file

-- All bytes of the file, if it is known, have a header with an error. `e` is their first error.
pub record IsRefusedFile (stored : Option Stored) (skip : Bool) (kind : Kind) (e : Error) : Type 0 where
  pub bytes : List ℕ
  pub whole : IsAllOf stored bytes
  pub fault : Header
  pub header : header_of kind bytes ≡ Err (header_fault fault)
  pub refusal : IsRefusal skip kind bytes fault e

-- These are all bytes of the file, with their digest, if that was computed; or this is its first error.
abbrev pub IsReadWhole : Option Stored → Bool → Kind → WholeFile → Type 0
IsReadWhole stored skip kind (whole.Held bytes digest) =
    IsAllOf stored bytes.items × IfSome digest (λ id. id ≡ digest_id kind bytes.items)
IsReadWhole stored skip kind (whole.Refused e) = IsRefusedFile stored skip kind e

-- At most the bytes of the longest index are in memory.
abbrev pub HoldsFew : WholeFile → Type 0
HoldsFew (whole.Held bytes digest) = length bytes.items ≤ max_len
HoldsFew (whole.Refused e) = Unit {0}
