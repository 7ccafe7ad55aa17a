-- The number of bytes of a file after those in memory, and that they are too many.
use Rattle.std.proofs.Common.{◌≡◌, ◌+◌, ℕ, List, length, Option, Some, None, inl, inr, refl, ap, arith}
use Rattle.std.specs.Prelude.{Err, IfErr, IfSome, Ok, Result}
use Rattle.std.specs.Io.{StartsWith, appended_bytes}
use Rattle.std.specs.Io.KnownBytes.{Consumes}
use Rattle.std.specs.declared.io.Error.{Error as IoError}
use Rattle.std.proofs.KnownBytes.{starts_with_rest}
use Rattle.std.proofs.lemmas.List.{length-append}
use Rattle.std.specs.IoError.{error_kind}
use Rattle.std.specs.declared.io.ErrorKind.TheVariants.{FileTooLarge}
use Rattle.file_place.proofs.Sizes.{no_room_for}
use Rattle.file_place.specs.Sizes.{IsOwnFault, IsTooLong}
use Rattle.file_place.specs.World.{IsStatusOf, Stored, whole_of}
use Rattle.file_place.specs.declared.folder.Status.{Status}
use Rattle.file_windows.specs.ReadWhole.{IsFaultBehind}

-- this number of bytes is those in memory at first and those that came since, if the file is known
abbrev pub Counts : Option (List ℕ) → Option (List ℕ) → ℕ → ℕ → Type 0
Counts left now before len =
    IfSome left (λ l. (n : List ℕ) × (now ≡ Some n) × (len + length n ≡ before + length l))

pub counts_none : (left : Option (List ℕ)) (before len : ℕ) → len ≡ before → Counts left left before len
counts_none None before len is = tt
counts_none (Some l) before len is = (l, refl, ap (λ (n : ℕ). n + length l) is)

came : (now next : Option (List ℕ)) (n piece : List ℕ) (before len count total : ℕ) → now ≡ Some n
    → len + length n ≡ total → Consumes now next piece → length piece ≡ count
    → (m : List ℕ) × (next ≡ Some m) × ((len + count) + length m ≡ total)
came None next n piece before len count total is sum c long = absurd cc
came (Some x) None n piece before len count total is sum c long = absurd c
came (Some x) (Some m) n piece before len count total is sum c long = (
  m,
  refl,
  omega (
    arith,
    sum,
    long,
    ap length c,
    length-append piece m,
    ap (λ (o : Option (List ℕ)). some_len o) is,
  ),
)
  where
    some_len : Option (List ℕ) → ℕ
    some_len None = 0
    some_len (Some l) = length l

pub counts_on : (left now next : Option (List ℕ)) (piece : List ℕ) (before len count : ℕ) → Counts left now before len
    → Consumes now next piece → length piece ≡ count → Counts left next before (len + count)
counts_on None now next piece before len count h c long = tt
counts_on (Some l) now next piece before len count h c long =
    came now next h.0 piece before len count (before + length l) h.1 h.2 c long

pub counted_too_long : (left now : Option (List ℕ)) (before len : ℕ) → Counts left now before len → IsTooLong len
    → IfSome left (λ l. IsTooLong (before + length l))
counted_too_long None now before len h long = tt
counted_too_long (Some l) now before len h long = omega (arith, h.2, long)

-- the number of bytes that were appended is the number that came
pub appended_len : (old new : List ℕ) (count : ℕ) → StartsWith new old → length new ≡ length old + count
    → length (appended_bytes old new) ≡ count
appended_len old new count grows long = omega (
  arith,
  long,
  ap length (starts_with_rest new old grows),
  length-append old (appended_bytes old new),
)

-- bytes that were read after those in memory are too many
pub filled_too_long : (left now : Option (List ℕ)) (old new : List ℕ) → StartsWith new old
    → Consumes left now (appended_bytes old new) → IsTooLong (length new)
    → IfSome left (λ l. IsTooLong (length old + length l))
filled_too_long None now old new grows c long = tt
filled_too_long (Some l) None old new grows c long = absurd c
filled_too_long (Some l) (Some m) old new grows c long = omega (
  arith,
  long,
  ap length c,
  length-append (appended_bytes old new) m,
  ap length (starts_with_rest new old grows),
  length-append old (appended_bytes old new),
)

-- an error of reading on after the first bytes of a file is one of the file
pub fault_behind : (whole now : Option (List ℕ)) (head : List ℕ) (e : IoError) → Consumes whole now head
    → IsFaultBehind (length head) now e → IsOwnFault whole e
fault_behind whole now head e c (inl memory) = inl memory
fault_behind None now head e c (inr h) = inr (tt, h.1)
fault_behind (Some l) None head e c (inr h) = absurd c
fault_behind (Some l) (Some rest) head e c (inr h) =
    inr (omega (arith, h.0, ap length c, length-append head rest), h.1)

-- a file whose status reports too many bytes
pub says_too_long : (stored : Option Stored) (status : Status) (e : IoError) → IfSome stored (IsStatusOf status)
    → IsTooLong status.len → error_kind e ≡ FileTooLarge → IsOwnFault (whole_of stored) e
says_too_long stored status e told long is = no_room_for stored status e told (inr (long, is))

pub faults_behind : {T : Type 0} (whole now : Option (List ℕ)) (head : List ℕ) (r : Result T IoError)
    → Consumes whole now head → IfErr r (IsFaultBehind (length head) now) → IfErr r (IsOwnFault whole)
faults_behind whole now head (Ok x) c h = tt
faults_behind whole now head (Err e) c h = fault_behind whole now head e c h
