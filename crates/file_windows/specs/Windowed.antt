-- A file that is read in windows: the states before and after a step (the library's own).
use Rattle.std.specs.Prelude.{◌≡◌, ℕ, ◌≤◌, true, List, ◌++◌, length, drop, Option, None, Result, IfOk, IfSome}
use Rattle.std.specs.Io.KnownBytes.{Consumes}
use Rattle.index_parts.specs.Digest.{hasher_kind, Holds}
use Rattle.index_parts.specs.declared.hash.Hasher.{Hasher}
use Rattle.entry_list.specs.Entries.{AreEntries}
use Rattle.entry_list.specs.Record.{Record, AreBytes}
use Rattle.file_place.specs.declared.folder.Source.{Ghosts}
use Rattle.file_windows.specs.declared.plan.Plan.{Plan}

-- A state of reading a file: the remaining bytes, if they are known; the hasher; the window; the number of decoded
-- bytes in it; and the records so far.
pub record Moment : Type 0 where
  pub left : Option (List ℕ)
  pub hasher : Hasher
  pub window : List ℕ
  pub decoded : ℕ
  pub records : List Record

-- The state of reading an open file with this window.
abbrev pub moment_of : {S : Type 0} → Ghosts S → S → Hasher → List ℕ → ℕ → List Record → Moment
moment_of source file hasher window decoded records =
    record { left = source.remaining file; hasher = hasher; window = window; decoded = decoded; records = records }

-- It holds of the result, if there is one and no error.
abbrev pub IfGiven : {T E : Type 0} → Result (Option T) E → (T → Type 0) → Type 0
IfGiven result P = IfOk result (λ o. IfSome o P)

-- The hasher took these bytes, if they are to be hashed.
abbrev pub TakesIn : Plan → Hasher → Hasher → List ℕ → Type 0
TakesIn plan old new bytes =
    plan.is_hashed ≡ true → (message : List ℕ) → Holds old message → Holds new (message ++ bytes)

-- This number of bytes was added to the window. Those that left the window were hashed, if they are to be.
pub record IsMovedOn (plan : Plan) (old new : Moment) (count : ℕ) : Type 0 where
  pub more : List ℕ
  pub taken : List ℕ
  pub bytes : old.window ++ more ≡ taken ++ new.window
  pub len : length more ≡ count
  pub are_bytes : AreBytes taken
  pub consumed : Consumes old.left new.left more
  pub kind_stays : hasher_kind new.hasher ≡ hasher_kind old.hasher
  pub hashed : TakesIn plan old.hasher new.hasher taken
  pub inside : new.decoded ≤ length new.window

-- What was decoded, up to an index in the window, is the front of any bytes that end with the window, before and after.
pub record IsReadOn (plan : Plan) (old new : Moment) (count : ℕ) : Type 0 where
  pub moved : IsMovedOn plan old new count
  pub read : (all : List ℕ) → AreEntries plan.version plan.kind None all old.records (drop old.decoded old.window)
      → AreEntries plan.version plan.kind None (all ++ moved.more) new.records (drop new.decoded new.window)

-- These bytes were passed, from one index to a later one.
pub record IsPassedOn (plan : Plan) (old new : Moment) (count : ℕ) (passed : List ℕ) : Type 0 where
  pub moved : IsMovedOn plan old new count
  pub behind : drop old.decoded old.window ++ moved.more ≡ passed ++ drop new.decoded new.window
