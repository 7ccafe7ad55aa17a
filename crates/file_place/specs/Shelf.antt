-- The content of a shelf and its files, and whether their steps may fail (the library's own).
use Rattle.std.specs.Prelude.{◌≡◌, ℕ, ◌==◌, ◌++◌, codes, List, Bool, true, false, Option, Some, None, String, IsSomeAnd, nat_le}
use Rattle.std.specs.BTreeMap.{BTreeMap, get_by_text}
use Rattle.std.specs.Io.Cursor.{cursor_inner, cursor_remaining}
use Rattle.file_place.specs.World.{Absent, Holds, Known, Stored, Unknown, World}
use Rattle.entry_fields.specs.declared.entry.stat.FileTime.{FileTime}
use Rattle.file_place.specs.declared.file.ShelfFile.{ShelfFile}
use Rattle.file_place.specs.declared.made.ShelfMade.{ShelfMade}
use Rattle.file_place.specs.declared.shelf.Kept.{Kept}
use Rattle.file_place.specs.declared.shelf.Shelf.{Shelf}
use Rattle.file_place.specs.declared.steps.Fault.{Fault}
use Rattle.file_place.specs.declared.steps.Fault.TheVariants as faults

-- The step with this number, counted from 1, fails.
abbrev pub fails_at : Fault → ℕ → Bool
fails_at faults.Never step = false
fails_at (faults.At at) step = step == at
fails_at (faults.Since first) step = nat_le first step

-- No step fails.
abbrev pub works_with : Fault → Bool
works_with faults.Never = true
works_with (faults.At step) = false
works_with (faults.Since step) = false

-- ---- a shelf

-- What is known of a path at which this is stored.
abbrev pub known_as : Option Kept → Known
known_as None = Absent
known_as (Some kept) = Holds (record { bytes = kept.bytes.items; time = kept.time })

-- What is stored at each path.
abbrev pub kept_in : {A : Type 0} → BTreeMap (String A) Kept → List ℕ → Option Kept
kept_in files path = get_by_text files path

abbrev pub kept_at : Shelf → List ℕ → Option Kept
kept_at shelf = kept_in shelf.files

-- What is known of a path at which `kept` is stored, with `lock` at the path with `.lock` appended. If nobody else
-- changes files, what is stored is known. Else it is known while the lock is there, whoever created it. Without the
-- lock nothing is known. A lock is a path like any other: it is known only while it has a lock of its own.
abbrev pub known_by : Bool → Option Kept → Option Kept → Known
known_by true lock kept = known_as kept
known_by false None kept = Unknown
known_by false (Some lock) kept = known_as kept

-- What is known of each path if these files are stored.
abbrev pub world_by : Bool → (List ℕ → Option Kept) → World
world_by alone files path = known_by alone (files (path ++ codes ".lock")) (files path)

-- What is known of each path of a shelf.
abbrev pub world_of : Shelf → World
world_of shelf = world_by shelf.is_alone (kept_at shelf)

-- The bytes of the file were on the disk before it was moved to its path.
abbrev pub IsDurable : Option Kept → Type 0
IsDurable kept = IsSomeAnd kept (λ k. k.is_durable ≡ true)

abbrev pub memory_fault : Shelf → Fault
memory_fault shelf = shelf.steps.fault

-- ---- its open files

-- The file as it was when it was opened.
abbrev pub stored_of : ShelfFile → Stored
stored_of file = record { bytes = (cursor_inner file.bytes).items; time = file.time }

-- The bytes that are left to be read.
abbrev pub rest_of : ShelfFile → Option (List ℕ)
rest_of file = cursor_remaining (λ bytes. Some bytes.items) file.bytes

abbrev pub file_fault : ShelfFile → Fault
file_fault file = file.steps.fault

-- The bytes that were written.
abbrev pub written_bytes : ShelfMade → List ℕ
written_bytes made = made.bytes.items

-- The time of the last change.
abbrev pub time_of : ShelfMade → FileTime
time_of made = made.time
