-- What is known of an index on a disk: of its file, and of the shared index with each id (gitformat-index, "Split
-- index").
pub use Rattle.file_place.specs.World
pub use Rattle.file_place.specs.declared.fault.PathError
use Rattle.std.specs.Prelude.{◌≡◌, ℕ, List, ◌++◌, codes, Bool, true, false, Option, Some, None}
use Rattle.std.specs.Path.{path_with_file_name}
use Rattle.hex.specs.Hex.{encode_lower}
use Rattle.index_parts.specs.Id.{id_bytes}
use Rattle.index_parts.specs.declared.hash.ObjectId.{ObjectId}
use Rattle.entry_fields.specs.declared.entry.stat.FileTime.{FileTime}
use Rattle.file_place.specs.World.{Holds, Known, MayBe, Special, Stored, World}

pub record Disk : Type 0 where
  pub own : Known
  pub shared : ObjectId → Known

-- the path of the shared index with this id: in the directory of the split index, named by the id in hexadecimal
abbrev pub shared_path : List ℕ → ObjectId → List ℕ
shared_path path id = path_with_file_name path (codes "sharedindex." ++ encode_lower (id_bytes id))

-- a file of which this is known, and the shared indexes in the directory of a path
abbrev pub disk_beside : Known → World → List ℕ → Disk
disk_beside own world path = record { own = own; shared = λ id. world (shared_path path id) }

-- the index at a path
abbrev pub disk_at : World → List ℕ → Disk
disk_at world path = disk_beside (world path) world path

-- The bytes of an index and of its shared index, whatever its id. The time of these files has no effect.
abbrev pub disk_in_hand : List ℕ → List ℕ → FileTime → Disk
disk_in_hand bytes shared time = record {
  own = Holds (record { bytes = bytes; time = time });
  shared = λ id. Holds (record { bytes = shared; time = time });
}

-- the file has these bytes, if it is known
abbrev pub MayHave : Known → List ℕ → Type 0
MayHave known bytes = MayBe known (λ file. bytes ≡ file.bytes)

-- what is known of an open file: that it exists
abbrev pub known_of : Option Stored → Known
known_of None = Special
known_of (Some file) = Holds file

-- the given time, or, if it is requested, the time of the file
abbrev pub IsTimeFor : Bool → FileTime → Known → FileTime → Type 0
IsTimeFor false given known time = time ≡ given
IsTimeFor true given known time = MayBe known (λ file. time ≡ file.time)
