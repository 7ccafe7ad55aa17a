-- An index that replaced a file by means of a lock file (the library's own).
pub use Rattle.file_place.specs.Locks
pub use Rattle.file_place.specs.Times as FileTimes
pub use Rattle.file_place.specs.declared.lock.Lock
pub use Rattle.file_place.specs.declared.lock.Place
use Rattle.std.specs.Prelude.{◌≡◌, ◌≢◌, ◌⊎◌, ℕ, List, Bool, true}
use Rattle.file_place.specs.Locks.{lock_of, target_of}
use Rattle.file_place.specs.Times.{is_known_time}
use Rattle.file_place.specs.World.{Absent, Holds, StaysBut, Stored, World}
use Rattle.file_place.specs.declared.lock.Place.{Place as LockPlace}
use Rattle.index_model.specs.Contents.{Contents}
use Rattle.index_model.specs.Image.{image}
use Rattle.index_model.specs.declared.write.Options.{Options}

-- the file at a path is the image of an index, the lock is gone, and everything else that is known is unchanged
pub record IsPut (old new : World) (lock target : List ℕ) (v : Contents) (options : Options) : Type 0 where
  pub file : Stored
  pub here : new target ≡ Holds file
  pub is_image : file.bytes ≡ image v options
  pub unlocked : new lock ≡ Absent
  pub others : StaysBut (λ p. (p ≡ lock) ⊎ (p ≡ target)) old new

-- The file that was locked is the image of an index, the lock is gone, and everything else that is known is unchanged.
-- The file has the time of the index, if that time is known.
pub record IsPutSince (old new : World) (place : LockPlace) (v : Contents) (options : Options) : Type 0 where
  pub put : IsPut old new (lock_of place) (target_of place) v options
  pub is_time : is_known_time v.time ≡ true → put.file.time ≡ v.time

-- Everything that is known of paths is unchanged. If the folder doesn't work, the lock may exist.
abbrev pub LeavesLock : Bool → World → World → List ℕ → Type 0
LeavesLock works old new lock = StaysBut (λ p. (works ≢ true) × (p ≡ lock)) old new
