-- Text that is composed from its end, each piece before those that are there (the library's own).
use Rattle.std.specs.Prelude.{ℕ, ◌≡◌, ◌+◌, ◌≤◌, List, ◌++◌, drop, length}

-- the buffer has `len` bytes before `end`
pub record HasRoomBefore (room : List ℕ) (end len : ℕ) : Type 0 where
  pub enough : len ≤ end
  pub within : end ≤ length room

-- from `start` on the buffer has the text, of at most `len` bytes, and then what it had from `end` on
pub record Prepends (old new : List ℕ) (end len start : ℕ) (text : List ℕ) : Type 0 where
  pub short : end ≤ start + len
  pub within : start ≤ length new
  pub written : drop start new ≡ text ++ drop end old
