-- The limit of memory that a caller sets, or none. It is the caller's own: no document of git has one.
use Rattle.std.specs.Prelude.{ℕ, ◌≤◌, nat_le, Bool, true, Option, Some, None}

-- `size` bytes are within the limit; None is no limit
abbrev pub IsWithin : Option ℕ → ℕ → Type 0
IsWithin None size = Unit {0}
IsWithin (Some limit) size = size ≤ limit

-- whether `size` bytes are within the limit, as a test for the order of errors
abbrev pub is_within : Option ℕ → ℕ → Bool
is_within None size = true
is_within (Some limit) size = nat_le size limit
