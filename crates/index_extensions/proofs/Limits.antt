-- The test of a limit determines what is within it.
use Rattle.std.proofs.Common.{◌≡◌, ℕ, true, Option, Some, None, refl}
use Rattle.std.proofs.lemmas.Bool.{leb-true, le-leb}
use Rattle.index_parts.specs.Limit.{IsWithin, is_within}

pub within_from : (limit : Option ℕ) (size : ℕ) → is_within limit size ≡ true → IsWithin limit size
within_from None size e = tt
within_from (Some limit) size e = leb-true size limit e

pub within_true : (limit : Option ℕ) (size : ℕ) → IsWithin limit size → is_within limit size ≡ true
within_true None size h = refl
within_true (Some limit) size h = le-leb size limit h
