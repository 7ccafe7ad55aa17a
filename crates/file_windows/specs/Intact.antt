-- The digest of a file, compared before its bytes are read (gitformat-index, "Hash checksum over the content of the
-- index file before this checksum").
use Rattle.std.specs.Prelude.{◌≡◌, ◌≢◌, ℕ, ◌-◌, ◌&&◌, not, nat_lt, Bool, true, List, length, take, drop, MatchBool}
use Rattle.index_parts.specs.Digest.{digest}
use Rattle.index_parts.specs.Id.{id_len, is_null, make_id}
use Rattle.index_parts.specs.declared.hash.Kind.{Kind}
use Rattle.index_parts.specs.declared.hash.ObjectId.{ObjectId}
use Rattle.index_model.specs.declared.error.Error.{Error}
use Rattle.index_model.specs.declared.error.Error.TheVariants.{Verify}

-- All bytes except the last, the length of an id.
abbrev pub checked_part : Kind → List ℕ → List ℕ
checked_part kind bytes = take (length bytes - id_len kind) bytes

abbrev pub trailer_part : Kind → List ℕ → List ℕ
trailer_part kind bytes = drop (length bytes - id_len kind) bytes

-- There is a trailer, and all its bytes are zero.
abbrev pub ends_in_null : Kind → List ℕ → Bool
ends_in_null kind bytes = not (nat_lt (length bytes) (id_len kind)) && is_null (trailer_part kind bytes)

-- The digest is compared: the caller doesn't skip it, there is a trailer, and some byte of it isn't zero.
abbrev pub needs_check : Bool → Kind → List ℕ → Bool
needs_check skip kind bytes =
    not skip && not (nat_lt (length bytes) (id_len kind)) && not (is_null (trailer_part kind bytes))

-- The digest of the bytes, and the trailer, as ids.
abbrev pub digest_id : Kind → List ℕ → ObjectId
digest_id kind bytes = make_id kind (digest kind (checked_part kind bytes))

abbrev pub trailer_id : Kind → List ℕ → ObjectId
trailer_id kind bytes = make_id kind (trailer_part kind bytes)

-- If the digest is compared, it is the trailer.
abbrev pub IsIntact : Bool → Kind → List ℕ → Type 0
IsIntact skip kind bytes =
    MatchBool (needs_check skip kind bytes) (digest_id kind bytes ≡ trailer_id kind bytes) (Unit {0})

-- The digest is compared, and it isn't the trailer.
abbrev pub IsBroken : Bool → Kind → List ℕ → Type 0
IsBroken skip kind bytes = (needs_check skip kind bytes ≡ true) × (digest_id kind bytes ≢ trailer_id kind bytes)

-- The error for a digest that isn't the trailer.
abbrev pub digest_fault : Kind → List ℕ → Error
digest_fault kind bytes = Verify (digest_id kind bytes) (trailer_id kind bytes)
