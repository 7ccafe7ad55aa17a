-- Object ids: a hash algorithm, and as many bytes as its digests have (gitformat-index; FIPS 180-4: 160 or 256 bits).
use Rattle.std.specs.Prelude.{ℕ, ◌==◌, Bool, List, length, Option, Some, None, if◌then◌else◌, replicate}
use Rattle.std.specs.List.{list_all}
use Rattle.index_parts.specs.declared.hash.Kind.{Kind}
use Rattle.index_parts.specs.declared.hash.Kind.TheVariants as kinds
use Rattle.index_parts.specs.declared.hash.ObjectId.{ObjectId}
use Rattle.index_parts.specs.declared.hash.ObjectId.TheVariants as ids

-- the number of bytes of an id of this hash algorithm
abbrev pub id_len : Kind → ℕ
id_len kinds.Sha1 = 20
id_len kinds.Sha256 = 32

abbrev pub id_bytes : ObjectId → List ℕ
id_bytes (ids.Sha1 bytes) = bytes
id_bytes (ids.Sha256 bytes) = bytes

abbrev pub id_kind : ObjectId → Kind
id_kind (ids.Sha1 bytes) = kinds.Sha1
id_kind (ids.Sha256 bytes) = kinds.Sha256

-- the id of a hash algorithm with these bytes
abbrev pub make_id : Kind → List ℕ → ObjectId
make_id kinds.Sha1 bytes = ids.Sha1 bytes
make_id kinds.Sha256 bytes = ids.Sha256 bytes

-- all bytes are zero
abbrev pub is_null : List ℕ → Bool
is_null bytes = list_all (λ byte. byte == 0) bytes

-- the id of zeros
abbrev pub null_id : Kind → ObjectId
null_id kind = make_id kind (replicate (id_len kind) 0)

-- the id with these bytes, if there are 20 or 32
abbrev pub id_of : List ℕ → Option ObjectId
id_of bytes =
    if length bytes == 20 then Some (ids.Sha1 bytes) else (if length bytes == 32 then Some (ids.Sha256 bytes) else None)
