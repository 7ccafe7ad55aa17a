-- The id of a file's bytes (the book "Pro Git", "Git Objects").
use Rattle.std.specs.Prelude.{◌≡◌, ◌↔◌, ℕ, List, ◌∷◌, ◌++◌, length, codes, decimal, None, IfSome}
use Rattle.gix_index.specs.Hashing.Digest.{digest}
use Rattle.gix_index.specs.Id.{make_id}
use Rattle.gix_index.specs.Kind.{Kind}
use Rattle.gix_index.specs.ObjectId.{ObjectId}
use Rattle.index_c.specs.Numbers.{kind_numbered}
use Rattle.index_c.specs.declared.status.TheConstants.{DONE, WRONG_NUMBER}
use Rattle.capi_table.specs.Table.{padded_id}

-- what is hashed: the object's type, a space, the number of bytes, a NUL, and the bytes
abbrev pub blob_message : List ℕ → List ℕ
blob_message bytes = codes "blob " ++ (decimal (length bytes) ++ 0 ∷ bytes)

unfoldable pub blob_id : Kind → List ℕ → ObjectId
blob_id kind bytes = make_id kind (digest kind (blob_message bytes))

-- The id of the blob is given for a known hash algorithm, followed by zeros if it is of SHA-1. For another number the
-- id is as it was.
pub record GivesBlobId (number : ℕ) (bytes old new : List ℕ) (status : ℕ) : Type 0 where
  pub known : IfSome (kind_numbered number) (λ k. (status ≡ DONE) × (new ≡ padded_id (blob_id k bytes)))
  pub wrong : (status ≡ WRONG_NUMBER) ↔ (kind_numbered number ≡ None)
  pub unwritten : status ≡ WRONG_NUMBER → new ≡ old
