-- Definitions for clauses about digests, about writers that compute them, and about writers that only pass bytes on
-- (the library's own names).
pub use Rattle.index_parts.specs.Digest
pub use Rattle.index_parts.specs.declared.hash.Hasher
pub use Rattle.index_parts.specs.declared.hash.io.Out
pub use Rattle.index_parts.specs.declared.hash.io.Plain
pub use Rattle.index_parts.specs.declared.hash.io.Retrying
pub use Rattle.index_parts.specs.declared.hash.io.Write as DigestWriter
pub use Rattle.index_parts.specs.declared.hash.verify.Error as DigestError
