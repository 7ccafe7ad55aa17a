use Rattle.std.proofs.Common.{◌≡◌, take}
use Rattle.index_parts.specs.Digest.{hasher_kind, Holds}
use Rattle.index_extensions.specs.Encoding.{heads_bytes}
use Rattle.index_extensions.proofs.end_of_index_entry.digest_of_pairs.Given as goal

-- the pairs before this one were hashed
abbrev pub invariant-loop-signature : goal.invariant-loop-signature
invariant-loop-signature l = record {
  hashed : Holds l.hasher (heads_bytes (take l.signature-index l.prior_extensions));
  kind : hasher_kind l.hasher ≡ l.fn.object_hash;
}
