use Rattle.std.proofs.Common.{◌≡◌, length, List}
use Rattle.index_parts.specs.Digest.{hasher_kind, Holds}
use Rattle.index_parts.specs.declared.hash.Kind.TheVariants.{Sha1}
use Rattle.index_extensions.specs.EndMarker.{heads}
use Rattle.index_extensions.specs.Walk.{Item, AreItems}
use Rattle.index_extensions.proofs.end_of_index_entry.digest_of_heads.Given as goal

-- the heads of the extensions before the rest were hashed
abbrev pub invariant-loop-signature : goal.invariant-loop-signature
invariant-loop-signature l = (items : List Item) × record {
  items_are : AreItems l.bytes items l.rest;
  hashed : Holds l.hasher (heads items);
  kind : hasher_kind l.hasher ≡ Sha1;
}

abbrev pub decreases-loop-signature : goal.decreases-loop-signature
decreases-loop-signature l = length l.rest
