use Rattle.std.proofs.Common.{◌≡◌, All, List, take, refl, subst, arith}
use Rattle.std.proofs.lemmas.List.{take_all}
use Rattle.entry_list.specs.Record.{records_in}
use Rattle.entry_list.specs.Storable.{IsStorableIn}
use Rattle.entry_list.specs.declared.Entry.{Entry}
use Rattle.entry_list.proofs.StorableEntries.{storable_at, storable_push}
use Rattle.index_encode.proofs.storable.are_storable.Goals as goal

pub returns-then-not-is_storable : goal.returns-then-not-is_storable
returns-then-not-is_storable c = (
  λ t. absurd cc,
  λ all.
      let found = c.is_storable.ensures.1 (storable_at c.args.object_hash c.args.storage.now c.args.entries.now
      c.loop-entry.entry-index _ _ c.loop-entry-test.true c.path_in.ensures all) in
      rw c.if-not-is_storable.true at found,
)

pub loop-entry-preserved : goal.loop-entry-preserved
loop-entry-preserved c =
    storable_push c.args.object_hash c.args.storage.now c.args.entries.now c.loop-entry.entry-index _ _
    c.loop-entry-test.true c.path_in.ensures c.loop-entry.invariant
    (c.is_storable.ensures.0 c.if-not-is_storable.false)

pub returns : goal.returns
returns c =
    let whole : take c.loop-entry.entry-index c.args.entries.now ≡ c.args.entries.now =
    take_all c.loop-entry.entry-index c.args.entries.now (omega (arith, c.loop-entry-test.false)) in (
      λ t. subst (λ (es : List Entry). All (IsStorableIn c.args.object_hash) (records_in c.args.storage.now es)) whole
          c.loop-entry.invariant,
      λ all. refl,
    )
