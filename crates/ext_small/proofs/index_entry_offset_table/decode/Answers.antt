use Rattle.std.proofs.Common.{◌≡◌, ℕ, [], List, length, Option, Some, None, sym}
use Rattle.std.specs.Option.{option_map}
use Rattle.std.proofs.lemmas.Bool.{eqb-false, eqb-true}
use Rattle.std.proofs.lemmas.Result.{IfErr-weaker, IfOk-weaker}
use Rattle.index_parts.specs.Numbers.{StartsWithNumber}
use Rattle.index_parts.proofs.Readers.{number_takes}
use Rattle.index_extensions.specs.ExtensionValue.{IsRead}
use Rattle.ext_small.specs.OffsetTable.{AreEntryBlocks, IsTable}
use Rattle.ext_small.specs.declared.index_entry_offset_table.Offset.{Offset}
use Rattle.ext_small.proofs.EntryBlocks.{table_parts, table_from}
use Rattle.ext_small.proofs.index_entry_offset_table.decode.Goals as goal
use Rattle.ext_small.proofs.index_entry_offset_table.decode.Goals.{then-version-ne-VERSION-via-then-version-ne-VERSION}
use Rattle.ext_small.proofs.index_entry_offset_table.decode.Goals.{then-version-ne-VERSION-via-else-version-ne-VERSION+then-is_empty}

-- what the blocks after the version imply about the table
table_read : (bytes : List ℕ) (n : ℕ) (rest : List ℕ) → StartsWithNumber 4 bytes n rest → n ≡ 1 → (length rest ≡ 0 → ⊥)
    → (found : Option (List Offset)) → IsRead (λ all blocks. AreEntryBlocks all blocks []) rest found
    → IsRead IsTable bytes found
table_read bytes n rest s one left (Some blocks) h = table_from bytes blocks n rest s one left h
table_read bytes n rest s one left None h = λ blocks t. h blocks (table_parts bytes blocks n rest t s).1

pub returns-then-version-ne-VERSION-clause-read : goal.returns-then-version-ne-VERSION-clause-read
returns-then-version-ne-VERSION-clause-read c = λ blocks h.
    let t = table_parts c.args.«data».now blocks c.in-Some.version c.in-Some.rest.now h
    (number_takes 4 c.args.«data».now (c.in-Some.version, c.in-Some.rest.now) (sym c.in-Some.ensures)) in
    elim c.then-version-ne-VERSION.branch [
      | then-version-ne-VERSION-via-then-version-ne-VERSION w ↦ w.if-version-ne-VERSION.true t.0
      | then-version-ne-VERSION-via-else-version-ne-VERSION+then-is_empty w ↦
          t.2 (eqb-true _ _ (sym w.if-is_empty.ensures))
    ]

pub returns-clause-read : goal.returns-clause-read
returns-clause-read c = IfOk-weaker c.entry_blocks_of.result _ _
    (λ found h. table_read c.args.«data».now c.in-Some.version c.in-Some.rest.now (number_takes 4 c.args.«data».now
    (c.in-Some.version, c.in-Some.rest.now) (sym c.in-Some.ensures)) c.if-version-ne-VERSION.false
    (eqb-false _ _ (sym c.if-is_empty.ensures)) (option_map (λ v. v.items) found) h) c.entry_blocks_of.ensures.read

pub returns-clause-memory : goal.returns-clause-memory
returns-clause-memory c = IfErr-weaker c.entry_blocks_of.result _ _
    (λ error h. record {
      blocks = h.0;
      is_table = table_from c.args.«data».now h.0 c.in-Some.version c.in-Some.rest.now
          (number_takes 4 c.args.«data».now (c.in-Some.version, c.in-Some.rest.now) (sym c.in-Some.ensures))
          c.if-version-ne-VERSION.false (eqb-false _ _ (sym c.if-is_empty.ensures)) h.1;
    }) c.entry_blocks_of.ensures.memory
