use Rattle.std.proofs.Common.{◌≡◌, ℕ, [], ◌∷◌, ◌++◌, List, length, Option, Some, refl, sym, subst}
use Rattle.std.specs.Prelude.{codes}
use Rattle.std.specs.Option.{option_map}
use Rattle.std.proofs.lemmas.Result.{IfErr-weaker, IfOk-weaker}
use Rattle.index_parts.specs.Id.{id_len}
use Rattle.index_parts.specs.declared.hash.Kind.{Kind}
use Rattle.index_extensions.specs.ExtensionValue.{IsRead, IsValue, first_content}
use Rattle.ext_small.specs.OffsetTable.{IsTable, IsOffsetTable, walked}
use Rattle.index_extensions.specs.Walk.{Item, IsWalk, cursor, unread}
use Rattle.ext_small.specs.declared.index_entry_offset_table.Offset.{Offset}
use Rattle.ext_small.proofs.FirstContent.{first_none, found_item}
use Rattle.index_extensions.proofs.Walks.{step_item, step_more, step_ends}
use Rattle.ext_small.proofs.index_entry_offset_table.find.Goals as goal

-- the value of the content that was found is that of the table
table_found : (kind : Kind) (bytes start trailer : List ℕ) (items : List Item) (tail content : List ℕ)
    (found : Option (List Offset))
    → bytes ≡ start ++ trailer → length trailer ≡ id_len kind → IsWalk start items tail
    → first_content (codes "IEOT") items ≡ Some content → IsRead IsTable content found → IsOffsetTable kind bytes found
table_found kind bytes start trailer items tail content found parts len walk first h = walked start trailer items tail
    parts len walk (subst (λ (o : Option (List ℕ)). IsValue IsTable o found) (sym first) h)

pub returns-then-eq-clause-found : goal.returns-then-eq-clause-found
returns-then-eq-clause-found c =
    let inv = c.loop-item.invariant in
    let i : Item = step_item (c.in-Some-next.item.0, c.in-Some-next.item.1.now) (cursor c.loop-item.walk)
    (cursor c.next.new.self) c.in-Some-next.ensures.steps in
    let w = found_item (codes "IEOT") inv.0 (unread c.loop-item.walk) (unread c.next.new.self) inv.2 i inv.3.items_are
    inv.3.none c.in-Some-next.ensures.steps.is_item (sym c.if-eq.ensures) in
    IfOk-weaker c.decode.result _ _ (λ found h. table_found c.args.object_hash c.args.extensions.now inv.0 inv.1 w.0 w.1
    i.content (option_map (λ v. v.items) found) inv.3.parts inv.3.trailer_len w.2 w.3 h) c.decode.ensures.read

pub loop-item-preserved : goal.loop-item-preserved
loop-item-preserved c =
    let inv = c.loop-item.invariant in
    let x : List ℕ × List ℕ = (c.in-Some-next.item.0, c.in-Some-next.item.1.now) in
    let i : Item = step_item x (cursor c.loop-item.walk) (cursor c.next.new.self) c.in-Some-next.ensures.steps in (
      inv.0,
      inv.1,
      inv.2 ++ i ∷ [],
      record {
        parts = inv.3.parts;
        trailer_len = inv.3.trailer_len;
        items_are = step_more inv.0 inv.2 x (cursor c.loop-item.walk)
            (cursor c.next.new.self) inv.3.items_are c.in-Some-next.ensures.steps;
        none = first_none (codes "IEOT") inv.2 i inv.3.none (sym c.if-eq.ensures);
      },
    )

pub returns-clause-found : goal.returns-clause-found
returns-clause-found c =
    let inv = c.loop-item.invariant in
    let w = step_ends inv.0 inv.2 (cursor c.loop-item.walk)
    (cursor c.next.new.self) inv.3.items_are c.in_default-next.ensures.steps in
    walked inv.0 inv.1 inv.2 (unread c.loop-item.walk) inv.3.parts inv.3.trailer_len w (rw inv.3.none refl)

pub returns-then-eq-clause-memory : goal.returns-then-eq-clause-memory
returns-then-eq-clause-memory c =
    let inv = c.loop-item.invariant in
    let i : Item = step_item (c.in-Some-next.item.0, c.in-Some-next.item.1.now) (cursor c.loop-item.walk)
    (cursor c.next.new.self) c.in-Some-next.ensures.steps in
    let w = found_item (codes "IEOT") inv.0 (unread c.loop-item.walk) (unread c.next.new.self) inv.2 i inv.3.items_are
    inv.3.none c.in-Some-next.ensures.steps.is_item (sym c.if-eq.ensures) in
    IfErr-weaker c.decode.result _ _
    (λ error h. (
      h.blocks,
      table_found c.args.object_hash c.args.extensions.now inv.0 inv.1 w.0 w.1 i.content
          (Some h.blocks) inv.3.parts inv.3.trailer_len w.2 w.3 h.is_table,
    )) c.decode.ensures.memory
