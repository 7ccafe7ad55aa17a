use Rattle.std.proofs.Common.{rules, ◌≡◌, ◌+◌, ℕ, List, [], ◌∷◌, ◌++◌, ◌^◌, ◌<◌, length, Some, ap}
use Rattle.std.proofs.Common.{refl, length-append, arith}
use Rattle.std.proofs.lemmas.List.Elements.{All-push}
use Rattle.gix_index.proofs.Walks.{step_item, step_more, step_counts}
use Rattle.gix_index.specs.Outcome.{ExtensionFault, IsFault}
use Rattle.gix_index.specs.Walk.{Item, Steps, cursor, unread}
use Rattle.view_salvage.proofs.Laid.{item_grown, items_end}
use Rattle.view_salvage.specs.ItemSteps.{IsSoundItem, ItemFaultCause}
use Rattle.view_salvage.proofs.items.walk_items.Goals as goal

pub returns-in-Some-2 : goal.returns-in-Some-2
returns-in-Some-2 c =
    let inv = c.loop-item.invariant in
    let x : List ℕ × List ℕ = (c.in-Some.item.0, c.in-Some.item.1.now) in
    let h : Steps (cursor c.loop-item.items) (Some x) (cursor c.next.new.self) = c.in-Some.ensures.steps in
    let told : ItemFaultCause c.args.kind x.0 x.1 c.in-Some-2.fault = rw c.in-Some-2.is at c.in_ok-fault.ensures.fault
    in
    let t = told h.size in
    record {
      items = inv.0;
      tail = unread c.loop-item.items;
      items_are = inv.1;
      sound = inv.2;
      are = inv.3;
      end = inv.5;
      ended = record {
        item = step_item x _ _ h;
        rest = unread c.next.new.self;
        fault = t.0;
        is_item = h.is_item;
        is_fault = t.1.1;
        told = t.1.0;
      };
    }

pub loop-item-preserved : goal.loop-item-preserved
loop-item-preserved c =
    let inv = c.loop-item.invariant in
    let x : List ℕ × List ℕ = (c.in-Some.item.0, c.in-Some.item.1.now) in
    let from = cursor c.loop-item.items in
    let to = cursor c.next.new.self in
    let h : Steps from (Some x) to = c.in-Some.ensures.steps in
    let i = step_item x from to h in
    let sound : IsSoundItem c.args.kind x.0 x.1 = rw c.in_default-2.is at c.in_ok-fault.ensures.fault in
    let lt : length c.args.extensions.now < 2 ^ 64 = search rules in
    let head = c.in_ok-push_part.ensures (i.signature ++ i.size)
    (omega (arith, length-append i.signature i.size, h.is_item.signature_len, h.is_item.size_len)) in
    let content = c.in_ok-push_part-2.ensures x.1 refl in
    let len : length from.rest ≡ 8 + length x.1 + length to.rest = omega (
      arith,
      ap length h.is_item.parts,
      h.is_item.signature_len,
      h.is_item.size_len,
      length-append i.signature (i.size ++ (i.content ++ to.rest)),
      length-append i.size (i.content ++ to.rest),
      length-append i.content to.rest,
    ) in (
      inv.0 ++ i ∷ [],
      step_more c.args.extensions.now inv.0 x from to inv.1 h,
      All-push (λ (y : Item). (f : ExtensionFault) → IsFault c.args.kind y f → ⊥) inv.0 i inv.2 (sound h.size),
      item_grown c.args.offset c.loop-item.end inv.0 i _ _ _ _ h.is_item.signature_len h.is_item.size_len inv.3
          (items_end c.args.offset c.loop-item.end c.args.extensions.now inv.0 (unread c.loop-item.items) inv.1 inv.5)
          head content,
      step_counts (length c.args.extensions.now) x from to lt inv.4 h,
      omega (arith, len, inv.5),
    )
