use Rattle.std.proofs.Common.{rules, ◌≡◌, ◌≢◌, ◌+◌, length, Some, refl, sym, ap, subst, ◌∙◌, option_map, arith}
use Rattle.gix_index.specs.Answer.{Extension, Fault, TrailerLength}
use Rattle.gix_index.specs.Id.{id_len}
use Rattle.gix_index.specs.Walk.{NoItem, left_of}
use Rattle.view_salvage.proofs.Divided.{if_ok_both, if_ok_then}
use Rattle.view_salvage.proofs.Walked.{split_parts, walked_end, walked_refused, walked_sealed, walked_tail}
use Rattle.view_salvage.specs.Division.{faulty, left}
use Rattle.view_salvage.specs.ItemSteps.{IsAtFault}
use Rattle.view_salvage.proofs.division.walk_ending.Goals as goal

pub overflow_sub-end : goal.overflow_sub-end
overflow_sub-end c = omega (arith, walked_end c.args.kind c.args.offset _ _ _ c.in_ok-parts.ensures)

pub overflow_sub-end-2 : goal.overflow_sub-end-2
overflow_sub-end-2 c = omega (arith, walked_end c.args.kind c.args.offset _ _ _ c.in_ok-parts.ensures)

pub returns-in-Some : goal.returns-in-Some
returns-in-Some c =
    let w = c.in_ok-parts.ensures in
    let r : IsAtFault c.args.kind w.tail c.in-Some.fault = rw c.in-Some.is at w.ended in
    let parted = split_parts _ c.args.after.now _ _ c.split_at.ensures.front c.split_at.ensures.back in
    let len : length c.split_at.result.1.now ≡ id_len c.args.kind =
    omega (arith, c.split_at.ensures.back_len, c.len_in_bytes-expected.ensures, c.requires.long) in
    if_ok_both c.unread_from.result _ _ _ c.unread_from.ensures.parts c.unread_from.ensures.fault (λ x p q.
    walked_refused c.args.kind c.args.bytes.now c.args.after.now c.args.offset c.args.parts.items c.in_ok-parts.field-0
    x c.split_at.result.0.now c.split_at.result.1.now _ _ (Extension r.fault) w parted len c.split_at-2.ensures.back p q
    (ap (option_map Extension) r.told) (faulty r.item r.rest r.fault r.is_item r.is_fault refl refl))

pub returns-then-left-ne0 : goal.returns-then-left-ne0
returns-then-left-ne0 c =
    let w = c.in_ok-parts.ensures in
    let ended : NoItem w.tail × (c.in_ok-parts.field-0.left ≡ left_of w.tail) = rw c.in_default.is at w.ended in
    let parted = split_parts _ c.args.after.now _ _ c.split_at.ensures.front c.split_at.ensures.back in
    let len : length c.split_at.result.1.now ≡ id_len c.args.kind =
    omega (arith, c.split_at.ensures.back_len, c.len_in_bytes-expected.ensures, c.requires.long) in
    let some : left_of w.tail ≢ 0 = λ e. c.if-left-ne0.true (ended.1 ∙ e) in
    let fault : Fault = TrailerLength (id_len c.args.kind) (left_of w.tail + id_len c.args.kind) in
    let stands : Some (TrailerLength c.len_in_bytes-expected.result
    (c.in_ok-parts.field-0.left + c.len_in_bytes-expected.result)) ≡ Some fault =
    rw (c.len_in_bytes-expected.ensures, ended.1) refl in
    if_ok_both c.unread_from-then-left-ne0.result _ _ _ c.unread_from-then-left-ne0.ensures.parts
    c.unread_from-then-left-ne0.ensures.fault (λ x p q.
    walked_refused c.args.kind c.args.bytes.now c.args.after.now c.args.offset c.args.parts.items c.in_ok-parts.field-0
    x c.split_at.result.0.now c.split_at.result.1.now _ _ fault w parted len c.split_at-2.ensures.back p q stands
    (left ended.0 some refl refl))

pub with_ending-requires-clause-ended : goal.with_ending-requires-clause-ended
with_ending-requires-clause-ended c =
    let w = c.in_ok-parts.ensures in
    let ended : NoItem w.tail × (c.in_ok-parts.field-0.left ≡ left_of w.tail) = rw c.in_default.is at w.ended in
    subst NoItem (sym (walked_tail c.args.kind c.args.offset _ _ _ _ w c.split_at-3.ensures.back)) ended.0

pub with_ending-requires-clause-none_left : goal.with_ending-requires-clause-none_left
with_ending-requires-clause-none_left c =
    let w = c.in_ok-parts.ensures in
    let ended : NoItem w.tail × (c.in_ok-parts.field-0.left ≡ left_of w.tail) = rw c.in_default.is at w.ended in
    ap left_of (walked_tail c.args.kind c.args.offset _ _ _ _ w c.split_at-3.ensures.back)
    ∙ sym ended.1 ∙ (search rules)

pub returns : goal.returns
returns c =
    let w = c.in_ok-parts.ensures in
    let parted = split_parts _ c.args.after.now _ _ c.split_at.ensures.front c.split_at.ensures.back in
    let len : length c.split_at.result.1.now ≡ id_len c.args.kind =
    omega (arith, c.split_at.ensures.back_len, c.len_in_bytes-expected.ensures, c.requires.long) in
    let same = walked_tail c.args.kind c.args.offset _ _ _ _ w c.split_at-3.ensures.back in
    if_ok_then c.with_ending.result _ _ c.with_ending.ensures (λ x h.
    walked_sealed c.args.kind c.args.bytes.now c.args.after.now c.args.offset c.args.parts.items
    c.in_ok-parts.field-0 x c.split_at.result.0.now c.split_at.result.1.now _ w parted len same h)
