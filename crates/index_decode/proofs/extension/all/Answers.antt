use Rattle.std.proofs.Common.{rules, ◌≡◌, ℕ, ◌-◌, ◌^◌, ◌<◌, List, [], ◌∷◌, ◌++◌, length, Some, None, sym, refl, ap}
use Rattle.std.proofs.Common.{arith}
use Rattle.std.proofs.lemmas.Result.{err_from_is_err_and}
use Rattle.index_extensions.specs.Walk.{Steps, cursor, unread, left_of}
use Rattle.index_extensions.proofs.Walks.{step_item, step_more, step_counts, step_ends, step_leaves}
use Rattle.index_model.specs.Outcome.{outcome_of, Unimplemented, unknown}
use Rattle.index_model.proofs.Extensions.{sound_push, none_sound, outcome_push, no_outcome, outcome_ids, fault_found}
use Rattle.index_model.proofs.Extensions.{says_found, all_gathered}
use Rattle.index_decode.proofs.extension.all.Goals as goal

pub loop-item-init : goal.loop-item-init
loop-item-init c = (
  [],
  sym c.new-items.ensures.all,
  none_sound c.args.object_hash,
  rw c.none-outcome.ensures (no_outcome c.args.object_hash c.args.alloc_limit_bytes),
  omega (arith, c.new-items.ensures.none_yet, ap length c.new-items.ensures.all),
)

pub returns-then-not-is_understood-clause-err : goal.returns-then-not-is_understood-clause-err
returns-then-not-is_understood-clause-err c =
    let inv = c.loop-item.invariant in
    let before = unread c.loop-item.items in
    let after = unread c.next.new.self in
    let from = cursor c.loop-item.items in
    let to = cursor c.next.new.self in
    let x : List ℕ × List ℕ = (c.in-Some.item.0, c.in-Some.item.1.now) in
    let h : Steps from (Some x) to = c.in-Some.ensures.steps in (
      Unimplemented x.0,
      refl,
      fault_found c.args.object_hash c.args.extensions.now before after inv.0 (step_item x from
          to h) (Unimplemented x.0) inv.1 inv.2 h.is_item (unknown (sym c.if-not-is_understood.ensures) refl),
    )

pub returns-in_err-add-clause-err : goal.returns-in_err-add-clause-err
returns-in_err-add-clause-err c =
    let inv = c.loop-item.invariant in
    let before = unread c.loop-item.items in
    let after = unread c.next.new.self in
    let from = cursor c.loop-item.items in
    let to = cursor c.next.new.self in
    let x : List ℕ × List ℕ = (c.in-Some.item.0, c.in-Some.item.1.now) in
    let h : Steps from (Some x) to = c.in-Some.ensures.steps in
    let i = step_item x from to h in
    let p = err_from_is_err_and c.from_residual.result c.from_residual.ensures.1 in
    rw (p.1, p.2) (says_found c.args.object_hash c.args.extensions.now before after inv.0 i c.in_err-add.field-0.0 inv.1
    inv.2 h.is_item (c.in_err-add.ensures.err i.size))

pub loop-item-preserved : goal.loop-item-preserved
loop-item-preserved c =
    let inv = c.loop-item.invariant in
    let before = unread c.loop-item.items in
    let after = unread c.next.new.self in
    let count = c.loop-item.items.consumed in
    let counted = c.next.new.self.consumed in
    let from = cursor c.loop-item.items in
    let to = cursor c.next.new.self in
    let x : List ℕ × List ℕ = (c.in-Some.item.0, c.in-Some.item.1.now) in
    let h : Steps from (Some x) to = c.in-Some.ensures.steps in
    let i = step_item x from to h in
    let lt : length c.args.extensions.now < 2 ^ 64 = search rules in (
      inv.0 ++ i ∷ [],
      step_more c.args.extensions.now inv.0 x from to inv.1 h,
      sound_push c.args.object_hash c.args.alloc_limit_bytes inv.0 i (outcome_of c.loop-item.outcome)
          (outcome_of c.add.new.outcome) inv.2 (sym c.if-not-is_understood.ensures) c.in_ok-add.ensures.ok,
      outcome_push c.args.object_hash c.args.alloc_limit_bytes inv.0 i (outcome_of c.loop-item.outcome)
          (outcome_of c.add.new.outcome) inv.3 c.in_ok-add.ensures.ok,
      step_counts (length c.args.extensions.now) x from to lt inv.4 h,
    )

pub overflow_sub-result : goal.overflow_sub-result
overflow_sub-result c =
    let lt : length c.args.extensions.now < 2 ^ 64 = search rules in
    omega (
      arith,
      step_leaves (length c.args.extensions.now) (cursor c.loop-item.items)
          (cursor c.next.new.self) lt c.loop-item.invariant.4 c.in_default.ensures.steps,
    )

pub returns-clause-ok : goal.returns-clause-ok
returns-clause-ok c =
    let inv = c.loop-item.invariant in
    let before = unread c.loop-item.items in
    let after = unread c.next.new.self in
    let count = c.loop-item.items.consumed in
    let counted = c.next.new.self.consumed in
    let from = cursor c.loop-item.items in
    let to = cursor c.next.new.self in
    let total = length c.args.extensions.now in
    let lt : total < 2 ^ 64 = search rules in
    let h : Steps from None to = c.in_default.ensures.steps in
    let leaves = step_leaves total from to lt inv.4 h in
    let same : total - counted ≡ left_of before = omega (arith, leaves) in
    all_gathered c.args.object_hash c.args.alloc_limit_bytes c.args.extensions.now before inv.0
    (outcome_of c.loop-item.outcome) (total - counted) inv.1 inv.2 inv.3
    (step_ends c.args.extensions.now inv.0 from to inv.1 h).ended same

pub returns-clause-ids : goal.returns-clause-ids
returns-clause-ids c = outcome_ids c.args.object_hash c.args.alloc_limit_bytes c.loop-item.invariant.0
    (outcome_of c.loop-item.outcome) c.loop-item.invariant.3
