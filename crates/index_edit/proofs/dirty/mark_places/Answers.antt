use Rattle.std.proofs.Common.{◌∙◌, ◌∷◌, ◌<◌, Result, ap, arith, length, map, refl, rules, sym, ℕ}
use Rattle.std.specs.List.{list_any}
use Rattle.ext_bitmap.specs.Bitmap.{bitmap}
use Rattle.ext_bitmap.specs.UnpackingSteps.{items_left}
use Rattle.ext_bitmap.specs.declared.ewah.iter.Malformed.{Malformed}
use Rattle.entry_edit.proofs.Stages.{stage_is}
use Rattle.ext_encode.specs.MonitorPlaces.{are_below}
use Rattle.entry_fields.specs.Flags.{stage_code, stage_number}
use Rattle.index_edit.proofs.Markings.{broken, listed, none_left, one_placed, past, taken}
use Rattle.index_edit.proofs.dirty.mark_places.Goals as goal
use Rattle.index_edit.specs.Dirty.{is_at_place}
use Rattle.index_edit.specs.DirtySteps.{either}

pub loop-position-init : goal.loop-position-init
loop-position-init c =
    let old = c.args.old.now in
    let same = listed (bitmap c.args.places.now) (items_left c.positions-positions.result)
    c.positions-positions.ensures.places in
    record {
      can_next = search rules;
      is_finite = search rules;
      len = refl;
      below = λ b. ap (are_below (length old)) same ∙ b;
      marked = λ _ o b. ap (λ items. either c.args.bits.now (map (λ r. list_any (is_at_place old r) items) c.args.entries.now)) same;
    }

pub returns-in_default-position : goal.returns-in_default-position
returns-in_default-position c = record {
  len = search rules;
  marked = λ _ o b.
      let rest = items_left c.next.new.self in
      let step = c.in-Some.ensures.steps ∙ ap (λ (x : Result ℕ Malformed). x ∷ rest) c.in_default-position.is in
      absurd (broken (length c.args.old.now) _ _ rest step (c.loop-position.invariant.below b));
}

pub returns-then-place-len : goal.returns-then-place-len
returns-then-place-len c = record {
  len = search rules;
  marked = λ _ o b.
      let rest = items_left c.next.new.self in
      let step = c.in-Some.ensures.steps ∙ ap (λ (x : Result ℕ Malformed). x ∷ rest) c.in-Ok.is in
      absurd (past (length c.args.old.now) c.in-Ok.place _ rest step
      (omega (arith, c.if-place-len.true, c.len.ensures)) (c.loop-position.invariant.below b));
}

pub loop-position-preserved : goal.loop-position-preserved
loop-position-preserved c =
    let old = c.args.old.now in
    let rest = items_left c.next.new.self in
    let step = c.in-Some.ensures.steps ∙ ap (λ (x : Result ℕ Malformed). x ∷ rest) c.in-Ok.is in
    let inside : c.in-Ok.place < length old = omega (arith, c.if-place-len.false, c.len.ensures) in
    record {
      can_next = search rules;
      is_finite = search rules;
      len = c.set_bit.ensures.len ∙ c.loop-position.invariant.len;
      below = λ b. taken (length old) c.in-Ok.place _ rest step inside (c.loop-position.invariant.below b);
      marked = λ e o b. one_placed old c.args.entries.now c.in-Ok.place c.path.result.now (stage_code c.stage.result) _ rest _
          c.loop-position.bits c.set_bit.new.bits inside c.path.ensures
          (λ d. ap stage_number ((c.entry.ensures d).flags) ∙ sym (ap stage_code c.stage.ensures ∙ stage_is _))
          step (c.set_bit.ensures.marked (c.loop-position.invariant.len ∙ e) o) (c.loop-position.invariant.marked e o b);
    }

pub returns : goal.returns
returns c = record {
  len = search rules;
  marked = λ e o b.
      none_left c.args.old.now c.args.entries.now _ c.loop-position.bits _ (c.loop-position.invariant.len ∙ e)
      c.in_default.ensures.steps.0 (c.loop-position.invariant.marked e o b);
}
