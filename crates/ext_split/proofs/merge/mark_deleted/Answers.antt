use Rattle.std.proofs.Common.{rules, arith, ◌∷◌, [], refl, ap, ◌∙◌, Result, ℕ}
use Rattle.ext_bitmap.specs.UnpackingSteps.{items_left}
use Rattle.ext_bitmap.specs.declared.ewah.iter.Malformed.{Malformed}
use Rattle.ext_split.proofs.Merging.{marked_none, marking_step, marking_broken, marking_past, marking_done}
use Rattle.ext_split.proofs.merge.mark_deleted.Goals as goal

pub loop-position-init : goal.loop-position-init
loop-position-init c = (
  search rules,
  search rules,
  record {
    seen = [];
    listed = c.positions-positions.ensures.places;
    sound = refl;
    marked = marked_none c.args.entries.now.items;
  },
)

pub loop-position-preserved : goal.loop-position-preserved
loop-position-preserved c =
    let rest = items_left c.next.new.self in
    let run = c.loop-position.invariant.2 in
    let step = c.in-Some.ensures.steps ∙ ap (λ (x : Result ℕ Malformed). x ∷ rest) c.in-Ok.is in (
      search rules,
      search rules,
      marking_step _ _ _ rest _ run c.in-Ok.place _ step (omega arith)
          (c.mark_at.ensures run.seen c.args.entries.now.items run.marked),
    )

pub returns-clause-marked : goal.returns-clause-marked
returns-clause-marked c = marking_done _ _ _ [] _ c.loop-position.invariant.2 c.in_default.ensures.steps.0

pub returns-in_default-position-clause-fault : goal.returns-in_default-position-clause-fault
returns-in_default-position-clause-fault c =
    let rest = items_left c.next.new.self in
    let step = c.in-Some.ensures.steps ∙ ap (λ (x : Result ℕ Malformed). x ∷ rest) c.in_default-position.is in
    marking_broken _ _ _ rest _ c.loop-position.invariant.2 _ step

pub returns-then-place-len-clause-fault : goal.returns-then-place-len-clause-fault
returns-then-place-len-clause-fault c =
    let rest = items_left c.next.new.self in
    let step = c.in-Some.ensures.steps ∙ ap (λ (x : Result ℕ Malformed). x ∷ rest) c.in-Ok.is in
    marking_past _ _ _ rest _ c.loop-position.invariant.2 c.in-Ok.place step (omega arith)
