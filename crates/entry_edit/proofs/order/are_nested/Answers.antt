use Rattle.std.proofs.Common.{◌<◌, ◌∙◌, length, sym, arith}
use Rattle.std.proofs.lemmas.List.Folds.{list_any_none}
use Rattle.std.specs.List.{HoldsAt}
use Rattle.entry_lookup.proofs.Closest.{any_here}
use Rattle.entry_edit.proofs.Anys.{none_more}
use Rattle.entry_edit.proofs.Orderings.{below_told}
use Rattle.entry_edit.specs.Changes.{change_path}
use Rattle.entry_edit.specs.Reorders.{IsAnswerBelow, has_within}
use Rattle.entry_edit.specs.declared.change.Change.{Change}
use Rattle.entry_edit.proofs.order.are_nested.Goals as goal

pub returns-then-is_eq : goal.returns-then-is_eq
returns-then-is_eq c =
    let cs = c.args.changes.now in
    let place = c.loop-place.place in
    let within : place < length cs = omega (arith, c.loop-place-test.true) in
    let told : HoldsAt (IsAnswerBelow cs c.is_eq.result) cs place = λ d. c.is_eq.ensures
    ∙ below_told cs place c.requires within d c.path-folder.result.now _ c.path-folder.ensures c.end_from-end.result
    c.end_from-end.ensures.from c.end_from-end.ensures.parts c.compare.result c.compare.ensures in
    sym (any_here (λ (c : Change). has_within cs (change_path c)) cs place (
      within,
      λ d. sym (told d)
          ∙ c.if-is_eq.true,
    ))

pub loop-place-preserved : goal.loop-place-preserved
loop-place-preserved c =
    let cs = c.args.changes.now in
    let place = c.loop-place.place in
    let within : place < length cs = omega (arith, c.loop-place-test.true) in
    let told : HoldsAt (IsAnswerBelow cs c.is_eq.result) cs place = λ d. c.is_eq.ensures
    ∙ below_told cs place c.requires within d c.path-folder.result.now _ c.path-folder.ensures c.end_from-end.result
    c.end_from-end.ensures.from c.end_from-end.ensures.parts c.compare.result c.compare.ensures in
    none_more (λ (c : Change). has_within cs (change_path c)) cs place c.loop-place.invariant
    (λ d. sym (told d) ∙ c.if-is_eq.false)

pub returns : goal.returns
returns c =
    let cs = c.args.changes.now in
    sym (list_any_none (λ (c : Change). has_within cs (change_path c)) cs (λ k d within.
    c.loop-place.invariant k d (omega arith) (omega (arith, c.loop-place-test.false))))
