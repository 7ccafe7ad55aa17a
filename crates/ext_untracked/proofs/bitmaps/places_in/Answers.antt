use Rattle.std.proofs.Common.{ℕ, ◌++◌, ◌∷◌, List, Result, ap, arith, ◌∙◌}
use Rattle.ext_bitmap.specs.UnpackingSteps.{items_left}
use Rattle.ext_bitmap.specs.declared.ewah.iter.Malformed.{Malformed}
use Rattle.ext_bitmap.proofs.Places.{one_listing}
use Rattle.ext_untracked.proofs.BitmapPlaces.{oks, no_err, place_below}
use Rattle.ext_untracked.proofs.bitmaps.places_in.Goals as goal

pub returns-in_default-position-clause-none : goal.returns-in_default-position-clause-none
returns-in_default-position-clause-none c = λ places h b.
    let own = c.loop-position.places.items in
    let rest = items_left c.next.new.self in
    let same = one_listing c.args.bitmaps.now.words.items (oks places)
    (oks own ++ items_left c.loop-position.positions) h c.loop-position.invariant.2 in
    let step = c.in-Some.ensures.steps ∙ ap (λ (x : Result ℕ Malformed). x ∷ rest) c.in_default-position.is in
    no_err places own c.in_default-position.field-0 rest
    (same ∙ ap (λ (l : List (Result ℕ Malformed)). oks own ++ l) step)

pub returns-then-place-count-clause-none : goal.returns-then-place-count-clause-none
returns-then-place-count-clause-none c = λ places h b.
    let own = c.loop-position.places.items in
    let rest = items_left c.next.new.self in
    let same = one_listing c.args.bitmaps.now.words.items (oks places)
    (oks own ++ items_left c.loop-position.positions) h c.loop-position.invariant.2 in
    let step = c.in-Some.ensures.steps ∙ ap (λ (x : Result ℕ Malformed). x ∷ rest) c.in-Ok.is in
    let below = place_below c.args.count places own c.in-Ok.place rest
    (same ∙ ap (λ (l : List (Result ℕ Malformed)). oks own ++ l) step) b in
    omega (arith, below, c.if-place-count.true)
