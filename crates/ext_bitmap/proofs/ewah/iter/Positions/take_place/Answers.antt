use Rattle.std.proofs.Common.{◌∷◌, ◌∙◌, ap, sym, ◌<◌, ◌^◌, Ok, Some}
use Rattle.ext_bitmap.specs.UnpackingSteps.{bits_left}
use Rattle.ext_bitmap.proofs.Places.{places_after, places_set}
use Rattle.ext_bitmap.proofs.ewah.iter.Positions.take_place.Goals as goal

pub returns-in-Some : goal.returns-in-Some
returns-in-Some c =
    let place = c.in-Some.place in
    let bits = bits_left c.args.self.now in
    let small : place < 2 ^ 64 = c.next_place-self.ensures.fits in
    let after = places_after (Some place) 1 c.next_place-self.result bits c.next_place-self.ensures.after in
    rw c.in-Some.is (places_set place bits small ∙ ap (λ rest. Ok place ∷ rest) (sym after))
