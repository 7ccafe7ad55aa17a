use Rattle.std.proofs.Common.{ap, refl, ◌∙◌, length, List}
use Rattle.gix_index.specs.Record.{Record}
use Rattle.view_salvage.proofs.Covered.{covered_of}
use Rattle.view_salvage.proofs.Fronts.{front_divides}
use Rattle.view_salvage.proofs.division.divide.Goals as goal

pub returns-clause-divided : goal.returns-clause-divided
returns-clause-divided c = front_divides _ c.args.kind _ _ _ c.args.bytes.now _ _ _ c.in_ok-parts-2.field-0
    c.in-Ok.ensures.0 c.in_ok-parts.ensures (c.len-read.ensures ∙ ap (λ (l : List Record). length l) c.as_slice.ensures)
    refl c.in_ok-parts-2.ensures

pub returns-clause-covered : goal.returns-clause-covered
returns-clause-covered c = covered_of c.args.kind c.args.bytes.now _ _ _
    (front_divides _ c.args.kind _ _ _ c.args.bytes.now _ _ _ c.in_ok-parts-2.field-0 c.in-Ok.ensures.0
    c.in_ok-parts.ensures (c.len-read.ensures ∙ ap (λ (l : List Record). length l) c.as_slice.ensures) refl
    c.in_ok-parts-2.ensures)
