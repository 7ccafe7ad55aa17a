use Rattle.std.proofs.Common.{refl, subst, sym, ◌∙◌}
use Rattle.std.specs.Prelude.{IsSome}
use Rattle.gix_index.specs.Link.{link_of}
use Rattle.gix_index.specs.Dissolve.{nested}
use Rattle.gix_index.specs.State.{contents}
use Rattle.view_salvage.specs.Salvage.{unfit}
use Rattle.view_salvage.proofs.Completing.{fits_not, has_bitmaps, joins, linked, stays, unlinked_on}
use Rattle.view_salvage.proofs.salvage.join_shared.Goals as goal

pub returns-then-is_some-clause-completed : goal.returns-then-is_some-clause-completed
returns-then-is_some-clause-completed c = λ found.
    let some = subst IsSome c.link.ensures (linked _ c.link.result (sym c.is_some.ensures ∙ c.if-is_some.true)) in
    stays _ found _ c.args.own _
    (unfit (link_of c.args.link) (contents c.args.shared) (contents c.args.own) _ (refl, c.requires.named) refl
    (nested some refl) refl refl)

pub returns-in-Ok-clause-completed : goal.returns-in-Ok-clause-completed
returns-in-Ok-clause-completed c = λ found.
    let e = c.dissolve_into.ensures in
    let shared = c.requires.shared in
    joins (link_of c.args.link) found c.args.own c.dissolve_into.new.split c.args.shared c.requires.named
    shared (c.in-Ok.ensures.dissolved shared.placed) (λ p. e.placed p shared.placed) (e.storable shared.placed)

pub returns-in-Err-Corrupt-clause-completed : goal.returns-in-Err-Corrupt-clause-completed
returns-in-Err-Corrupt-clause-completed c = λ found.
    let says = rw c.in-Err-Corrupt.field-0-is at c.in-Err-Corrupt.ensures.fault in
    fits_not (link_of c.args.link) found c.args.own c.dissolve_into.new.split c.args.shared _ c.requires.named
    says c.in-Err-Corrupt.ensures.unchanged (λ p. c.dissolve_into.ensures.placed p c.requires.shared.placed)

pub returns-in-Err-BitmapDecode-clause-completed : goal.returns-in-Err-BitmapDecode-clause-completed
returns-in-Err-BitmapDecode-clause-completed c = λ found.
    let says = rw c.in-Err-BitmapDecode.field-0-is at c.in-Err-BitmapDecode.ensures.fault in
    fits_not (link_of c.args.link) found c.args.own c.dissolve_into.new.split c.args.shared _ c.requires.named
    says c.in-Err-BitmapDecode.ensures.unchanged (λ p. c.dissolve_into.ensures.placed p c.requires.shared.placed)

pub returns-in-Err-Memory-clause-memory : goal.returns-in-Err-Memory-clause-memory
returns-in-Err-Memory-clause-memory c =
    let alone = sym c.link.ensures ∙ unlinked_on _ c.link.result (sym c.is_some.ensures ∙ c.if-is_some.false) in
    record {
      l = link_of c.args.link;
      s = contents c.args.shared;
      wanted = (refl, c.requires.named);
      given = refl;
      bitmaps = has_bitmaps _ c.dissolve_into.result _ c.in-Err-Memory.is
          (λ none. c.dissolve_into.ensures.no_memory none alone);
      alone = alone;
    }
