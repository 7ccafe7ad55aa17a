use Rattle.std.proofs.Common.{◌∙◌, ℕ, List, [], ◌∷◌, ◌++◌, length, refl, ap}
use Rattle.capi_table.specs.declared.collected.Piece.{Piece}
use Rattle.capi_table.proofs.Cuts.{held, held_push}
use Rattle.capi_table.proofs.collected.CollectedSink.put.Goals as goal

pub returns-clause-stored : goal.returns-clause-stored
returns-clause-stored c =
    let before = c.args.self.now in
    let piece : Piece = record { id = c.args.id.now; len = length c.args.bytes.now } in
    ap (λ (ps : List Piece). held ps c.extend_from_slice.new.self.items) c.in-Ok.ensures.items
    ∙ ap (λ (bs : List ℕ). held (before.pieces.items ++ piece ∷ []) bs) c.in-Ok-extend_from_slice.ensures.items
    ∙ held_push before.pieces.items piece before.bytes.items c.args.bytes.now refl
