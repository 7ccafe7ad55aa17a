use Rattle.std.proofs.Common.{◌<◌, ℕ, List, [], length, slice_index_or, ap, arith}
use Rattle.gix_index.specs.ObjectId.TheVariants.{Sha1}
use Rattle.capi_table.specs.declared.collected.Piece.{Piece}
use Rattle.capi_table.specs.declared.trees.Tree.{Tree}
use Rattle.capi_table.proofs.Cuts.{len_within, one_filled}
use Rattle.capi_table.proofs.collected.fill_rows.Goals as goal

pub overflow_add-start : goal.overflow_add-start
overflow_add-start c =
    let d : Piece = record { id = Sha1 []; len = 0 } in
    let within = len_within c.args.pieces.now c.loop-place.place d c.loop-place-test.true in
    omega (arith, c.loop-place.invariant.start_is, within, c.requires.few)

pub loop-place-preserved : goal.loop-place-preserved
loop-place-preserved c =
    let fit : c.loop-place.place < length c.loop-place.trees =
    omega (arith, c.loop-place-test.true, c.requires.fits, c.loop-place.auto.trees) in
    let d : Piece = record { id = Sha1 []; len = 0 } in
    let p : Piece = slice_index_or c.args.pieces.now c.loop-place.place d in
    let row : List ℕ → Tree = λ id. record { id = id; start = c.loop-place.start; len = p.len } in
    one_filled c.args.pieces.now c.args.trees.now c.loop-place.trees c.loop-place.place c.loop-place.start d
    (row c.padded_id.result) c.loop-place.invariant c.loop-place-test.true fit (ap row c.padded_id.ensures)
