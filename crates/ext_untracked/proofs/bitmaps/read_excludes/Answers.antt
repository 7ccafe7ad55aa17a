use Rattle.std.proofs.Common.{rules, ℕ, [], ◌∷◌, ◌++◌, length, map, refl, sym, ap, ◌∙◌}
use Rattle.index_parts.proofs.Splits.{piece_takes}
use Rattle.index_parts.specs.Id.{id_len}
use Rattle.index_parts.specs.ReadingSteps.{piece_at}
use Rattle.ext_untracked.specs.Blocks.{directory_value}
use Rattle.ext_untracked.specs.BitmapSteps.{with_exclude}
use Rattle.ext_untracked.proofs.Marking.{each_none, value_step}
use Rattle.ext_untracked.proofs.EqualPieces.{no_pieces, pieces_push, pieces_short, piece_few}
use Rattle.ext_untracked.proofs.bitmaps.read_excludes.Goals as goal

pub loop-place-init : goal.loop-place-init
loop-place-init c = (
  search rules,
  ([], no_pieces _ c.args.bytes.now, sym (each_none 0 (map directory_value c.args.directories.now.items))),
)

pub returns-in_err-piece-clause-none : goal.returns-in_err-piece-clause-none
returns-in_err-piece-clause-none c =
    let inv = c.loop-place.invariant.1 in
    let size = id_len c.args.kind in
    let few = piece_few size c.loop-place.rest.now (ap (λ (n : ℕ). piece_at n c.loop-place.rest.now)
    (sym c.len_in_bytes-len.ensures) ∙ sym c.in_err-piece.ensures.exact) in
    rw c.from_residual.ensures (pieces_short size c.loop-place.place-index
    (length c.args.places.now) c.args.bytes.now inv.0 c.loop-place.rest.now inv.1 few c.loop-place-test.true)

pub loop-place-preserved : goal.loop-place-preserved
loop-place-preserved c =
    let inv = c.loop-place.invariant.1 in
    let size = id_len c.args.kind in
    let piece = c.in_ok-piece.piece.now in
    let after = c.in_ok-piece.after.now in
    let takes = piece_takes size c.loop-place.rest.now (piece, after) (ap (λ (n : ℕ). piece_at n c.loop-place.rest.now)
    (sym c.len_in_bytes-len.ensures) ∙ sym c.in_ok-piece.ensures.exact) in (
      c.set_exclude.ensures.len ∙ c.loop-place.invariant.0,
      (
        inv.0 ++ piece ∷ [],
        pieces_push size c.loop-place.place-index c.args.bytes.now inv.0 c.loop-place.rest.now piece after inv.1 takes.0
            takes.1,
        value_step (with_exclude c.args.kind) (λ x y d. refl) c.args.places.now c.loop-place.place-index inv.0 piece
            (map directory_value c.args.directories.now.items) (map directory_value c.loop-place.directories.items) _
            c.loop-place-test.true inv.1.number inv.2 c.set_exclude.ensures.value,
      ),
    )
