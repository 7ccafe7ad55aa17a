use Rattle.std.proofs.Common.{rules, ◌∙◌}
use Rattle.std.proofs.KnownBytes.{Consumes-more}
use Rattle.file_place.proofs.Readers.{came_behind, starts_trans}
use Rattle.file_place.proofs.pieces.fill.Goals as goal

pub returns-then-count-eq0 : goal.returns-then-count-eq0
returns-then-count-eq0 g c =
    came_behind _
    (starts_trans c.args.bytes.now.items c.pieces.bytes.items c.append_piece.new.bytes.items
    c.pieces.invariant.appends c.in_ok-count.ensures.appends)
    (search rules)
    (Consumes-more _ _ _ c.args.bytes.now.items c.pieces.bytes.items c.append_piece.new.bytes.items
    c.pieces.invariant.appends c.in_ok-count.ensures.appends c.pieces.invariant.consumed
    c.in_ok-count.ensures.consumes)
    (search rules) (search rules) (search rules)

pub pieces-preserved : goal.pieces-preserved
pieces-preserved g c = record {
  len = search rules;
  appends = starts_trans c.args.bytes.now.items c.pieces.bytes.items c.append_piece.new.bytes.items
      c.pieces.invariant.appends c.in_ok-count.ensures.appends;
  consumed = Consumes-more _ _ _ c.args.bytes.now.items c.pieces.bytes.items c.append_piece.new.bytes.items
      c.pieces.invariant.appends c.in_ok-count.ensures.appends c.pieces.invariant.consumed
      c.in_ok-count.ensures.consumes;
  stored = c.append_piece.ensures.stored ∙ c.pieces.invariant.stored;
  works = c.append_piece.ensures.works ∙ c.pieces.invariant.works;
}
