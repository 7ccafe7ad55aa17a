use Rattle.std.proofs.Common.{◌≡◌, ◌∙◌, ℕ, List, ◌++◌, drop, length, ap, arith, rules}
use Rattle.capi_table.specs.Collecting.{piece_rows, pieces_len}
use Rattle.capi_table.specs.declared.collected.Piece.{Piece}
use Rattle.capi_table.proofs.Cuts.{all_held, counts_are, held_is}
use Rattle.capi_table.proofs.collected.Collected.put_into.Goals as goal

pub returns-then-lacks_room : goal.returns-then-lacks_room
returns-then-lacks_room c =
    record {
      done = search rules;
      refused = search rules;
      no_room = λ os h. record {
        told_is = counts_are c.counts-counts.result c.args.self.now.pieces.items c.args.self.now.bytes.items os
            c.counts-counts.ensures.trees c.counts-counts.ensures.bytes h;
        small = c.lacks_room.ensures.small c.if-lacks_room.true;
      };
      trees = search rules;
      bytes = search rules;
    }

pub fill_rows-requires-clause-few : goal.fill_rows-requires-clause-few
fill_rows-requires-clause-few c =
    let is = held_is c.args.self.now.pieces.items c.args.self.now.bytes.items c.requires.0
    c.requires.1 in
    let same : pieces_len c.deref.result.now ≡ pieces_len c.args.self.now.pieces.items =
    ap pieces_len c.deref.ensures.value in
    omega (
      arith,
      same,
      is.0,
      c.counts-counts.ensures.bytes,
      c.lacks_room.ensures.bytes_fit c.if-lacks_room.false,
    )

pub returns : goal.returns
returns c =
    record {
      done = λ os h. let now = c.args.self.now in
          let counts = c.counts-counts.result in
          all_held counts now.pieces.items now.bytes.items os c.args.trees.now c.fill_rows.new.trees c.args.bytes.now
          (c.copy_from_slice.new.self ++ drop counts.bytes c.args.bytes.now) c.counts-counts.ensures.trees
          c.counts-counts.ensures.bytes h (c.lacks_room.ensures.trees_fit c.if-lacks_room.false)
          (c.lacks_room.ensures.bytes_fit c.if-lacks_room.false)
          (c.fill_rows.ensures
          ∙ ap (λ (ps : List Piece). piece_rows 0 ps ++ drop (length ps) c.args.trees.now) c.deref.ensures.value)
          (ap (λ (bs : List ℕ). bs ++ drop counts.bytes c.args.bytes.now)
          (c.copy_from_slice.ensures.after ∙ c.deref-2.ensures.value));
      refused = search rules;
      no_room = search rules;
      trees = search rules;
      bytes = search rules;
    }
