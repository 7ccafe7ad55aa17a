use Rattle.std.proofs.Common.{rules, refl, ◌∙◌, ℕ, length}
use Rattle.std.specs.Io.{appended_bytes}
use Rattle.file_windows.proofs.Counts.{appended_len, counts_none, counts_on}
use Rattle.file_windows.proofs.Hashed.{hashed_end, hashed_none, hashed_on}
use Rattle.file_windows.proofs.disk.read_pieces.Goals as goal

pub pieces-init : goal.pieces-init
pieces-init g c = record {
  so_far = hashed_none c.args.kind c.args.is_hashed c.args.is_held _ c.new-hasher.result c.args.bytes.now.items
      c.len-len.result c.new-hasher.ensures.empty c.new-hasher.ensures.kind (search rules);
  len = search rules;
  counted = counts_none (g.S.Source.remaining c.args.file.now) (length c.args.bytes.now.items) c.len-len.result
      (search rules);
  stored = refl;
  works = refl;
}

pub pieces-preserved : goal.pieces-preserved
pieces-preserved g c =
    let count : ℕ = c.in_ok-count.count in
    record {
      so_far = hashed_on c.args.kind c.args.is_hashed c.args.is_held _ _ _ _ _ _ _ _ _ _ _ _ count
          c.pieces.invariant.so_far c.in_ok-count.ensures.appends c.in_ok-count.ensures.consumes
          c.in_ok-count.ensures.len c.pass_front-passed.ensures;
      len = search rules;
      counted = counts_on (g.S.Source.remaining c.args.file.now) _ (g.S.Source.remaining c.append_piece.new.file)
          (appended_bytes c.pieces.bytes.items c.append_piece.new.bytes.items) _ _ count c.pieces.invariant.counted
          c.in_ok-count.ensures.consumes
          (appended_len c.pieces.bytes.items c.append_piece.new.bytes.items count c.in_ok-count.ensures.appends
          c.in_ok-count.ensures.len);
      stored = c.append_piece.ensures.stored ∙ c.pieces.invariant.stored;
      works = c.append_piece.ensures.works ∙ c.pieces.invariant.works;
    }

pub returns-then-count-eq0 : goal.returns-then-count-eq0
returns-then-count-eq0 g c = record {
  pieces = hashed_end c.args.kind c.args.is_hashed c.args.is_held _ _ _ _ _ _ _ _ _ _ _ _ c.in_ok-count.count
      c.pieces.invariant.so_far c.in_ok-count.ensures.appends c.in_ok-count.ensures.consumes
      c.in_ok-count.ensures.len c.pass_front-passed.ensures (c.in_ok-count.ensures.end c.if-count-eq0.true);
  bound = search rules;
  stored = c.append_piece.ensures.stored ∙ c.pieces.invariant.stored;
  works = c.append_piece.ensures.works ∙ c.pieces.invariant.works;
  fault = λ _. tt;
}
