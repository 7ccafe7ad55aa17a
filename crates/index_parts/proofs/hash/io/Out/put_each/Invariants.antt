use Rattle.std.proofs.Common.{◌≡◌, take}
use Rattle.std.specs.List.{flat_map}
use Rattle.index_parts.specs.Taking.{Took}
use Rattle.index_parts.proofs.hash.io.Out.put_each.Given as goal

abbrev pub invariant-loop-piece : goal.invariant-loop-piece
invariant-loop-piece g l = record {
  loan : g.Self.Out.loan l.self ≡ g.Self.Out.loan l.fn.self;
  going : g.Self.Out.failed l.self ≡ g.Self.Out.failed l.fn.self;
  so_far : Took g.Self.Out.taken g.Self.Out.hashed l.fn.self l.self
      (flat_map (λ p. p.now) (take l.piece-index l.pieces));
}
