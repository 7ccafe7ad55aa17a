use Rattle.std.proofs.Common.{rules, ◌≡◌, ◌<◌, ◌++◌, ℕ, length, Some, refl, sym, ap, arith}
use Rattle.std.specs.Prelude.{codes}
use Rattle.gix_index.specs.Answer.{Header, NoEntry, TrailerLength}
use Rattle.gix_index.specs.Header.{Corrupt, count_of}
use Rattle.gix_index.specs.Id.{id_len}
use Rattle.view_salvage.proofs.Divided.{if_ok_both, if_ok_then, tells}
use Rattle.view_salvage.specs.Division.{crowded, lacks, short, unread_piece, walked}
use Rattle.view_layout.specs.Piece.{item_pieces}
use Rattle.view_salvage.proofs.division.behind_entries.Goals as goal

pub returns-then-read-declared : goal.returns-then-read-declared
returns-then-read-declared c =
    rw (← c.saturating_sub-offset.ensures) (if_ok_both c.unread_from.result _ _ _ c.unread_from.ensures.parts
    c.unread_from.ensures.fault (λ x p q ss l n.
    let lt : c.args.found.read < c.args.found.declared = search rules in
    let stands : Some (NoEntry c.args.found.read) ≡ Some (NoEntry (length ss)) =
    ap (λ (k : ℕ). Some (NoEntry k)) (sym l) in
    record {
      pieces = unread_piece c.args.after.now;
      fault = Some (NoEntry (length ss));
      is = lacks (omega (arith, lt, l, c.requires.declared)) (n lt) refl refl;
      grows = record { are = p; told = tells x.fault _ _ q stands };
    }))

pub returns-then-is_crowded : goal.returns-then-is_crowded
returns-then-is_crowded c = rw (← c.saturating_sub-offset.ensures) (if_ok_both c.unread_from-then-is_crowded.result _ _
    _
    c.unread_from-then-is_crowded.ensures.parts
    c.unread_from-then-is_crowded.ensures.fault (λ x p q ss l n.
    let all : length ss ≡ count_of c.args.bytes.now = omega (arith, l, c.requires.declared, c.requires.read) in
    record {
      pieces = unread_piece c.args.after.now;
      fault = Some (Header (Corrupt (codes "Declared entry count exceeds possible entries for file size")));
      is = crowded all (c.if-is_crowded.ensures c.requires.declared) refl refl;
      grows = record { are = p; told = tells x.fault _ _ q refl };
    }))

pub returns-then-actual-expected : goal.returns-then-actual-expected
returns-then-actual-expected c = rw (← c.saturating_sub-offset.ensures) (if_ok_both
    c.unread_from-then-actual-expected.result _ _ _
    c.unread_from-then-actual-expected.ensures.parts c.unread_from-then-actual-expected.ensures.fault (λ x p q ss l n.
    let all : length ss ≡ count_of c.args.bytes.now = omega (arith, l, c.requires.declared, c.requires.read) in
    let few : length c.args.after.now < id_len c.args.kind = omega (arith, c.len_in_bytes-expected.ensures) in
    let stands : Some (TrailerLength c.len_in_bytes-expected.result (length c.args.after.now))
    ≡ Some (TrailerLength (id_len c.args.kind) (length c.args.after.now)) = rw c.len_in_bytes-expected.ensures refl in
    record {
      pieces = unread_piece c.args.after.now;
      fault = Some (TrailerLength (id_len c.args.kind) (length c.args.after.now));
      is = short all (c.if-is_crowded.ensures c.requires.declared) few refl refl;
      grows = record { are = p; told = tells x.fault _ _ q stands };
    }))

pub returns : goal.returns
returns c = rw (← c.saturating_sub-offset.ensures) (if_ok_then c.walk_ending.result _ _ c.walk_ending.ensures (λ x h
    ss l n.
    let all : length ss ≡ count_of c.args.bytes.now = omega (arith, l, c.requires.declared, c.requires.read) in
    record {
      pieces = item_pieces h.items ++ h.last;
      fault = h.fault;
      is = walked all (c.if-is_crowded.ensures c.requires.declared) h.items h.tail h.trailer h.extensions h.last
          h.parted h.trailer_len
          h.items_are h.sound refl h.is_end;
      grows = h.grows;
    }))
