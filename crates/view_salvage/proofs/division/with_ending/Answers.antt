use Rattle.std.proofs.Common.{◌+◌, ◌++◌, ℕ, List, length, Some, None, refl, sym, ap}
use Rattle.gix_index.specs.Answer.{Verify}
use Rattle.gix_index.specs.Intact.{digest_id, trailer_id}
use Rattle.view_salvage.proofs.Divided.{if_ok_both, refused_grows}
use Rattle.view_salvage.proofs.Laid.{bytes_some, grown_more}
use Rattle.view_salvage.specs.Division.{broken, fault_of, unread_piece, whole}
use Rattle.view_layout.specs.Piece.{one_piece, some_piece}
use Rattle.view_layout.specs.declared.part.What.TheVariants as whats
use Rattle.view_salvage.proofs.division.with_ending.Goals as goal

pub returns-in-Err : goal.returns-in-Err
returns-in-Err c =
    let tail = c.args.tail.now in
    let trailer = c.args.trailer.now in
    let over = some_piece whats.LeftOver tail in
    let fault = Verify (digest_id c.args.kind c.args.bytes.now) (trailer_id c.args.kind c.args.bytes.now) in
    let place = ap (λ (l : List ℕ). c.args.offset + length l) (sym (bytes_some whats.LeftOver tail)) in
    if_ok_both c.unread_from.result _ _ _ c.unread_from.ensures.parts c.unread_from.ensures.fault (λ x p q. record {
      pieces = over ++ unread_piece trailer;
      fault = Some fault;
      is_end = broken c.requires.ended c.requires.none_left c.in-Err.ensures.broken refl refl;
      grows = refused_grows c.args.offset _ over (unread_piece trailer) c.args.parts.items _ x _ fault
          (c.in_ok-push_some.ensures tail refl) place p q (ap fault_of c.in-Err.ensures.err);
    })

pub returns : goal.returns
returns c =
    let tail = c.args.tail.now in
    let trailer = c.args.trailer.now in
    let over = some_piece whats.LeftOver tail in
    let last = one_piece whats.Trailer trailer in
    let place = ap (λ (l : List ℕ). c.args.offset + length l) (sym (bytes_some whats.LeftOver tail)) in
    record {
      pieces = over ++ last;
      fault = None;
      is_end = whole c.requires.ended c.requires.none_left c.in_default.ensures.ok refl refl;
      grows = record {
        are = grown_more c.args.offset _ over last c.args.parts.items _ _ (c.in_ok-push_some.ensures tail refl) place
            (c.in_ok-push_part.ensures trailer refl);
        told = refl;
      };
    }
