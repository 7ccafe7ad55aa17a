-- What follows extensions that were traversed, with their parts.
use Rattle.std.proofs.Common.{◌≡◌, ℕ, ◌+◌, ◌-◌, List, ◌++◌, length, take, drop, Some, sym, ap, subst}
use Rattle.std.proofs.Common.{◌∙◌, take-append-drop, arith}
use Rattle.gix_index.specs.Answer.{Fault}
use Rattle.gix_index.specs.DecodeError.{Error}
use Rattle.gix_index.specs.Id.{id_len}
use Rattle.gix_index.specs.Kind.{Kind}
use Rattle.view_salvage.proofs.Divided.{refused_grows}
use Rattle.view_salvage.proofs.Laid.{behind_items, grown_more, items_end, tail_items}
use Rattle.view_salvage.specs.Division.{IsFileEnd, fault_of, unread_piece}
use Rattle.view_salvage.specs.DivisionSteps.{EndsIn, WalksOn}
use Rattle.view_salvage.specs.ItemSteps.{IsWalked}
use Rattle.view_layout.specs.Piece.{piece_bytes, item_pieces, laid}
use Rattle.view_salvage.specs.declared.division.Ending.{Ending}
use Rattle.view_salvage.specs.declared.items.Walked.{Walked}
use Rattle.view_layout.specs.declared.part.Part.{Part}

pub split_parts : (n : ℕ) (l a b : List ℕ) → a ≡ take n l → b ≡ drop n l → l ≡ a ++ b
split_parts n l a b e f = rw (e, f) (sym (take-append-drop n l))

-- how far the parts reach
pub walked_end : (kind : Kind) (place : ℕ) (bytes : List ℕ) (old : List Part) (w : Walked)
    (h : IsWalked kind place bytes old w) → w.end ≡ place + length (piece_bytes (item_pieces h.items))
walked_end kind place bytes old w h = items_end place w.end bytes h.items h.tail h.items_are h.end

pub walked_tail : (kind : Kind) (place : ℕ) (bytes : List ℕ) (old : List Part) (w : Walked) (u : List ℕ)
    (h : IsWalked kind place bytes old w) → u ≡ drop (w.end - place) bytes → u ≡ h.tail
walked_tail kind place bytes old w u h e = e
    ∙ tail_items (w.end - place) bytes h.items h.tail h.items_are (omega (arith, walked_end kind place bytes old w h))

pub walked_refused : (kind : Kind) (bytes after : List ℕ) (place : ℕ) (old : List Part) (w : Walked) (x : Ending)
    (extensions trailer u : List ℕ) (error : Error) (f : Fault) → (h : IsWalked kind place extensions old w)
    → after ≡ extensions ++ trailer → length trailer ≡ id_len kind → u ≡ drop (w.end - place) after
    → x.parts.items ≡ w.parts.items ++ laid w.end (unread_piece u) → x.fault ≡ Some error → fault_of error ≡ Some f
    → IsFileEnd kind bytes h.tail trailer (unread_piece (h.tail ++ trailer)) (Some f)
    → WalksOn kind bytes after place old x
walked_refused kind bytes after place old w x extensions trailer u error f h parted len e parts is stands is_end =
    let reach = walked_end kind place extensions old w h in
    let same : u ≡ h.tail ++ trailer = e ∙ ap (drop (w.end - place)) parted
    ∙ behind_items (w.end - place) extensions trailer h.items h.tail h.items_are (omega (arith, reach)) in
    record {
      items = h.items;
      tail = h.tail;
      trailer = trailer;
      extensions = extensions;
      last = unread_piece (h.tail ++ trailer);
      fault = Some f;
      parted = parted;
      trailer_len = len;
      items_are = h.items_are;
      sound = h.sound;
      is_end = is_end;
      grows = refused_grows place w.end (item_pieces h.items) (unread_piece (h.tail ++ trailer)) old w.parts.items
          x error f h.are reach
          (subst (λ (t : List ℕ). x.parts.items ≡ w.parts.items ++ laid w.end (unread_piece t)) same parts) is stands;
    }

pub walked_sealed : (kind : Kind) (bytes after : List ℕ) (place : ℕ) (old : List Part) (w : Walked) (x : Ending)
    (extensions trailer u : List ℕ) → (h : IsWalked kind place extensions old w) → after ≡ extensions ++ trailer
    → length trailer ≡ id_len kind → u ≡ h.tail → EndsIn kind bytes u trailer w.end w.parts.items x
    → WalksOn kind bytes after place old x
walked_sealed kind bytes after place old w x extensions trailer u h parted len e s = record {
  items = h.items;
  tail = h.tail;
  trailer = trailer;
  extensions = extensions;
  last = s.pieces;
  fault = s.fault;
  parted = parted;
  trailer_len = len;
  items_are = h.items_are;
  sound = h.sound;
  is_end = subst (λ (t : List ℕ). IsFileEnd kind bytes t trailer s.pieces s.fault) e s.is_end;
  grows = record {
    are = grown_more place w.end (item_pieces h.items) s.pieces old w.parts.items x.parts.items h.are
        (walked_end kind place extensions old w h) s.grows.are;
    told = s.grows.told;
  };
}
