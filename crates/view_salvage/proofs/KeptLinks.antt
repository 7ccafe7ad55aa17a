-- The complete link among the parts of a file is the last among its extensions.
use Rattle.std.proofs.Common.{◌≡◌, ℕ, ◌+◌, Bool, true, false, List, [], ◌∷◌, ◌++◌, length, take, drop, Option, Some}
use Rattle.std.proofs.Common.{None, option_map, refl, sym, ap, ◌∙◌, append_assoc, length-append, drop_at, arith}
use Rattle.std.proofs.Math.Seq.{take-append_seam}
use Rattle.std.specs.Prelude.{codes, if◌then◌else◌}
use Rattle.gix_index.specs.Answer.{Fault}
use Rattle.gix_index.specs.ExtensionValue.{content_named, last_content, option_or}
use Rattle.gix_index.specs.Kind.{Kind}
use Rattle.gix_index.specs.Record.{Record}
use Rattle.gix_index.specs.Walk.{Item}
use Rattle.view_salvage.specs.Division.{Divides, IsFileEnd, faulty, left, broken, whole}
use Rattle.view_layout.specs.Piece.{Piece, piece_bytes, item_pieces, laid, one_piece, some_piece}
use Rattle.view_salvage.specs.Remains.{is_link_content, last_link, link_content, part_bytes}
use Rattle.view_salvage.specs.Spelling.{Spelling, entry_pieces}
use Rattle.view_layout.specs.declared.part.Part.{Part}
use Rattle.view_layout.specs.declared.part.What.{What}
use Rattle.view_layout.specs.declared.part.What.TheVariants as whats
use Rattle.view_salvage.proofs.Covered.{all_covered}
use Rattle.view_salvage.proofs.LastLinks.{or_else_assoc, or_else_none}
use Rattle.gix_index.specs.DecodeError.{Error}

-- the bytes of the last piece that is the content of a link
abbrev pub link_piece : List Piece → Option (List ℕ)
link_piece [] = None
link_piece (p ∷ ps) = option_or (link_piece ps) (if is_link_content p.what then Some p.bytes else None)

-- ---- pieces as parts

map_or : {A B : Type 0} (f : A → B) (x y : Option A)
    → option_map f (option_or x y) ≡ option_or (option_map f x) (option_map f y)
map_or f None y = refl
map_or f (Some a) y = refl

own_bytes : (bytes : List ℕ) (p : Part) (own : List ℕ) (t : Bool) → part_bytes bytes p ≡ own
    → option_map (part_bytes bytes) (if t then Some p else None) ≡ (if t then Some own else None)
own_bytes bytes p own true e = ap Some e
own_bytes bytes p own false e = refl

laid_link : (front bytes : List ℕ) (n : ℕ) (ps : List Piece) → length front ≡ n → bytes ≡ front ++ piece_bytes ps
    → option_map (part_bytes bytes) (last_link (laid n ps)) ≡ link_piece ps
laid_link front bytes n [] e f = refl
laid_link front bytes n (p ∷ ps) e f =
    let first : Part = record { offset = n; len = length p.bytes; what = p.what } in
    let own : Option Part = if is_link_content p.what then Some first else None in
    let rest = last_link (laid (n + length p.bytes) ps) in
    let more = laid_link (front ++ p.bytes) bytes (n + length p.bytes) ps (omega (arith, length-append front p.bytes))
    (f ∙ sym (append_assoc front p.bytes (piece_bytes ps))) in
    let same : part_bytes bytes first ≡ p.bytes =
    ap (λ (l : List ℕ). take (length p.bytes) (drop n l)) f
    ∙ ap (take (length p.bytes)) (drop_at front (p.bytes ++ piece_bytes ps) n e)
    ∙ take-append_seam p.bytes (piece_bytes ps) in
    map_or (part_bytes bytes) rest own
    ∙ ap (λ (o : Option (List ℕ)). option_or o (option_map (part_bytes bytes) own)) more
    ∙ ap (option_or (link_piece ps)) (own_bytes bytes first p.bytes (is_link_content p.what) same)

pub divided_link : (kind : Kind) (bytes : List ℕ) (rs : List Record) (parts : List Part) (e : Option Error)
    → (h : Divides kind bytes rs parts e) → link_content bytes parts ≡ link_piece h.pieces
divided_link kind bytes rs parts e h =
    ap (λ (l : List Part). option_map (part_bytes bytes) (last_link l)) h.are
    ∙ laid_link [] bytes 0 h.pieces refl (all_covered kind bytes rs h.pieces h.fault h.is_divided)

-- ---- pieces of a file

link_append : (ps qs : List Piece) → link_piece (ps ++ qs) ≡ option_or (link_piece qs) (link_piece ps)
link_append [] qs = sym (or_else_none (link_piece qs))
link_append (p ∷ ps) qs =
    let own : Option (List ℕ) = if is_link_content p.what then Some p.bytes else None in
    ap (λ (o : Option (List ℕ)). option_or o own) (link_append ps qs)
    ∙ or_else_assoc (link_piece qs) (link_piece ps) own

-- no link is before one that counts
linkless : (ps qs : List Piece) → link_piece ps ≡ None → link_piece (ps ++ qs) ≡ link_piece qs
linkless ps qs e = link_append ps qs ∙ ap (option_or (link_piece qs)) e ∙ or_else_none (link_piece qs)

some_linkless : (what : What) (bytes : List ℕ) → is_link_content what ≡ false
    → link_piece (some_piece what bytes) ≡ None
some_linkless what [] e = refl
some_linkless what (b ∷ bytes) e = ap (λ (t : Bool). if t then Some (b ∷ bytes) else None) e

entries_linkless : (n : ℕ) (ss : List Spelling) → link_piece (entry_pieces n ss) ≡ None
entries_linkless n [] = refl
entries_linkless n (s ∷ ss) =
    or_else_none (link_piece (some_piece whats.Padding s.padding ++ entry_pieces (n + 1) ss))
    ∙ linkless (some_piece whats.Padding s.padding) (entry_pieces (n + 1) ss)
    (some_linkless whats.Padding s.padding refl)
    ∙ entries_linkless (n + 1) ss

items_link : (items : List Item) → link_piece (item_pieces items) ≡ last_content (codes "link") items
items_link [] = refl
items_link (i ∷ items) =
    or_else_none (option_or (link_piece (item_pieces items)) (content_named (codes "link") i))
    ∙ ap (λ (o : Option (List ℕ)). option_or o (content_named (codes "link") i)) (items_link items)

end_linkless : (kind : Kind) (bytes tail trailer : List ℕ) (ps : List Piece) (f : Option Fault)
    → IsFileEnd kind bytes tail trailer ps f → link_piece ps ≡ None
end_linkless kind bytes tail trailer ps f (faulty i rest x a b e g) = ap link_piece e
end_linkless kind bytes tail trailer ps f (left a b e g) = ap link_piece e
end_linkless kind bytes tail trailer ps f (broken a b c e g) =
    ap link_piece e ∙ linkless (some_piece whats.LeftOver tail) (one_piece whats.Unread trailer)
    (some_linkless whats.LeftOver tail refl)
end_linkless kind bytes tail trailer ps f (whole a b c e g) =
    ap link_piece e ∙ linkless (some_piece whats.LeftOver tail) (one_piece whats.Trailer trailer)
    (some_linkless whats.LeftOver tail refl)

-- the link of a file whose entries were read is the last among its extensions
pub walked_link : (kind : Kind) (bytes head tail trailer : List ℕ) (ss : List Spelling) (items : List Item)
    (ps behind last : List Piece) (f : Option Fault)
    → ps ≡ one_piece whats.Header head ++ (entry_pieces 0 ss ++ behind) → behind ≡ item_pieces items ++ last
    → IsFileEnd kind bytes tail trailer last f → link_piece ps ≡ last_content (codes "link") items
walked_link kind bytes head tail trailer ss items ps behind last f e b h =
    ap link_piece e ∙ linkless (one_piece whats.Header head) (entry_pieces 0 ss ++ behind) refl
    ∙ linkless (entry_pieces 0 ss) behind (entries_linkless 0 ss)
    ∙ ap link_piece b ∙ link_append (item_pieces items) last
    ∙ ap (λ (o : Option (List ℕ)). option_or o (link_piece (item_pieces items)))
    (end_linkless kind bytes tail trailer last f h)
    ∙ items_link items
