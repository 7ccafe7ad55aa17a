-- The parts of a division cover the file.
use Rattle.std.proofs.Common.{◌≡◌, ℕ, ◌+◌, List, [], ◌∷◌, ◌++◌, length, take, drop, refl, sym, ap, subst, ◌∙◌}
use Rattle.std.proofs.Common.{append_assoc, append-nil, length-append, take-append-drop, Option, arith}
use Rattle.gix_index.specs.Answer.{Fault}
use Rattle.gix_index.specs.Header.{header_len}
use Rattle.gix_index.specs.Kind.{Kind}
use Rattle.gix_index.specs.Record.{Record}
use Rattle.gix_index.specs.Version.{Version}
use Rattle.view_salvage.proofs.Laid.{bytes_append, bytes_items, bytes_some}
use Rattle.view_salvage.proofs.SpelledFronts.{bytes_spelled}
use Rattle.gix_index.specs.DecodeError.{Error}
use Rattle.view_salvage.specs.Division.{Divides, IsBehindEntries, IsDivided, IsFileEnd, lacks, crowded, short, walked}
use Rattle.view_salvage.specs.Division.{faulty, left, broken, whole, headless, headed}
use Rattle.view_layout.specs.Piece.{LieBetween, Piece, piece_bytes, item_pieces, laid, one_piece, some_piece}
use Rattle.view_salvage.specs.Spelling.{Spelling, entry_pieces}
use Rattle.view_layout.specs.declared.part.Part.{Part}
use Rattle.view_layout.specs.declared.part.What.{What}
use Rattle.view_layout.specs.declared.part.What.TheVariants as whats

pub lie_laid : (n m : ℕ) (ps : List Piece) → m ≡ n + length (piece_bytes ps) → LieBetween n (laid n ps) m
lie_laid n m [] e = omega arith
lie_laid n m (p ∷ ps) e =
    (refl, lie_laid (n + length p.bytes) m ps (omega (arith, length-append p.bytes (piece_bytes ps))))

one_is : (what : What) (l : List ℕ) (ps : List Piece) → ps ≡ one_piece what l → l ≡ piece_bytes ps
one_is what l ps e = sym (ap piece_bytes e ∙ append-nil l)

two_are : (what other : What) (tail trailer : List ℕ) (ps : List Piece)
    → ps ≡ some_piece what tail ++ one_piece other trailer → tail ++ trailer ≡ piece_bytes ps
two_are what other tail trailer ps e =
    sym (ap piece_bytes e ∙ bytes_append (some_piece what tail) (one_piece other trailer)
    ∙ ap (λ (t : List ℕ). t ++ (trailer ++ [])) (bytes_some what tail)
    ∙ ap (λ (t : List ℕ). tail ++ t) (append-nil trailer))

end_covered : (kind : Kind) (bytes tail trailer : List ℕ) (ps : List Piece) (f : Option Fault)
    → IsFileEnd kind bytes tail trailer ps f → tail ++ trailer ≡ piece_bytes ps
end_covered kind bytes tail trailer ps f (faulty i rest x a b e g) = one_is whats.Unread (tail ++ trailer) ps e
end_covered kind bytes tail trailer ps f (left a b e g) = one_is whats.Unread (tail ++ trailer) ps e
end_covered kind bytes tail trailer ps f (broken a b c e g) = two_are whats.LeftOver whats.Unread tail trailer ps e
end_covered kind bytes tail trailer ps f (whole a b c e g) = two_are whats.LeftOver whats.Trailer tail trailer ps e

pub behind_covered : (kind : Kind) (version : Version) (bytes : List ℕ) (ss : List Spelling) (after : List ℕ)
    (ps : List Piece) (f : Option Fault) → IsBehindEntries kind version bytes ss after ps f → after ≡ piece_bytes ps
behind_covered kind version bytes ss after ps f (lacks a b e g) = one_is whats.Unread after ps e
behind_covered kind version bytes ss after ps f (crowded a b e g) = one_is whats.Unread after ps e
behind_covered kind version bytes ss after ps f (short a b c e g) = one_is whats.Unread after ps e
behind_covered kind version bytes ss after ps f
    (walked a b items tail trailer extensions last parted l are sound e is_end) =
    let front = piece_bytes (item_pieces items) in
    parted ∙ ap (λ (t : List ℕ). t ++ trailer) (bytes_items extensions items tail are) ∙ append_assoc front tail trailer
    ∙ ap (λ (t : List ℕ). front ++ t) (end_covered kind bytes tail trailer last f is_end)
    ∙ sym (ap piece_bytes e ∙ bytes_append (item_pieces items) last)

-- the bytes of a file are those of its pieces, one after another
pub all_covered : (kind : Kind) (bytes : List ℕ) (rs : List Record) (ps : List Piece) (f : Option Fault)
    → IsDivided kind bytes rs ps f → bytes ≡ piece_bytes ps
all_covered kind bytes rs ps f (headless x a b e g) = one_is whats.Unread bytes ps e
all_covered kind bytes rs ps f (headed version ss after behind a are r e h) =
    let head = take header_len bytes in
    let middle = piece_bytes (entry_pieces 0 ss) in
    sym (take-append-drop header_len bytes)
    ∙ ap (λ (t : List ℕ). head ++ t) (bytes_spelled version kind _ 0 (drop header_len bytes) ss after are
    ∙ ap (λ (t : List ℕ). middle ++ t) (behind_covered kind version bytes ss after behind f h)
    ∙ sym (bytes_append (entry_pieces 0 ss) behind)) ∙ sym (ap piece_bytes e)

-- parts of a file are consecutive, and cover it
pub covered_of : (kind : Kind) (bytes : List ℕ) (rs : List Record) (parts : List Part) (e : Option Error)
    → Divides kind bytes rs parts e → LieBetween 0 parts (length bytes)
covered_of kind bytes rs parts e h =
    subst (λ (l : List Part). LieBetween 0 l (length bytes)) (sym h.are) (lie_laid 0 (length bytes) h.pieces
    (omega (arith, ap length (all_covered kind bytes rs h.pieces h.fault h.is_divided))))
