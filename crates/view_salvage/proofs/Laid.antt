-- Pieces that are laid side by side: what more of them adds, and which bytes they are.
use Rattle.std.proofs.Common.{◌≡◌, ℕ, ◌+◌, List, [], ◌∷◌, ◌++◌, length, drop, refl, sym, ap, ◌∙◌, append_assoc}
use Rattle.std.proofs.Common.{append-nil, length-append, drop_at, arith}
use Rattle.std.proofs.lemmas.Grind.{flat_map-append}
use Rattle.gix_index.specs.Walk.{Item, AreItems}
use Rattle.view_layout.specs.Piece.{Piece, piece_bytes, item_pieces, laid, one_piece, pieces_of_item, some_piece}
use Rattle.view_layout.specs.declared.part.Part.{Part}
use Rattle.view_layout.specs.declared.part.What.{What}
use Rattle.view_layout.specs.declared.part.What.TheVariants as whats

pub bytes_append : (ps qs : List Piece) → piece_bytes (ps ++ qs) ≡ piece_bytes ps ++ piece_bytes qs
bytes_append ps qs = flat_map-append (λ (p : Piece). p.bytes) ps qs

pub laid_append : (n : ℕ) (ps qs : List Piece) → laid n (ps ++ qs) ≡ laid n ps ++ laid (n + length (piece_bytes ps)) qs
laid_append n [] qs = ap (λ (m : ℕ). laid m qs) (omega arith)
laid_append n (p ∷ ps) qs =
    let first : Part = record { offset = n; len = length p.bytes; what = p.what } in
    ap (λ (l : List Part). first ∷ l) (laid_append (n + length p.bytes) ps qs
    ∙ ap (λ (m : ℕ). laid (n + length p.bytes) ps ++ laid m qs) (omega (arith, length-append p.bytes (piece_bytes ps))))

-- parts that follow those of pieces
pub laid_more : (n place : ℕ) (ps qs : List Piece) (old new : List Part) → old ≡ laid n ps
    → place ≡ n + length (piece_bytes ps) → new ≡ old ++ laid place qs → new ≡ laid n (ps ++ qs)
laid_more n place ps qs old new o p e = e ∙ ap (λ (l : List Part). l ++ laid place qs) o
    ∙ ap (λ (m : ℕ). laid n ps ++ laid m qs) p ∙ sym (laid_append n ps qs)

-- parts that follow those of pieces, after other parts
pub grown_more : (n place : ℕ) (ps qs : List Piece) (front old new : List Part) → old ≡ front ++ laid n ps
    → place ≡ n + length (piece_bytes ps) → new ≡ old ++ laid place qs → new ≡ front ++ laid n (ps ++ qs)
grown_more n place ps qs front old new o p e =
    e ∙ ap (λ (l : List Part). l ++ laid place qs) o ∙ append_assoc front (laid n ps) (laid place qs)
    ∙ ap (λ (l : List Part). front ++ l) (ap (λ (m : ℕ). laid n ps ++ laid m qs) p ∙ sym (laid_append n ps qs))

pub bytes_some : (what : What) (l : List ℕ) → piece_bytes (some_piece what l) ≡ l
bytes_some what [] = refl
bytes_some what (b ∷ l) = append-nil (b ∷ l)

-- bytes that begin with extensions are theirs, and the rest
pub bytes_items : (bytes : List ℕ) (items : List Item) (tail : List ℕ) → AreItems bytes items tail
    → bytes ≡ piece_bytes (item_pieces items) ++ tail
bytes_items bytes [] tail h = h
bytes_items bytes (i ∷ items) tail h =
    let rest = piece_bytes (item_pieces items) in
    h.1.parts ∙ ap (λ (t : List ℕ). i.signature ++ (i.size ++ (i.content ++ t))) (bytes_items h.0 items tail h.2)
    ∙ (simp append_assoc refl)

pub items_more : (items : List Item) (i : Item) → item_pieces (items ++ i ∷ []) ≡ item_pieces items ++ pieces_of_item i
items_more items i = flat_map-append pieces_of_item items (i ∷ [])

-- the parts of an extension follow those of others
pub item_grown : (place end : ℕ) (items : List Item) (i : Item) (front old mid new : List Part) → length i.signature ≡ 4
    → length i.size ≡ 4 → old ≡ front ++ laid place (item_pieces items)
    → end ≡ place + length (piece_bytes (item_pieces items))
    → mid ≡ old ++ laid end (one_piece (whats.ExtensionHead i.signature) (i.signature ++ i.size))
    → new ≡ mid ++ laid (end + 8) (one_piece (whats.ExtensionContent i.signature) i.content)
    → new ≡ front ++ laid place (item_pieces (items ++ i ∷ []))
item_grown place end items i front old mid new sig size o p e f =
    let head : List Piece = one_piece (whats.ExtensionHead i.signature) (i.signature ++ i.size) in
    let content : List Piece = one_piece (whats.ExtensionContent i.signature) i.content in
    let one : mid ≡ front ++ laid place (item_pieces items ++ head) =
    grown_more place end (item_pieces items) head front old mid o p e in
    let len : end + 8 ≡ place + length (piece_bytes (item_pieces items ++ head)) =
    omega (
      arith,
      sig,
      size,
      p,
      ap length (bytes_append (item_pieces items) head),
      length-append (piece_bytes (item_pieces items)) (piece_bytes head),
      length-append (i.signature ++ i.size) [],
      length-append i.signature i.size,
    ) in
    let two : new ≡ front ++ laid place ((item_pieces items ++ head) ++ content) =
    grown_more place (end + 8) (item_pieces items ++ head) content front mid new one len f in
    two ∙ ap (λ (l : List Piece). front ++ laid place l) (append_assoc (item_pieces items) head content
    ∙ sym (items_more items i))

-- how far extensions reach
pub items_end : (place end : ℕ) (bytes : List ℕ) (items : List Item) (tail : List ℕ) → AreItems bytes items tail
    → end + length tail ≡ place + length bytes → end ≡ place + length (piece_bytes (item_pieces items))
items_end place end bytes items tail are e =
    omega (arith, e, ap length (bytes_items bytes items tail are), length-append (piece_bytes (item_pieces items)) tail)

-- what follows extensions and a part of the bytes after them
pub behind_items : (n : ℕ) (bytes more : List ℕ) (items : List Item) (tail : List ℕ) → AreItems bytes items tail
    → n ≡ length (piece_bytes (item_pieces items)) → drop n (bytes ++ more) ≡ tail ++ more
behind_items n bytes more items tail are e =
    let front = piece_bytes (item_pieces items) in
    ap (λ (l : List ℕ). drop n (l ++ more)) (bytes_items bytes items tail are)
    ∙ ap (drop n) (append_assoc front tail more) ∙ drop_at front (tail ++ more) n (sym e)

pub tail_items : (n : ℕ) (bytes : List ℕ) (items : List Item) (tail : List ℕ) → AreItems bytes items tail
    → n ≡ length (piece_bytes (item_pieces items)) → drop n bytes ≡ tail
tail_items n bytes items tail are e = ap (drop n) (bytes_items bytes items tail are)
    ∙ drop_at (piece_bytes (item_pieces items)) tail n (sym e)
