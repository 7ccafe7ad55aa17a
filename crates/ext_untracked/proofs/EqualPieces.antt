-- Pieces of one size, one after another.
use Rattle.std.proofs.Common.{◌≡◌, ℕ, ◌+◌, ◌*◌, ◌<◌, ◌≤◌, Bool, true, false, cond, ltb, Option, Some, None, List, []}
use Rattle.std.proofs.Common.{◌∷◌, ◌++◌, length, take, drop, All, refl, sym, ap, ◌∙◌, append_assoc, append-nil, arith}
use Rattle.std.specs.List.{concat}
use Rattle.std.proofs.Math.Nat.{mul-le-mul_left}
use Rattle.std.proofs.lemmas.Bool.{ltb-true}
use Rattle.std.proofs.lemmas.List.{length-append}
use Rattle.std.proofs.lemmas.List.Elements.{All-nil, All-cons, All-head, All-tail, All-append}
use Rattle.std.proofs.lemmas.List.Folds.{concat-append}
use Rattle.std.proofs.lemmas.Option.{same_Some}
use Rattle.index_parts.proofs.Splits.{piece_again}
use Rattle.index_parts.specs.ReadingSteps.{piece_at}
use Rattle.ext_untracked.specs.CacheBitmaps.{ArePieces}

pub no_pieces : (size : ℕ) (bytes : List ℕ) → ArePieces size 0 bytes [] bytes
no_pieces size bytes = record { parts = refl; sizes = All-nil (λ piece. length piece ≡ size); number = refl }

joined : (pieces : List (List ℕ)) (piece after : List ℕ)
    → concat pieces ++ (piece ++ after) ≡ concat (pieces ++ piece ∷ []) ++ after
joined pieces piece after =
    let one : concat (piece ∷ []) ≡ piece = append-nil piece in
    sym (ap (λ (l : List ℕ). l ++ after) (concat-append pieces (piece ∷ [])
    ∙ ap (λ (l : List ℕ). concat pieces ++ l) one) ∙ append_assoc (concat pieces) piece after)

pub pieces_push : (size count : ℕ) (bytes : List ℕ) (pieces : List (List ℕ)) (rest piece after : List ℕ)
    → ArePieces size count bytes pieces rest → rest ≡ piece ++ after → length piece ≡ size
    → ArePieces size (count + 1) bytes (pieces ++ piece ∷ []) after
pieces_push size count bytes pieces rest piece after p e len = record {
  parts = p.parts ∙ ap (λ (l : List ℕ). concat pieces ++ l) e ∙ joined pieces piece after;
  sizes = All-append (λ x. length x ≡ size) pieces (piece ∷ []) p.sizes
      (All-cons (λ x. length x ≡ size) piece [] len (All-nil (λ x. length x ≡ size)));
  number = length-append pieces (piece ∷ []) ∙ ap (λ (n : ℕ). n + 1) p.number;
}

next_size : (size n : ℕ) → size * (n + 1) ≡ size * n + size
next_size size n = omega arith

sizes_sum : (size : ℕ) (pieces : List (List ℕ)) → All (λ piece. length piece ≡ size) pieces
    → length (concat pieces) ≡ size * length pieces
sizes_sum size [] h = omega arith
sizes_sum size (piece ∷ pieces) h =
    let first : length piece ≡ size = All-head (λ x. length x ≡ size) piece pieces h in
    let others : length (concat pieces) ≡ size * length pieces =
    sizes_sum size pieces (All-tail (λ x. length x ≡ size) piece pieces h) in
    let more : length (piece ∷ pieces) ≡ length pieces + 1 = omega arith in
    length-append piece (concat pieces)
    ∙ omega (arith, first, others, next_size size (length pieces), ap (λ (n : ℕ). size * n) more)

pub pieces_len : (size count : ℕ) (bytes : List ℕ) (pieces : List (List ℕ)) (rest : List ℕ)
    → ArePieces size count bytes pieces rest → length bytes ≡ size * count + length rest
pieces_len size count bytes pieces rest p =
    ap length p.parts ∙ length-append (concat pieces) rest
    ∙ ap (λ (n : ℕ). n + length rest) (sizes_sum size pieces p.sizes ∙ ap (λ (n : ℕ). size * n) p.number)

few_by : (size : ℕ) (bytes : List ℕ) (t : Bool) → ltb (length bytes) size ≡ t
    → cond {A = Option (List ℕ × List ℕ)} t None (Some (take size bytes, drop size bytes)) ≡ None → length bytes < size
few_by size bytes true e h = ltb-true _ _ e
few_by size bytes false e h = absurd cc

pub piece_few : (size : ℕ) (bytes : List ℕ) → piece_at size bytes ≡ None → length bytes < size
piece_few size bytes h = few_by size bytes (ltb (length bytes) size) refl h

-- too few bytes are left for one more of them
pub pieces_short : (size count all : ℕ) (bytes : List ℕ) (pieces : List (List ℕ)) (rest : List ℕ)
    → ArePieces size count bytes pieces rest → length rest < size → count < all → length bytes < size * all
pieces_short size count all bytes pieces rest p few less =
    let room : size * (count + 1) ≤ size * all = mul-le-mul_left size (omega arith) in
    omega (arith, pieces_len size count bytes pieces rest p, next_size size count, room)

same_first : (size : ℕ) (p q x y : List ℕ) → length p ≡ size → length q ≡ size → p ++ x ≡ q ++ y → (p ≡ q) × (x ≡ y)
same_first size p q x y h k e =
    let same = same_Some {A = List ℕ × List ℕ} (p, x) (q, y)
    (sym (piece_again size p x h) ∙ ap (piece_at size) e ∙ piece_again size q y k) in
    (ap (λ (z : List ℕ × List ℕ). z.0) same, ap (λ (z : List ℕ × List ℕ). z.1) same)

same_each : (size : ℕ) (a b : List (List ℕ)) (x y : List ℕ) → All (λ p. length p ≡ size) a
    → All (λ p. length p ≡ size) b → length a ≡ length b → concat a ++ x ≡ concat b ++ y → (a ≡ b) × (x ≡ y)
same_each size [] [] x y h k len e = (refl, e)
same_each size [] (q ∷ b) x y h k len e = absurd (omega arith)
same_each size (p ∷ a) [] x y h k len e = absurd (omega arith)
same_each size (p ∷ a) (q ∷ b) x y h k len e =
    let assoc : p ++ (concat a ++ x) ≡ q ++ (concat b ++ y) =
    sym (append_assoc p (concat a) x) ∙ e ∙ append_assoc q (concat b) y in
    let first = same_first size p q (concat a ++ x) (concat b ++ y) (All-head (λ l. length l ≡ size) p a h)
    (All-head (λ l. length l ≡ size) q b k) assoc in
    let others = same_each size a b x y (All-tail (λ l. length l ≡ size) p a h) (All-tail (λ l. length l ≡ size) q b k)
    (omega arith) first.1 in
    let head : p ≡ q = first.0 in
    let tail : a ≡ b = others.0 in
    (rw (head, tail) refl, others.1)

-- bytes are so many pieces in one way
pub one_row_of_pieces : (size count : ℕ) (bytes : List ℕ) (a b : List (List ℕ)) (x y : List ℕ)
    → ArePieces size count bytes a x → ArePieces size count bytes b y → (a ≡ b) × (x ≡ y)
one_row_of_pieces size count bytes a b x y p q =
    same_each size a b x y p.sizes q.sizes (p.number ∙ sym q.number) (sym p.parts ∙ q.parts)
