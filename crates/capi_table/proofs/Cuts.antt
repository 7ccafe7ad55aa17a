-- What is collected of trees, one tree more, and as a caller gets it.
use Rattle.std.proofs.Common.{◌≡◌, ◌∙◌, ℕ, ◌+◌, ◌≤◌, ◌<◌, zero, suc, List, [], ◌∷◌, ◌++◌, Bool, true, false, length, take, drop}
use Rattle.std.proofs.Common.{Some, None, cond, nat_eq, refl, sym, ap, arith, length-append, set, get_or}
use Rattle.std.proofs.Math.Seq.{take-length}
use Rattle.std.proofs.lemmas.Bool.{eqb-true, eqb-false, eq-eqb}
use Rattle.std.proofs.lemmas.List.{drop-append-le, drop-drop, drop-set-lt, length-drop, take_more_set, length-take-le, take-append-drop, take-append-le, take_more}
use Rattle.gix_index.specs.Trees.Objects.{Taken, with_objects}
use Rattle.capi_table.specs.Table.{padded_id}
use Rattle.capi_table.specs.Collecting.{split_objects, piece_rows, pieces_len}
use Rattle.capi_table.specs.Trees.{HoldTrees, Objects, object_bytes, object_counts, rows_from}
use Rattle.capi_table.specs.declared.collected.Piece.{Piece}
use Rattle.capi_table.specs.declared.trees.Counts.{Counts}
use Rattle.capi_table.specs.declared.trees.Tree.{Tree}

-- ---- one more

pub len_push : (ps : List Piece) (p : Piece) → pieces_len (ps ++ p ∷ []) ≡ pieces_len ps + p.len
len_push [] p = omega arith
len_push (q ∷ ps) p = omega (arith, len_push ps p)

cut_push : (ps : List Piece) (p : Piece) (bs b : List ℕ) → pieces_len ps ≡ length bs → p.len ≡ length b
    → split_objects (ps ++ p ∷ []) (bs ++ b) ≡ split_objects ps bs ++ (p.id, b) ∷ []
cut_push [] p [] b e f = ap (λ (xs : List ℕ). (p.id, xs) ∷ []) (rw f (take-length b))
cut_push [] p (x ∷ bs) b e f = absurd (omega (arith, e))
cut_push (q ∷ ps) p bs b e f =
    let fits : q.len ≤ length bs = omega (arith, e) in
    let rest : pieces_len ps ≡ length (drop q.len bs) = omega (arith, e, length-drop q.len bs) in
    rw (take-append-le q.len bs b fits, drop-append-le q.len bs b fits, cut_push ps p (drop q.len bs) b rest f) refl

pub unequal : (a b : ℕ) → (a ≡ b → ⊥) → nat_eq a b ≡ false
unequal a b h = by (nat_eq a b) refl
  where
    by : (t : Bool) → nat_eq a b ≡ t → nat_eq a b ≡ false
    by true t = absurd (h (eqb-true a b t))
    by false t = t

-- what is collected, if there are as many bytes as the pieces have
abbrev pub held : List Piece → List ℕ → Taken
held ps bs = cond (nat_eq (pieces_len ps) (length bs)) (Some (split_objects ps bs)) None

pub held_push : (ps : List Piece) (p : Piece) (bs b : List ℕ) → p.len ≡ length b
    → held (ps ++ p ∷ []) (bs ++ b) ≡ with_objects (held ps bs) ((p.id, b) ∷ [])
held_push ps p bs b f = by (nat_eq (pieces_len ps) (length bs)) refl
  where
    by : (t : Bool) → nat_eq (pieces_len ps) (length bs) ≡ t
        → held (ps ++ p ∷ []) (bs ++ b) ≡ with_objects (held ps bs) ((p.id, b) ∷ [])
    by true t =
        let same : pieces_len ps ≡ length bs = eqb-true (pieces_len ps) (length bs) t in
        let more : nat_eq (pieces_len (ps ++ p ∷ [])) (length (bs ++ b)) ≡ true =
        eq-eqb (pieces_len (ps ++ p ∷ [])) (length (bs ++ b)) (omega (arith, same, f, len_push ps p, length-append bs b)) in
        rw (t, more) (ap (λ (os : Objects). Some os) (cut_push ps p bs b same f))
    by false t = rw (t, unequal (pieces_len (ps ++ p ∷ [])) (length (bs ++ b)) (λ e. eqb-false (pieces_len ps) (length bs) t (omega (arith, e, f, len_push ps p, length-append bs b)))) refl

-- ---- as a caller gets it

pub cut_len : (ps : List Piece) (bs : List ℕ) → length (split_objects ps bs) ≡ length ps
cut_len [] bs = refl
cut_len (p ∷ ps) bs = ap suc (cut_len ps (drop p.len bs))

pub bytes_again : (ps : List Piece) (bs : List ℕ) → pieces_len ps ≡ length bs → object_bytes (split_objects ps bs) ≡ bs
bytes_again [] [] e = refl
bytes_again [] (x ∷ bs) e = absurd (omega (arith, e))
bytes_again (p ∷ ps) bs e =
    let rest : pieces_len ps ≡ length (drop p.len bs) = omega (arith, e, length-drop p.len bs) in
    rw (bytes_again ps (drop p.len bs) rest) (take-append-drop p.len bs)

pub rows_again : (start : ℕ) (ps : List Piece) (bs : List ℕ) → pieces_len ps ≡ length bs
    → rows_from start (split_objects ps bs) ≡ piece_rows start ps
rows_again start [] bs e = refl
rows_again start (p ∷ ps) bs e =
    let rest : pieces_len ps ≡ length (drop p.len bs) = omega (arith, e, length-drop p.len bs) in
    let own : length (take p.len bs) ≡ p.len = length-take-le p.len bs (omega (arith, e)) in
    rw (own, rows_again (start + p.len) ps (drop p.len bs) rest) refl

-- what is collected, if it can be named
pub held_is : (ps : List Piece) (bs : List ℕ) (os : Objects) → held ps bs ≡ Some os
    → (pieces_len ps ≡ length bs) × (split_objects ps bs ≡ os)
held_is ps bs os h = by (nat_eq (pieces_len ps) (length bs)) refl h
  where
    by : (t : Bool) → nat_eq (pieces_len ps) (length bs) ≡ t
        → cond t (Some (split_objects ps bs)) None ≡ Some os → (pieces_len ps ≡ length bs) × (split_objects ps bs ≡ os)
    by true t h = (eqb-true (pieces_len ps) (length bs) t, cc)
    by false t h = absurd cc

pub counts_are : (counts : Counts) (ps : List Piece) (bs : List ℕ) (os : Objects) → counts.trees ≡ length ps
    → counts.bytes ≡ length bs → held ps bs ≡ Some os → counts ≡ object_counts os
counts_are counts ps bs os e f h =
    let is = held_is ps bs os h in
    let trees : counts.trees ≡ length os = e ∙ sym (cut_len ps bs) ∙ ap length is.1 in
    let all : bs ≡ object_bytes os = sym (bytes_again ps bs is.0) ∙ ap object_bytes is.1 in
    let bytes : counts.bytes ≡ length (object_bytes os) = f ∙ ap length all in
    ap (λ (n : ℕ). record counts { trees = n }) trees
    ∙ ap (λ (n : ℕ). record counts { trees = length os; bytes = n }) bytes

-- the rooms with all of it
pub all_held : (counts : Counts) (ps : List Piece) (bs : List ℕ) (os : Objects) (trees filled : List Tree)
    (bytes left : List ℕ) → counts.trees ≡ length ps → counts.bytes ≡ length bs → held ps bs ≡ Some os
    → counts.trees ≤ length trees → counts.bytes ≤ length bytes
    → filled ≡ piece_rows 0 ps ++ drop (length ps) trees → left ≡ bs ++ drop counts.bytes bytes
    → HoldTrees counts trees filled bytes left os
all_held counts ps bs os trees filled bytes left e f h trees_fit bytes_fit filled_is left_is =
    let is = held_is ps bs os h in
    let rows : piece_rows 0 ps ≡ rows_from 0 os = sym (rows_again 0 ps bs is.0) ∙ ap (rows_from 0) is.1 in
    let all : bs ≡ object_bytes os = sym (bytes_again ps bs is.0) ∙ ap object_bytes is.1 in
    record {
      told_is = counts_are counts ps bs os e f h;
      trees_fit = trees_fit;
      bytes_fit = bytes_fit;
      filled_is = filled_is ∙ ap (λ (l : List Tree). l ++ drop (length ps) trees) rows
          ∙ ap (λ (n : ℕ). rows_from 0 os ++ drop n trees) (sym e);
      left_is = left_is ∙ ap (λ (l : List ℕ). l ++ drop counts.bytes bytes) all;
    }

-- ---- rows, one by one

abbrev row_of : ℕ → Piece → Tree
row_of start p = record { id = padded_id p.id; start = start; len = p.len }

pub rows_push : (start : ℕ) (ps : List Piece) (p : Piece)
    → piece_rows start (ps ++ p ∷ []) ≡ piece_rows start ps ++ row_of (start + pieces_len ps) p ∷ []
rows_push start [] p = ap (λ (n : ℕ). row_of n p ∷ []) (omega arith)
rows_push start (q ∷ ps) p =
    let sum : (start + q.len) + pieces_len ps ≡ start + (q.len + pieces_len ps) = omega arith in
    ap (λ (rows : List Tree). row_of start q ∷ rows) (rw (rows_push (start + q.len) ps p, sum) refl)

len_front : (ps : List Piece) (i : ℕ) → pieces_len (take i ps) ≤ pieces_len ps
len_front [] zero = omega arith
len_front [] (suc i) = omega arith
len_front (p ∷ ps) zero = omega arith
len_front (p ∷ ps) (suc i) = omega (arith, len_front ps i)

pub len_within : (ps : List Piece) (i : ℕ) (d : Piece) → i < length ps
    → pieces_len (take i ps) + (get_or ps i d).len ≤ pieces_len ps
len_within ps i d lt =
    let more : take (i + 1) ps ≡ take i ps ++ get_or ps i d ∷ [] = take_more ps i d lt in
    let one : pieces_len (take (i + 1) ps) ≡ pieces_len (take i ps) + (get_or ps i d).len =
    rw more (len_push (take i ps) (get_or ps i d)) in
    omega (arith, one, len_front ps (i + 1))

-- ---- the loop that fills in rows

-- `place` rows are filled in, and the bytes of the next one begin at `start`
pub record Filled (ps : List Piece) (before : List Tree) (place start : ℕ) (rows : List Tree) : Type 0 where
  pub front : take place rows ≡ piece_rows 0 (take place ps)
  pub behind : drop place rows ≡ drop place before
  pub start_is : start ≡ pieces_len (take place ps)

pub one_filled : (ps : List Piece) (before rows : List Tree) (place start : ℕ) (d : Piece) (new : Tree)
    → Filled ps before place start rows
    → place < length ps → place < length rows → new ≡ row_of start (get_or ps place d)
    → Filled ps before (place + 1) (start + (get_or ps place d).len) (set rows place new)
one_filled ps before rows place start d new f lt fit is =
    let p : Piece = get_or ps place d in
    let more : take (place + 1) ps ≡ take place ps ++ p ∷ [] = take_more ps place d lt in
    let at : new ≡ row_of (0 + pieces_len (take place ps)) p =
    is ∙ ap (λ (n : ℕ). row_of n p) (omega (arith, f.start_is)) in
    record {
      front = take_more_set rows place new fit
          ∙ ap (λ (l : List Tree). l ++ new ∷ []) f.front
          ∙ ap (λ (r : Tree). piece_rows 0 (take place ps) ++ r ∷ []) at
          ∙ sym (rows_push 0 (take place ps) p)
          ∙ ap (piece_rows 0) (sym more);
      behind = drop-set-lt (place + 1) rows place new (omega arith)
          ∙ sym (drop-drop 1 place rows) ∙ ap (drop 1) f.behind ∙ drop-drop 1 place before;
      start_is = ap (λ (n : ℕ). n + p.len) f.start_is ∙ sym (len_push (take place ps) p) ∙ ap pieces_len (sym more);
    }
