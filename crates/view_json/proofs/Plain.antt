-- Bytes that are their own text in a string.
use Rattle.std.proofs.Common.{◌≡◌, ◌≢◌, ℕ, ◌+◌, ◌<◌, ◌≤◌, Bool, true, false, not, ◌&&◌, eqb, leb, ltb, List, [], ◌∷◌}
use Rattle.std.proofs.Common.{◌++◌, ◌∙◌, ap, arith, get_or, length, refl, sym, take}
use Rattle.std.proofs.lemmas.Bool.{eqb-false, le-ltb, leb-true, ne_eqb}
use Rattle.std.proofs.lemmas.List.{flat_map_more, take_more}
use Rattle.std.specs.Bool.{OnTrue}
use Rattle.json.specs.Print.{escape, escape_byte}

pub plain_byte : (x : ℕ) → 32 ≤ x → x ≢ 34 → x ≢ 92 → escape_byte x ≡ x ∷ []
unfolding escape_byte
plain_byte x ge quote slash =
    let small : ltb x 32 ≡ false = le-ltb x 32 ge in
    rw (
      ne_eqb x 34 quote,
      ne_eqb x 92 slash,
      ne_eqb x 8 (λ e. omega (arith, ge, e)),
      ne_eqb x 12 (λ e. omega (arith, ge, e)),
      ne_eqb x 10 (λ e. omega (arith, ge, e)),
      ne_eqb x 13 (λ e. omega (arith, ge, e)),
      ne_eqb x 9 (λ e. omega (arith, ge, e)),
      small,
    ) refl

tested : (A B : Type 0) (all ge quote slash : Bool) → OnTrue all A
    → (ge ≡ true → quote ≡ false → slash ≡ false → A → B) → OnTrue (all && ((ge && not quote) && not slash)) B
tested A B false ge quote slash a f = tt
tested A B true false quote slash a f = tt
tested A B true true true slash a f = tt
tested A B true true false true a f = tt
tested A B true true false false a f = f refl refl refl a

-- one byte more is its own text
pub plain_more : (all : Bool) (bs : List ℕ) (i : ℕ) → i < length bs → OnTrue all (escape (take i bs) ≡ take i bs)
    → OnTrue (all && ((leb 32 (get_or bs i 0) && not (eqb (get_or bs i 0) 34)) && not (eqb (get_or bs i 0) 92)))
    (escape (take (i + 1) bs) ≡ take (i + 1) bs)
plain_more all bs i lt before =
    let b = get_or bs i 0 in
    tested (escape (take i bs) ≡ take i bs) (escape (take (i + 1) bs) ≡ take (i + 1) bs) all (leb 32 b) (eqb b 34)
    (eqb b 92) before
    (λ ge quote slash e. ap escape (take_more bs i 0 lt) ∙ sym (flat_map_more escape_byte [] (take i bs) b)
    ∙ ap (λ (l : List ℕ). l ++ escape_byte b) e
    ∙ ap (λ (l : List ℕ). take i bs ++ l)
    (plain_byte b (leb-true 32 b ge) (eqb-false b 34 quote) (eqb-false b 92 slash))
    ∙ sym (take_more bs i 0 lt))
