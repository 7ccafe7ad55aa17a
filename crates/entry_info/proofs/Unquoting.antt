-- The path in quotes, byte after byte.
use Rattle.std.proofs.Common.{◌≡◌, ◌∙◌, ℕ, zero, suc, ◌<◌, ◌≤◌, ◌-◌, List, [], ◌∷◌, ◌++◌, length, sym, ap, refl, arith}
use Rattle.std.proofs.Common.{append-nil, append_assoc, Option, None, Some, true, false}
use Rattle.std.specs.Prelude.{codes, option_map}
use Rattle.std.specs.Str.{bytes_eq}
use Rattle.entry_info.specs.Quoting.{Front, ended, front_of, onto, unquoted_in}

-- a path after the bytes that were read
abbrev pub behind_read : List ℕ → Option (List ℕ) → Option (List ℕ)
behind_read done path = option_map (λ p. done ++ p) path

onto_read : (done : List ℕ) (b : ℕ) (path : Option (List ℕ))
    → behind_read done (option_map (λ p. b ∷ p) path) ≡ behind_read (done ++ b ∷ []) path
onto_read done b None = refl
onto_read done b (Some p) = ap (λ (l : List ℕ). Some l) (sym (append_assoc done (b ∷ []) p))

pub one_more : (room : ℕ) (rest behind done : List ℕ) (b : ℕ) (all : Option (List ℕ))
    → front_of rest ≡ Some (b, behind) → length behind < length rest → length rest ≤ room
    → behind_read done (unquoted_in room rest) ≡ all → behind_read (done ++ b ∷ []) (unquoted_in (room - 1) behind) ≡ all
unfolding unquoted_in
one_more zero rest behind done b all front less fits comes = absurd (omega arith)
one_more (suc n) rest behind done b all front less fits comes =
    let e : suc n - 1 ≡ n = omega arith in
    rw e (sym (onto_read done b (unquoted_in n behind))
    ∙ ap (λ (f : Front). behind_read done (onto (λ l. unquoted_in n l) rest f)) (sym front) ∙ comes)

pub no_more : (room : ℕ) (rest done : List ℕ) (all : Option (List ℕ)) → front_of rest ≡ None
    → behind_read done (unquoted_in room rest) ≡ all → behind_read done (ended rest) ≡ all
unfolding unquoted_in
no_more zero rest done all front comes = comes
no_more (suc n) rest done all front comes =
    ap (λ (f : Front). behind_read done (onto (λ l. unquoted_in n l) rest f)) (sym front) ∙ comes

-- the double quote ends the text, or it doesn't
pub closed : (rest done : List ℕ) → bytes_eq rest (codes "\"") ≡ true → behind_read done (ended rest) ≡ Some done
closed rest done e = rw e (ap (λ (l : List ℕ). Some l) (append-nil done))

pub unclosed : (rest done : List ℕ) → bytes_eq rest (codes "\"") ≡ false → behind_read done (ended rest) ≡ None
unclosed rest done e = rw e refl
