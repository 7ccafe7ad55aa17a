-- One more replace position, and the candidates.
use Rattle.std.proofs.Common.{◌≡◌, ◌≢◌, ℕ, zero, suc, ◌+◌, ◌<◌, ◌≤◌, Bool, true, false, cond, eqb, List, [], ◌∷◌, ◌++◌}
use Rattle.std.proofs.Common.{length, map, Option, Some, None, Result, Ok, refl, ap, arith, eq-eqb}
use Rattle.std.specs.Prelude.{slice_get}
use Rattle.std.specs.List.{position_from}
use Rattle.std.proofs.lemmas.Bool.{ne_eqb}
use Rattle.ext_bitmap.specs.Ascending.{Ascends}
use Rattle.ext_bitmap.specs.declared.ewah.iter.Malformed.{Malformed}
use Rattle.ext_bitmap.specs.Bits.{places}
use Rattle.ext_split.specs.MergeSteps.{changed_at}
use Rattle.ext_split.specs.Merge.{replaced, candidate, candidates_from}
use Rattle.entry_list.specs.Record.{Record}

abbrev pub oks : List ℕ → List (Result ℕ Malformed)
oks places = map Ok places

-- ---- a position is not among those before it

at_least : (n p : ℕ) (seen : List ℕ) (rest : List (Result ℕ Malformed)) → Ascends n (oks seen ++ Ok p ∷ rest) → n ≤ p
at_least n p [] rest h = h.0
at_least n p (q ∷ seen) rest h = omega (arith, h.0, at_least (q + 1) p seen rest h.1)

not_seen : (n p k : ℕ) (seen : List ℕ) (rest : List (Result ℕ Malformed)) → Ascends n (oks seen ++ Ok p ∷ rest)
    → position_from (λ q. eqb q p) k seen ≡ None
not_seen n p k [] rest h = refl
not_seen n p k (q ∷ seen) rest h =
    let le = at_least (q + 1) p seen rest h.1 in
    let apart : eqb q p ≡ false = ne_eqb q p (λ e. omega (arith, e, le)) in
    rw apart (not_seen (q + 1) p (k + 1) seen rest h.1)

pub first_time : (seen : List ℕ) (p : ℕ) (rest : List (Result ℕ Malformed)) → Ascends 0 (oks seen ++ Ok p ∷ rest)
    → position_from (λ q. eqb q p) 0 seen ≡ None
first_time seen p rest h = not_seen 0 p 0 seen rest h

abbrev pub or_else : Option ℕ → Option ℕ → Option ℕ
or_else None o = o
or_else (Some a) o = Some a

position_push : (i k : ℕ) (xs : List ℕ) (p : ℕ) → position_from (λ q. eqb q i) k (xs ++ p ∷ [])
    ≡ or_else (position_from (λ q. eqb q i) k xs) (cond (eqb p i) (Some (k + length xs)) None)
position_push i k [] p = let e : k + 0 ≡ k = omega arith in rw e refl
position_push i k (x ∷ xs) p =
    let e : k + 1 + length xs ≡ k + suc (length xs) = omega arith in
    by (eqb x i) (rw e at (position_push i (k + 1) xs p))
  where
    by : (b : Bool) → position_from (λ q. eqb q i) (k + 1) (xs ++ p ∷ [])
        ≡ or_else (position_from (λ q. eqb q i) (k + 1) xs) (cond (eqb p i) (Some (k + suc (length xs))) None)
        → cond b (Some k) (position_from (λ q. eqb q i) (k + 1) (xs ++ p ∷ [])) ≡ or_else
        (cond b (Some k) (position_from (λ q. eqb q i) (k + 1) xs)) (cond (eqb p i) (Some (k + suc (length xs))) None)
    by true h = refl
    by false h = h

or_else_none : (o : Option ℕ) → or_else o None ≡ o
or_else_none None = refl
or_else_none (Some a) = refl

module _ (split : List Record) (seen : List ℕ) (p : ℕ) (first : position_from (λ q. eqb q p) 0 seen ≡ None) where
  here : (x : Record) → candidate split (seen ++ p ∷ []) p x ≡ replaced x (slice_get split (length seen))
  here x =
      let t : eqb p p ≡ true = eq-eqb p p refl in
      let n : 0 + length seen ≡ length seen = omega arith in
      rw (position_push p 0 seen p, first, t, n) refl

  other : (i : ℕ) (x : Record) → p ≢ i → candidate split (seen ++ p ∷ []) i x ≡ candidate split seen i x
  other i x h =
      let t : eqb p i ≡ false = ne_eqb p i h in
      rw (position_push i 0 seen p, t, or_else_none (position_from (λ q. eqb q i) 0 seen)) refl

  not_yet : (x : Record) → candidate split seen p x ≡ x
  not_yet x = rw first refl

  later : (i : ℕ) (rs : List Record) → p < i
      → candidates_from split (seen ++ p ∷ []) i rs ≡ candidates_from split seen i rs
  later i [] h = refl
  later i (r ∷ rs) h = rw (other i r (λ e. omega (arith, e, h)), later (i + 1) rs (omega arith)) refl

  -- one more position changes the candidate there
  pub candidates_step : (i k : ℕ) (rs : List Record) → i + k ≡ p → candidates_from split (seen ++ p ∷ []) i rs
      ≡ changed_at (λ r. replaced r (slice_get split (length seen))) k (candidates_from split seen i rs)
  candidates_step i k [] e = refl
  candidates_step i zero (r ∷ rs) e =
      let same : i ≡ p = omega arith in
      let head : candidate split (seen ++ p ∷ []) i r
      ≡ replaced (candidate split seen i r) (slice_get split (length seen)) = rw (same, not_yet r) (here r) in
      rw (head, later (i + 1) rs (omega arith)) refl
  candidates_step i (suc k) (r ∷ rs) e =
      rw (other i r (λ q. omega (arith, q, e)), candidates_step (i + 1) k rs (omega arith)) refl

  -- the record there is still the shared one
  pub still_there : (i k : ℕ) (rs : List Record) → i + k ≡ p
      → slice_get (candidates_from split seen i rs) k ≡ slice_get rs k
  still_there i k [] e = refl
  still_there i zero (r ∷ rs) e = let same : i ≡ p = omega arith in rw same (ap Some (not_yet r))
  still_there i (suc k) (r ∷ rs) e = still_there (i + 1) k rs (omega arith)

pub no_candidates : (split : List Record) (i : ℕ) (rs : List Record) → candidates_from split [] i rs ≡ rs
no_candidates split i [] = refl
no_candidates split i (r ∷ rs) = ap (λ (l : List Record). r ∷ l) (no_candidates split (i + 1) rs)
