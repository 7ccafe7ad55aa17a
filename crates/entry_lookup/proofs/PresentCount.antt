-- One asked path more.
use Rattle.std.proofs.Common.{◌≡◌, ℕ, ◌+◌, ◌<◌, Bool, true, false, Bor, List, [], ◌∷◌, ◌++◌, length, get_or, take, cond}
use Rattle.std.proofs.Common.{Result, Ok, Err, IfOk, IfErr, ap, ◌∙◌, arith, zero-add}
use Rattle.std.specs.Cmp.Lexicographic.{bytes_decides}
use Rattle.std.specs.List.{list_any, sum_by}
use Rattle.std.specs.Result.{is_ok}
use Rattle.std.specs.Str.{bytes_eq}
use Rattle.std.proofs.lemmas.Bool.{false_from_ne_true}
use Rattle.std.proofs.lemmas.List.{take_more}
use Rattle.std.proofs.lemmas.List.Folds.{list_any_at}
use Rattle.std.proofs.lemmas.List.Sums.{sum_by-append}
use Rattle.entry_lookup.specs.Lookup.{IsPathAt, IsPathGap}
use Rattle.entry_list.specs.Order.{IsOrderedByPath}
use Rattle.entry_list.specs.Record.{Record}
use Rattle.entry_lookup.specs.Tables.{present_count}
use Rattle.entry_lookup.specs.Range.{is_at}
use Rattle.entry_lookup.proofs.Closest.{any_none}

pub there : (path : List ℕ) (rs : List Record) (i : ℕ) → IsPathAt path rs i → list_any (is_at path) rs ≡ true
there path [] i h = absurd (omega (arith, h.in_range))
there path (r ∷ rs) i h =
    list_any_at (is_at path) (r ∷ rs) i r h.in_range ((bytes_decides (get_or (r ∷ rs) i r).path path).1 (h.here r))

pub none_there : (path : List ℕ) (rs : List Record) (i : ℕ) → IsPathGap path rs i → list_any (is_at path) rs ≡ false
none_there path rs i gap = any_none (is_at path) rs (λ k d within. false_from_ne_true
    (bytes_eq (get_or rs k d).path path) (λ t. gap.none k d within ((bytes_decides (get_or rs k d).path path).0 t)))

pub told_present : (path : List ℕ) (rs : List Record) (r : Result ℕ ℕ) → IfOk r (IsPathAt path rs)
    → (IsOrderedByPath rs → IfErr r (IsPathGap path rs)) → IsOrderedByPath rs → list_any (is_at path) rs ≡ is_ok r
told_present path rs (Ok i) found absent o = there path rs i found
told_present path rs (Err i) found absent o = none_there path rs i (absent o)

pub present_more : (paths : List (Bor (List ℕ))) (rs : List Record) (k : ℕ) (z : Bor (List ℕ)) (b : Bool) (count : ℕ)
    → k < length paths → list_any (is_at (get_or paths k z).now) rs ≡ b → count ≡ present_count (take k paths) rs
    → count + cond b 1 0 ≡ present_count (take (k + 1) paths) rs
present_more paths rs k z b count within told before =
    let f : Bor (List ℕ) → ℕ = λ p. cond (list_any (is_at p.now) rs) 1 0 in
    let more : present_count (take (k + 1) paths) rs ≡ present_count (take k paths ++ get_or paths k z ∷ []) rs =
    ap (λ (ps : List (Bor (List ℕ))). present_count ps rs) (take_more paths k z within) in
    let split : present_count (take k paths ++ get_or paths k z ∷ []) rs
    ≡ present_count (take k paths) rs + sum_by f (get_or paths k z ∷ []) =
    sum_by-append f (take k paths) (get_or paths k z ∷ []) in
    let e : cond {A = ℕ} (list_any (is_at (get_or paths k z).now) rs) 1 0 ≡ cond {A = ℕ} b 1 0 =
    ap (λ (t : Bool). cond {A = ℕ} t 1 0) told in
    let one : sum_by f (get_or paths k z ∷ []) ≡ cond {A = ℕ} b 1 0 = zero-add (f (get_or paths k z)) ∙ e in
    omega (arith, more, split, one, before)
