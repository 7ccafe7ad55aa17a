-- The paths of records in their order, each with its place: those of a table, and those of records in order.
use Rattle.std.proofs.Common.{◌≡◌, ◌≢◌, ℕ, zero, suc, ◌+◌, ◌<◌, Bool, false, List, [], ◌∷◌, length, get_or, refl, subst}
use Rattle.std.proofs.Common.{arith}
use Rattle.std.specs.List.{AllPairs, Contains}
use Rattle.std.specs.List.Sorted.{IsPermutation}
use Rattle.std.specs.Ordering.{ordering_then}
use Rattle.std.specs.declared.cmp.Ordering.{Ordering}
use Rattle.std.specs.declared.cmp.Ordering.TheVariants.{Less, Equal, Greater}
use Rattle.std.proofs.lemmas.List.Sorted.{Contains-permutation, IsPermutation-sym}
use Rattle.entry_list.specs.Order.{IsOrderedByPath}
use Rattle.entry_list.specs.Record.{Record}
use Rattle.entry_lookup.specs.NameSteps.{NamedValue, named_at, named_cmp, named_from, path_names}
use Rattle.entry_lookup.specs.WalkSteps.{AreVisits}
use Rattle.base_search.proofs.Places.{some_of}
use Rattle.entry_lookup.proofs.TableMade.{contains_one, keys_are, named_complete, path_keys_length}

then_not : (o p : Ordering) → ordering_then o p ≢ Greater → o ≢ Greater
then_not Less p h e = cc
then_not Equal p h e = cc
then_not Greater p h e = h refl

each_of : (rs : List Record) (v : NamedValue) → Contains (named_from path_names 0 rs) v
    → (v.place < length rs) × ((q : Record) → (get_or rs v.place q).path ≡ v.name)
each_of rs v c =
    let h = (keys_are path_names rs).sound v c in
    (h.0, λ q. contains_one (get_or rs v.place q).path v.name (h.1 q))

there : (rs : List Record) (i : ℕ) (l : i < length rs)
    → Contains (named_from path_names 0 rs) (named_at i (get_or rs i (some_of rs i l)).path)
there rs i l =
    let z : Record = some_of rs i l in
    let e : 0 + i ≡ i = omega arith in
    subst (λ (k : ℕ). Contains (named_from path_names 0 rs) (named_at k (get_or rs i (some_of rs i l)).path)) e
    (named_complete path_names 0 rs i (some_of rs i l) (get_or rs i (some_of rs i l)).path l (0, omega arith, refl))

pub visits_sorted : (ignore_case : Bool) (rs : List Record) (ks : List NamedValue)
    → IsPermutation (named_from path_names 0 rs) ks → length ks ≡ length rs
    → AllPairs (λ a b. named_cmp false ignore_case a b ≢ Greater) ks → AreVisits ignore_case rs ks
visits_sorted ignore_case rs ks moved len ordered = record {
  len = len;
  each = λ v c. each_of rs v (Contains-permutation ks (named_from path_names 0 rs) v
      (IsPermutation-sym (named_from path_names 0 rs) ks moved) c);
  whole = λ i l.
      let v : NamedValue = named_at i (get_or rs i (some_of rs i l)).path in (
        named_at i (get_or rs i (some_of rs i l)).path,
        Contains-permutation (named_from path_names 0 rs) ks
            (named_at i (get_or rs i (some_of rs i l)).path) moved (there rs i l),
        refl,
      );
  ordered = λ i j d before within. then_not _ _ (ordered i j d before within);
}

-- ---- records in order

pub visit_of : (b : ℕ) (rs : List Record) (i : ℕ) (q : Record) (d : NamedValue) → i < length rs
    → get_or (named_from path_names b rs) i d ≡ named_at (b + i) (get_or rs i q).path
visit_of b [] i q d l = absurd (omega arith)
visit_of b (r ∷ rs) zero q d l = let e : b + 0 ≡ b = omega arith in rw e refl
visit_of b (r ∷ rs) (suc i) q d l =
    let e : b + suc i ≡ b + 1 + i = omega arith in
    rw e (visit_of (b + 1) rs i q d (omega arith))

pub visits_ordered : (rs : List Record) → IsOrderedByPath rs → AreVisits false rs (named_from path_names 0 rs)
visits_ordered rs o = record {
  len = path_keys_length 0 rs;
  each = each_of rs;
  whole = λ i l. (named_at i (get_or rs i (some_of rs i l)).path, there rs i l, refl);
  ordered = λ i j d before within.
      let n : length (named_from path_names 0 rs) ≡ length rs = path_keys_length 0 rs in
      let in_j : j < length rs = omega arith in
      let in_i : i < length rs = omega arith in
      let z : Record = some_of rs j in_j in
      let a : get_or (named_from path_names 0 rs) i d ≡ named_at (0 + i) (get_or rs i z).path =
      visit_of 0 rs i z d in_i in
      let b : get_or (named_from path_names 0 rs) j d ≡ named_at (0 + j) (get_or rs j z).path =
      visit_of 0 rs j z d in_j in
      rw (a, b) (o.never_falls i j z before in_j);
}
