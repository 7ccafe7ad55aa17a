-- Changes in another order, those of one path in theirs, make the same of an index.
use Rattle.std.proofs.Common.{◌≡◌, ◌≢◌, suc, ◌⊎◌, inl, inr, get_or, None, arith, Bool, true, false, ◌&&◌, not, List, [], ◌∷◌, ◌++◌, All, filter, Option, refl, sym, ap, ◌∙◌, subst}
use Rattle.std.proofs.lemmas.List.Elements.{All-cons, All-nil, Contains-append_left, Contains-append_right, filter-append}
use Rattle.std.proofs.lemmas.List.Elements.{Contains-append_cases, Contains-get_or}
use Rattle.std.proofs.lemmas.List.Folds.{list_any_none}
use Rattle.std.proofs.lemmas.List.Sorted.{All-permutation}
use Rattle.std.specs.List.{Contains}
use Rattle.std.specs.List.Sorted.{ties}
use Rattle.std.specs.Ordering.{is_lt, ordering_reverse}
use Rattle.std.specs.declared.cmp.Ordering.{Ordering}
use Rattle.std.specs.declared.cmp.Ordering.TheVariants.{Less, Equal, Greater}
use Rattle.entry_list.specs.Order.{IsStrictlyOrdered, path_cmp}
use Rattle.entry_list.specs.Record.{Record}
use Rattle.entry_list.proofs.Orders.{paths_total, same_path}
use Rattle.entry_lookup.proofs.Pairs.{contains_head, contains_tail}
use Rattle.entry_lookup.proofs.TableSearch.{all_none}
use Rattle.entry_edit.proofs.Swaps.{AreApart, applied_swap, one_ordered}
use Rattle.entry_edit.specs.Changes.{IsAppliedTo, applied, applied_one, change_path, takes_out}
use Rattle.entry_edit.specs.Reorders.{AreUnnested, IsReorderedTo, is_change_before}
use Rattle.entry_edit.specs.declared.change.Change.{Change}
use Rattle.ext_small.specs.ResolveUndo.{PathStages}
use Rattle.index_edit.specs.Undone.{all_recorded, lost, undone}
use Rattle.index_edit.proofs.UndoSwaps.{undone_swap}

-- ---- changes of one path

abbrev same : Change → Change → Bool
same c d = ties is_change_before c d

tie : (o p : Ordering) → p ≡ ordering_reverse o → (not (is_lt o) && not (is_lt p)) ≡ true → o ≡ Equal
tie Less p e h = cc
tie Equal p e h = refl
tie Greater p e h = let no : false ≡ true = rw e at h in cc

tied : (o p : Ordering) → p ≡ ordering_reverse o → o ≡ Equal → (not (is_lt o) && not (is_lt p)) ≡ true
tied o p e f = rw (e, f) refl

same_from : (c d : Change) → same c d ≡ true → change_path c ≡ change_path d
same_from c d h =
    (same_path (change_path c) (change_path d)).0
    (tie (path_cmp (change_path c) (change_path d)) (path_cmp (change_path d) (change_path c)) (paths_total.antisymm (change_path d) (change_path c)) h)

same_to : (c d : Change) → change_path c ≡ change_path d → same c d ≡ true
same_to c d e =
    tied (path_cmp (change_path c) (change_path d)) (path_cmp (change_path d) (change_path c)) (paths_total.antisymm (change_path d) (change_path c))
    ((same_path (change_path c) (change_path d)).1 e)

other_from : (c d : Change) → same c d ≡ false → change_path c ≢ change_path d
other_from c d h e = let both = sym (same_to c d e) ∙ h in cc

-- ---- the first change of a list, among others

record IsAmong (c : Change) (ds : List Change) (rest : List Change) : Type 0 where
  front : List Change
  behind : List Change
  is : ds ≡ front ++ c ∷ behind
  others : All (λ d. same c d ≡ false) front
  later : filter (same c) behind ≡ rest

head_is : {X : Type 0} (x y : X) (xs ys : List X) → x ∷ xs ≡ y ∷ ys → x ≡ y
head_is {X} x y xs ys e = ap first e
  where
    first : List X → X
    first [] = x
    first (z ∷ zs) = z

tail_is : {X : Type 0} (x y : X) (xs ys : List X) → x ∷ xs ≡ y ∷ ys → xs ≡ ys
tail_is {X} x y xs ys e = ap behind e
  where
    behind : List X → List X
    behind [] = xs
    behind (z ∷ zs) = zs

among : (c : Change) (ds rest : List Change) → filter (same c) ds ≡ c ∷ rest → IsAmong c ds rest
among c [] rest e = cc
among c (d ∷ ds) rest e = by (same c d) refl (among c ds rest)
  where
    by : (b : Bool) → same c d ≡ b → (filter (same c) ds ≡ c ∷ rest → IsAmong c ds rest) → IsAmong c (d ∷ ds) rest
    by true h next =
        let both : d ∷ filter (same c) ds ≡ c ∷ rest = rw h at e in
        record {
          front = [];
          behind = ds;
          is = ap (λ x. x ∷ ds) (head_is d c _ rest both);
          others = All-nil (λ x. same c x ≡ false);
          later = tail_is d c _ rest both;
        }
    by false h next =
        let rest_is : filter (same c) ds ≡ c ∷ rest = rw h at e in
        let there = next rest_is in
        record {
          front = d ∷ there.front;
          behind = there.behind;
          is = ap (λ l. d ∷ l) there.is;
          others = All-cons (λ x. same c x ≡ false) d there.front h there.others;
          later = there.later;
        }

-- ---- two changes in either order

abbrev Both : Type 0
Both = List Record × Option (List PathStages)

abbrev step : Change → Both → Both
step c s = (applied_one c s.0, all_recorded (lost c s.0) s.1)

abbrev steps : List Change → Both → Both
steps [] s = s
steps (c ∷ cs) s = steps cs (step c s)

abbrev fold : List Change → Both → Both
fold cs s = (applied cs s.0, undone cs s.0 s.1)

steps_are : (cs : List Change) (s : Both) → steps cs s ≡ fold cs s
unfolding applied undone
steps_are [] s = refl
steps_are (c ∷ cs) s = steps_are cs (step c s)

abbrev Good : Both → Type 0
Good s = IsStrictlyOrdered s.0

good : (c : Change) (s : Both) → Good s → Good (step c s)
good c s o = one_ordered c s.0 o

same_both : (s z : Both) → s.0 ≡ z.0 → s.1 ≡ z.1 → s ≡ z
same_both s z e f = λ i. (e i, f i)

swap : (c d : Change) (s : Both) → AreApart c d → Good s → step d (step c s) ≡ step c (step d s)
swap c d s a o = same_both (step d (step c s)) (step c (step d s)) (applied_swap c d s.0 a o) (undone_swap c d s.0 s.1 a o)

-- a change may come first, if those before it are of other paths
first : (c : Change) (front behind : List Change) (s : Both) → All (λ d. AreApart d c) front → Good s
    → steps (front ++ c ∷ behind) s ≡ steps (c ∷ front ++ behind) s
first c [] behind s h o = refl
first c (d ∷ front) behind s h o =
    first c front behind (step d s) (λ k x l. h (suc k) x (omega arith)) (good d s o)
    ∙ ap (steps (front ++ behind)) (swap d c s (h 0 d (omega arith)) o)

-- ---- all of them

unnested_part : (c : Change) (front behind : List Change) → AreUnnested (front ++ c ∷ behind)
    → AreUnnested (front ++ behind)
unnested_part c front behind u = record { apart = λ x y p q. u.apart x y (there x p) (there y q) }
  where
    there : (x : Change) → Contains (front ++ behind) x → Contains (front ++ c ∷ behind) x
    there x p = by (Contains-append_cases front behind x p)
      where
        by : Contains front x ⊎ Contains behind x → Contains (front ++ c ∷ behind) x
        by (inl q) = Contains-append_left front (c ∷ behind) x q
        by (inr q) = Contains-append_right front (c ∷ behind) x (contains_tail c behind x q)

apart_front : (c : Change) (front behind : List Change) → AreUnnested (front ++ c ∷ behind)
    → All (λ d. same c d ≡ false) front → All (λ d. AreApart d c) front
apart_front c front behind u h k x l =
    let d = get_or front k x in
    let here = Contains-append_left front (c ∷ behind) d (Contains-get_or front k x l) in
    let last = Contains-append_right front (c ∷ behind) c (contains_head c behind) in
    record {
      other = λ e. other_from c d (h k x l) (sym e);
      first = u.apart d c here last;
      second = u.apart c d last here;
    }

-- what is left of both is stable, too
none_of : (c x : Change) (front : List Change) → same x c ≡ true → All (λ d. same c d ≡ false) front
    → filter (same x) front ≡ []
none_of c x [] e h = refl
none_of c x (d ∷ front) e h =
    let apart : same x d ≡ false = not_true _ (λ t.
    let both = sym (same_to c d (sym (same_from x c e) ∙ same_from x d t)) ∙ h 0 d (omega arith) in cc) in
    rw apart (none_of c x front e (λ k z l. h (suc k) z (omega arith)))
  where
    not_true : (b : Bool) → (b ≡ true → ⊥) → b ≡ false
    not_true true n = absurd (n refl)
    not_true false n = refl

left : (c x : Change) (front behind cs : List Change) → All (λ d. same c d ≡ false) front
    → filter (same x) (front ++ c ∷ behind) ≡ filter (same x) (c ∷ cs)
    → filter (same x) (front ++ behind) ≡ filter (same x) cs
left c x front behind cs h e = by (same x c) refl
  where
    taken : same x c ≡ true → (l : List Change) → filter (same x) (c ∷ l) ≡ c ∷ filter (same x) l
    taken t l = rw t refl

    passed : same x c ≡ false → (l : List Change) → filter (same x) (c ∷ l) ≡ filter (same x) l
    passed t l = rw t refl

    parts : filter (same x) (front ++ c ∷ behind) ≡ filter (same x) front ++ filter (same x) (c ∷ behind)
    parts = filter-append (same x) front (c ∷ behind)

    by : (b : Bool) → same x c ≡ b → filter (same x) (front ++ behind) ≡ filter (same x) cs
    by true t =
        let none = none_of c x front t h in
        let both : c ∷ filter (same x) behind ≡ c ∷ filter (same x) cs =
        sym (parts ∙ ap (λ l. l ++ filter (same x) (c ∷ behind)) none ∙ taken t behind) ∙ e ∙ taken t cs in
        filter-append (same x) front behind ∙ ap (λ l. l ++ filter (same x) behind) none ∙ tail_is c c _ _ both
    by false t =
        filter-append (same x) front behind ∙ ap (λ l. filter (same x) front ++ l) (sym (passed t behind)) ∙ sym parts
        ∙ e ∙ passed t cs

none_left : (ds : List Change) → ((x : Change) → filter (same x) ds ≡ []) → ds ≡ []
none_left [] h = refl
none_left (d ∷ ds) h =
    let none : d ∷ filter (same d) ds ≡ [] = rw (same_to d d refl) at (h d) in
    cc

reordered_steps : (cs ds : List Change) (s : Both) → ((x : Change) → filter (same x) ds ≡ filter (same x) cs)
    → AreUnnested ds → Good s → steps ds s ≡ steps cs s
reordered_steps [] ds s h u o = ap (λ l. steps l s) (none_left ds h)
reordered_steps (c ∷ cs) ds s h u o =
    let there = among c ds (filter (same c) cs) (h c ∙ taken) in
    let unnested = subst AreUnnested there.is u in
    ap (λ l. steps l s) there.is
    ∙ first c there.front there.behind s (apart_front c there.front there.behind unnested there.others) o
    ∙ reordered_steps cs (there.front ++ there.behind) (step c s)
    (λ x. left c x there.front there.behind cs there.others (ap (filter (same x)) (sym there.is) ∙ h x))
    (unnested_part c there.front there.behind unnested) (good c s o)
  where
    taken : filter (same c) (c ∷ cs) ≡ c ∷ filter (same c) cs
    taken = rw (same_to c c refl) refl

module _ (cs ds : List Change) (rs : List Record) (r : IsReorderedTo cs ds) (o : IsStrictlyOrdered rs) where
  abbrev after : List Change → Option (List PathStages) → Both
  after ds undo = (applied ds rs, undone ds rs undo)

  made : (undo : Option (List PathStages)) → after ds undo ≡ after cs undo
  made undo =
      sym (steps_are ds (rs, undo)) ∙ reordered_steps cs ds (rs, undo) r.stable r.unnested o ∙ steps_are cs (rs, undo)

  pub reordered_applied : applied ds rs ≡ applied cs rs
  reordered_applied = ap (λ (s : Both). s.0) (made None)

  pub reordered_undone : (undo : Option (List PathStages)) → undone ds rs undo ≡ undone cs rs undo
  reordered_undone undo = ap (λ (s : Both). s.1) (made undo)

  pub reordered_into : (now : List Record) → IsAppliedTo ds rs now → IsAppliedTo cs rs now
  reordered_into now a = record {
    is = a.is ∙ reordered_applied;
    ordered = a.ordered;
    apart = a.apart;
    others = λ q c none. a.others q c (list_any_none (λ d. takes_out d q) ds
        (All-permutation (λ d. takes_out d q ≡ false) cs ds r.same (all_none (λ d. takes_out d q) cs none)));
  }
