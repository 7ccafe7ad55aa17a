-- The list after a record is staged, and its properties.
use Rattle.std.proofs.Common.{◌≡◌, ◌≢◌, ℕ, zero, suc, ◌+◌, ◌-◌, ◌<◌, ◌⊎◌, inl, inr, Bool, true, false, cond, not}
use Rattle.std.proofs.Common.{List, [], ◌∷◌, ◌++◌, length, get_or, take, drop, filter, All, refl, sym, ap, ◌∙◌, subst}
use Rattle.std.proofs.Common.{arith}
use Rattle.std.proofs.Math.Seq.{drop-append_seam, take-append_seam}
use Rattle.std.proofs.lemmas.List.{get_or-append_right, get_or_append_left, length-append, take-append-drop}
use Rattle.std.proofs.lemmas.List.Elements.{All-append, All-contains, All-contains_itself, All-cons, All-filter}
use Rattle.std.proofs.lemmas.List.Elements.{All-head, All-tail}
use Rattle.std.proofs.lemmas.List.Elements.{All-drop, All-same, All-take, All-weaker, Contains-append_cases}
use Rattle.std.proofs.lemmas.List.Elements.{Contains-append_left}
use Rattle.std.proofs.lemmas.List.Elements.{Contains-append_right, filter-append, filter_passes}
use Rattle.std.proofs.lemmas.List.Filters.{length-filter_both}
use Rattle.std.proofs.lemmas.List.Kept.{AllPairs-filter}
use Rattle.std.specs.List.{AllPairs, Contains, insert, list_any}
use Rattle.std.specs.Ordering.{is_lt, ordering_reverse}
use Rattle.std.specs.declared.cmp.Ordering.{Ordering}
use Rattle.std.specs.declared.cmp.Ordering.TheVariants.{Less, Equal, Greater}
use Rattle.entry_list.specs.Order.{IsStrictlyOrdered, record_cmp, record_stage}
use Rattle.entry_list.specs.Record.{Record}
use Rattle.entry_list.proofs.Orders.{records_total}
use Rattle.entry_lookup.specs.Lookup.{HasKey, IsKeyAt, insertion_of}
use Rattle.entry_lookup.specs.Range.{is_at}
use Rattle.entry_lookup.proofs.Pairs.{contains_tail, pairs_cons, pairs_drop, pairs_join, pairs_take}
use Rattle.entry_lookup.proofs.TableMade.{same_to}
use Rattle.entry_lookup.proofs.TableSearch.{all_none}
use Rattle.std.proofs.Math.ListN.{set}
use Rattle.std.proofs.lemmas.List.Folds.{list_any_none}
use Rattle.entry_edit.proofs.Puts.{put_over}
use Rattle.base_search.proofs.Halving.{count_by_is}
use Rattle.entry_edit.specs.Edits.{IsStagedInto, LieApart, have_df_conflict, displaced, is_displaced, put_in, staged}
use Rattle.entry_edit.specs.Edits.{unstaged}
use Rattle.entry_edit.specs.EditSteps.{IsPutInto, is_other}
use Rattle.entry_edit.proofs.Displacings.{alone, displaced_key, displaced_other, odds_both, own_odds, own_other}
use Rattle.entry_edit.proofs.Displacings.{stays_apart}

-- ---- filters

filter_on : {X : Type 0} (p q : X → Bool) (xs : List X) → All (λ x. p x ≡ q x) xs → filter p xs ≡ filter q xs
filter_on p q [] h = refl
filter_on p q (x ∷ xs) h =
    ap (λ b. cond b (x ∷ filter p xs) (filter p xs)) (All-head (λ x. p x ≡ q x) x xs h)
    ∙ ap (λ ys. cond (q x) (x ∷ ys) ys) (filter_on p q xs (All-tail (λ x. p x ≡ q x) x xs h))

pub filter_all : {X : Type 0} (p : X → Bool) (xs : List X) → All (λ x. p x ≡ true) xs → filter p xs ≡ xs
filter_all p [] h = refl
filter_all p (x ∷ xs) h =
    ap (λ b. cond b (x ∷ filter p xs) (filter p xs)) (All-head (λ x. p x ≡ true) x xs h)
    ∙ ap (λ ys. x ∷ ys) (filter_all p xs (All-tail (λ x. p x ≡ true) x xs h))

filter_none : {X : Type 0} (p : X → Bool) (xs : List X) → All (λ x. p x ≡ false) xs → filter p xs ≡ []
filter_none p [] h = refl
filter_none p (x ∷ xs) h =
    ap (λ b. cond b (x ∷ filter p xs) (filter p xs)) (All-head (λ x. p x ≡ false) x xs h)
    ∙ filter_none p xs (All-tail (λ x. p x ≡ false) x xs h)

pub All-front : {X : Type 0} (P : X → Type 0) (xs ys : List X) → All P (xs ++ ys) → All P xs
All-front P xs ys h k d within =
    subst P (get_or_append_left xs ys d k within) (h k d (omega (arith, length-append xs ys)))

All-back : {X : Type 0} (P : X → Type 0) (xs ys : List X) → All P (xs ++ ys) → All P ys
All-back P xs ys h k d within =
    let e : length xs + k - length xs ≡ k = omega arith in
    subst P (get_or-append_right xs ys (length xs) (length xs + k) d refl (omega arith) ∙ ap (λ i. get_or ys i d) e)
    (h (length xs + k) d (omega (arith, length-append xs ys)))

-- ---- the place between those below and those above

less_lt : (o : Ordering) → o ≡ Less → is_lt o ≡ true
less_lt o e = ap is_lt e

greater_lt : (o : Ordering) → o ≡ Greater → is_lt o ≡ false
greater_lt o e = ap is_lt e

module _ (new : Record) (front behind : List Record) (below : All (λ r. record_cmp r new ≡ Less) front)
    (above : All (λ r. record_cmp r new ≡ Greater) behind) where
  place_is : insertion_of new.path (record_stage new) (front ++ behind) ≡ length front
  place_is =
      let n : length (front ++ behind) ≡ length front + length behind = length-append front behind in
      count_by_is (λ (r : Record). is_lt (record_cmp r new)) (front ++ behind) (length front) (omega arith)
      (λ k d low high. ap (λ (r : Record). is_lt (record_cmp r new)) (get_or_append_left front behind d k high)
      ∙ less_lt _ (below k d high))
      (λ k d low high. ap (λ (r : Record). is_lt (record_cmp r new))
      (get_or-append_right front behind (length front) k d refl low)
      ∙ greater_lt _ (above (k - length front) d (omega arith)))

  pub put_in_is : put_in new (front ++ behind) ≡ front ++ new ∷ behind
  put_in_is =
      ap (λ i. insert (front ++ behind) i new) place_is
      ∙ ap (λ l. l ++ new ∷ drop (length front) (front ++ behind)) (take-append_seam front behind)
      ∙ ap (λ l. front ++ new ∷ l) (drop-append_seam front behind)

  less_above : (r q : Record) → record_cmp r new ≡ Less → record_cmp q new ≡ Greater → record_cmp r q ≡ Less
  less_above r q a b = records_total.trans r new q a (records_total.antisymm new q ∙ ap ordering_reverse b)

  pub put_ordered : AllPairs (λ r q. record_cmp r q ≡ Less) front → AllPairs (λ r q. record_cmp r q ≡ Less) behind
      → AllPairs (λ r q. record_cmp r q ≡ Less) (front ++ new ∷ behind)
  put_ordered f b =
      let R : Record → Record → Type 0 = λ r q. record_cmp r q ≡ Less in
      let over : (q : Record) → Contains behind q → R new q = λ q c.
      records_total.antisymm new q ∙ ap ordering_reverse (All-contains (λ r. record_cmp r new ≡ Greater) behind q above c) in
      let at : (x : Record) → Contains front x → All (R x) (new ∷ behind) = λ x c.
      let less = All-contains (λ r. record_cmp r new ≡ Less) front x below c in
      All-cons (R x) new behind less (All-weaker (λ r. record_cmp r new ≡ Greater) (R x) (λ q g. less_above x q less g) behind above) in
      pairs_join R front (new ∷ behind) f (pairs_cons R new behind b over)
      (λ x y c e. All-contains (R x) (new ∷ behind) y (at x c) e)

-- ---- staged

not_less : (o : Ordering) → o ≡ Less → o ≢ Equal
not_less o e f = cc

not_greater : (o : Ordering) → o ≡ Greater → o ≢ Equal
not_greater o e f = cc

module _ (new : Record) (old now : List Record) (p : IsPutInto new old now) where
  keep : Record → Bool
  keep = λ r. not (is_displaced new r)

  stay : Record → Bool
  stay = λ r. not (is_other new r)

  front_same : filter keep p.front ≡ filter stay p.front
  unfolding keep stay
  front_same = filter_on keep stay p.front (All-weaker (λ r. record_cmp r new ≡ Less) (λ r. keep r ≡ stay r)
      (λ r e. ap not (displaced_other new r (not_less _ e))) p.front p.below)

  behind_same : filter keep p.behind ≡ filter stay p.behind
  unfolding keep stay
  behind_same = filter_on keep stay p.behind (All-weaker (λ r. record_cmp r new ≡ Greater) (λ r. keep r ≡ stay r)
      (λ r e. ap not (displaced_other new r (not_greater _ e))) p.behind p.above)

  gone_none : filter keep p.gone ≡ []
  unfolding keep
  gone_none = filter_none keep p.gone (All-weaker (HasKey new.path (record_stage new)) (λ r. keep r ≡ false)
      (λ r e. ap not (displaced_key new r e)) p.gone p.same)

  kept : filter keep old ≡ filter stay p.front ++ filter stay p.behind
  kept =
      ap (filter keep) p.was ∙ filter-append keep p.front (p.gone ++ p.behind)
      ∙ ap (λ l. filter keep p.front ++ l) (filter-append keep p.gone p.behind ∙ ap (λ l. l ++ filter keep p.behind) gone_none)
      ∙ ap (λ l. l ++ filter keep p.behind) front_same ∙ ap (λ l. filter stay p.front ++ l) behind_same

  left : filter stay now ≡ filter stay p.front ++ new ∷ filter stay p.behind
  unfolding stay
  left =
      ap (filter stay) p.is ∙ filter-append stay p.front (new ∷ p.behind)
      ∙ ap (λ b. filter stay p.front ++ cond (not b) (new ∷ filter stay p.behind) (filter stay p.behind)) (own_other new)

  below : All (λ r. record_cmp r new ≡ Less) (filter stay p.front)
  below = All-filter stay (λ r. record_cmp r new ≡ Less) p.front p.below

  above : All (λ r. record_cmp r new ≡ Greater) (filter stay p.behind)
  above = All-filter stay (λ r. record_cmp r new ≡ Greater) p.behind p.above

  staged_is : staged new old ≡ filter stay p.front ++ new ∷ filter stay p.behind
  unfolding staged keep
  staged_is =
      ap (put_in new) kept ∙ put_in_is new (filter stay p.front) (filter stay p.behind) below above

  -- those that are in the way went
  pub left_staged : (xs : List Record) → xs ≡ filter (λ r. not (is_other new r)) now → xs ≡ staged new old
  unfolding stay
  left_staged xs e = e ∙ left ∙ sym staged_is

  -- none was in the way
  pub none_staged : list_any (is_other new) old ≡ false → now ≡ staged new old
  unfolding stay
  none_staged none =
      let all = all_none (is_other new) old none in
      let both : All (λ r. is_other new r ≡ false) (p.front ++ (p.gone ++ p.behind)) =
      All-same (λ r. is_other new r ≡ false) _ old (sym p.was) all in
      let f = All-front (λ r. is_other new r ≡ false) p.front (p.gone ++ p.behind) both in
      let b = All-back (λ r. is_other new r ≡ false) p.gone p.behind
      (All-back (λ r. is_other new r ≡ false) p.front (p.gone ++ p.behind) both) in
      let stays : All (λ r. not (is_other new r) ≡ true) now =
      All-same (λ r. not (is_other new r) ≡ true) now _ p.is
      (All-append (λ r. not (is_other new r) ≡ true) p.front (new ∷ p.behind)
      (All-weaker (λ r. is_other new r ≡ false) (λ r. not (is_other new r) ≡ true) (λ r e. ap not e) p.front f)
      (All-cons (λ r. not (is_other new r) ≡ true) new p.behind (ap not (own_other new))
      (All-weaker (λ r. is_other new r ≡ false) (λ r. not (is_other new r) ≡ true) (λ r e. ap not e) p.behind b))) in
      left_staged now (sym (filter_all (λ r. not (is_other new r)) now stays))

  abbrev AreBelow : Record → Record → Type 0
  AreBelow r q = record_cmp r q ≡ Less

  parts_ordered : IsStrictlyOrdered old → AllPairs AreBelow p.front × AllPairs AreBelow p.behind
  parts_ordered o =
      let whole : AllPairs AreBelow (p.front ++ (p.gone ++ p.behind)) = subst (AllPairs AreBelow) p.was o.less in
      let front : AllPairs AreBelow p.front = subst (AllPairs AreBelow) (take-append_seam p.front (p.gone ++ p.behind))
      (pairs_take AreBelow (length p.front) (p.front ++ (p.gone ++ p.behind)) whole) in
      let rest : AllPairs AreBelow (p.gone ++ p.behind) =
      subst (AllPairs AreBelow) (drop-append_seam p.front (p.gone ++ p.behind))
      (pairs_drop AreBelow (length p.front) (p.front ++ (p.gone ++ p.behind)) whole) in
      let behind : AllPairs AreBelow p.behind = subst (AllPairs AreBelow) (drop-append_seam p.gone p.behind)
      (pairs_drop AreBelow (length p.gone) (p.gone ++ p.behind) rest) in
      (front, behind)

  pub now_ordered : IsStrictlyOrdered old → IsStrictlyOrdered now
  now_ordered o = record {
    less = subst (AllPairs AreBelow) (sym p.is)
        (put_ordered new p.front p.behind p.below p.above (parts_ordered o).0 (parts_ordered o).1);
  }

  pub staged_ordered : IsStrictlyOrdered old → IsStrictlyOrdered (staged new old)
  staged_ordered o = record {
    less = subst (AllPairs AreBelow) (sym staged_is)
        (put_ordered new (filter stay p.front) (filter stay p.behind) below above
        (AllPairs-filter AreBelow stay p.front (parts_ordered o).0)
        (AllPairs-filter AreBelow stay p.behind (parts_ordered o).1));
  }

  length_kept : length (staged new old) ≡ length (filter keep old) + 1
  length_kept =
      let f = filter stay p.front in
      let b = filter stay p.behind in
      omega (arith, ap length staged_is, ap length kept, length-append f b, length-append f (new ∷ b))

  pub staged_count : length (displaced new old) + length (staged new old) ≡ length old + 1
  unfolding keep
  staged_count = omega (arith, length_kept, length-filter_both (is_displaced new) keep (λ r. refl) old)

-- ---- what stays

-- it is the new one, or was there and isn't displaced
abbrev pub IsFrom : Record → List Record → Record → Type 0
IsFrom new old r = (r ≡ new) ⊎ (Contains old r × (is_displaced new r ≡ false))

not_true : (b : Bool) → not b ≡ true → b ≡ false
not_true true e = cc
not_true false e = refl

both_hold : (P Q : Record → Type 0) (xs : List Record) → All P xs → All Q xs → All (λ r. P r × Q r) xs
both_hold P Q xs a b k d l = (a k d l, b k d l)

pub staged_each : (new : Record) (old : List Record) → All (IsFrom new old) (staged new old)
unfolding staged
staged_each new old =
    let keep : Record → Bool = λ r. not (is_displaced new r) in
    let ks = filter keep old in
    let i = insertion_of new.path (record_stage new) ks in
    let stays : All (IsFrom new old) ks =
    All-weaker (λ r. Contains old r × (keep r ≡ true)) (IsFrom new old) (λ r h. inr (h.0, not_true _ h.1)) ks
    (both_hold (Contains old) (λ r. keep r ≡ true) ks
    (All-filter keep (Contains old) old (All-contains_itself old)) (filter_passes keep old)) in
    All-append (IsFrom new old) (take i ks) (new ∷ drop i ks) (All-take (IsFrom new old) i ks stays)
    (All-cons (IsFrom new old) new (drop i ks) (inl refl) (All-drop (IsFrom new old) i ks stays))

pub contains_filter : {X : Type 0} (p : X → Bool) (xs : List X) (q : X) (k : ℕ) → k < length xs → get_or xs k q ≡ q
    → p q ≡ true → Contains (filter p xs) q
contains_filter p [] q k within e t = absurd (omega arith)
contains_filter {X} p (x ∷ xs) q zero within e t =
    let px : p x ≡ true = ap p e ∙ t in
    subst (λ (b : Bool). Contains (cond b (x ∷ filter p xs) (filter p xs)) q) (sym px) (0, omega arith, e)
contains_filter {X} p (x ∷ xs) q (suc k) within e t =
    by (p x) (contains_filter p xs q k (omega arith) e t)
  where
    by : (b : Bool) → Contains (filter p xs) q → Contains (cond b (x ∷ filter p xs) (filter p xs)) q
    by true c = contains_tail x (filter p xs) q c
    by false c = c

pub staged_stays : (new : Record) (old : List Record) (q : Record) → Contains old q → is_displaced new q ≡ false
    → Contains (staged new old) q
unfolding staged
staged_stays new old q c stays =
    let keep : Record → Bool = λ r. not (is_displaced new r) in
    let ks = filter keep old in
    let i = insertion_of new.path (record_stage new) ks in
    let in_ks : Contains (take i ks ++ drop i ks) q =
    subst (λ l. Contains l q) (sym (take-append-drop i ks)) (contains_filter keep old q c.0 c.1 c.2 (ap not stays)) in
    by i ks (Contains-append_cases (take i ks) (drop i ks) q in_ks)
  where
    by : (i : ℕ) (ks : List Record) → Contains (take i ks) q ⊎ Contains (drop i ks) q
        → Contains (take i ks ++ new ∷ drop i ks) q
    by i ks (inl h) = Contains-append_left (take i ks) (new ∷ drop i ks) q h
    by i ks (inr h) = Contains-append_right (take i ks) (new ∷ drop i ks) q (contains_tail new (drop i ks) q h)

-- ---- none is a file where another needs a directory

pub staged_apart : (new : Record) (old : List Record) → LieApart old → LieApart (staged new old)
staged_apart new old h = record {
  apart = λ r q cr cq. by r q (All-contains (IsFrom new old) (staged new old) r (staged_each new old) cr)
      (All-contains (IsFrom new old) (staged new old) q (staged_each new old) cq);
}
  where
    by : (r q : Record) → IsFrom new old r → IsFrom new old q → have_df_conflict r q ≡ false
    by r q (inl e) (inl f) = ap (λ x. have_df_conflict x q) e ∙ ap (have_df_conflict new) f ∙ own_odds new
    by r q (inl e) (inr f) = ap (λ x. have_df_conflict x q) e ∙ stays_apart new q f.1
    by r q (inr e) (inl f) = ap (have_df_conflict r) f ∙ odds_both r new ∙ stays_apart new r e.1
    by r q (inr e) (inr f) = h.apart r q e.0 f.0

-- ---- replacing the record of its key, and back to a list without it

pub staged_again : (new : Record) (old : List Record) (i : ℕ) → IsStrictlyOrdered old
    → IsKeyAt new.path (record_stage new) old i
    → All (λ r. is_displaced new r ≡ true → HasKey new.path (record_stage new) r) old → staged new old ≡ set old i new
staged_again new old i o here h =
    let others = list_any_none (is_other new) old (All-weaker
    (λ r. is_displaced new r ≡ true → HasKey new.path (record_stage new) r) (λ r. is_other new r ≡ false) (alone new) old h) in
    sym (none_staged new old (set old i new) (put_over new old i o here) others)

pub staged_back : (new : Record) (old : List Record) → All (λ r. is_displaced new r ≡ false) old
    → All (λ r. is_at new.path r ≡ false) old → unstaged new.path (staged new old) ≡ old
unfolding staged unstaged
staged_back new old none away =
    let i = insertion_of new.path (record_stage new) old in
    let elsewhere : Record → Bool = λ r. not (is_at new.path r) in
    let front : filter elsewhere (take i old) ≡ take i old =
    filter_all elsewhere (take i old) (All-weaker (λ r. is_at new.path r ≡ false) (λ r. elsewhere r ≡ true)
    (λ r e. ap not e) (take i old) (All-take (λ r. is_at new.path r ≡ false) i old away)) in
    let behind : filter elsewhere (drop i old) ≡ drop i old =
    filter_all elsewhere (drop i old) (All-weaker (λ r. is_at new.path r ≡ false) (λ r. elsewhere r ≡ true)
    (λ r e. ap not e) (drop i old) (All-drop (λ r. is_at new.path r ≡ false) i old away)) in
    let kept : filter (λ r. not (is_displaced new r)) old ≡ old =
    filter_all (λ r. not (is_displaced new r)) old (All-weaker (λ r. is_displaced new r ≡ false)
    (λ r. not (is_displaced new r) ≡ true) (λ r e. ap not e) old none) in
    let at : elsewhere new ≡ false = ap not (same_to new.path new.path refl) in
    ap (λ rs. filter elsewhere (put_in new rs)) kept
    ∙ filter-append elsewhere (take i old) (new ∷ drop i old)
    ∙ ap (λ b. filter elsewhere (take i old) ++ cond b (new ∷ filter elsewhere (drop i old)) (filter elsewhere (drop i old))) at
    ∙ ap (λ l. l ++ filter elsewhere (drop i old)) front
    ∙ ap (λ l. take i old ++ l) behind
    ∙ take-append-drop i old

pub staged_into : (new : Record) (old now xs : List Record) → IsStrictlyOrdered old → IsPutInto new old now
    → xs ≡ staged new old → IsStagedInto new old xs
staged_into new old now xs o p e = record {
  is = e;
  ordered = subst IsStrictlyOrdered (sym e) (staged_ordered new old now p o);
  apart = λ h. subst LieApart (sym e) (staged_apart new old h);
  others = λ r c h. subst (λ l. Contains l r) (sym e) (staged_stays new old r c h);
  again = λ i here h. e ∙ staged_again new old i o here h;
  back = λ none away. ap (unstaged new.path) e ∙ staged_back new old none away;
}
