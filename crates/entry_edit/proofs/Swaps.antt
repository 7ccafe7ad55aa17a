-- Two changes of different paths, neither in the other, result in the same list in either order.
use Rattle.std.proofs.Common.{◌≡◌, ◌≢◌, ℕ, ◌⊎◌, inl, inr, Bool, true, false, not, List, ◌∷◌, ◌&&◌, ◌||◌, ◌==◌}
use Rattle.std.proofs.Common.{Option, Some, None, drop, filter, get_or, take, refl, sym, ap, ◌∙◌, subst}
use Rattle.std.proofs.lemmas.List.Elements.{All-contains, All-contains_itself, All-filter, Contains-append_right}
use Rattle.std.proofs.lemmas.List.Elements.{filter_passes}
use Rattle.std.proofs.lemmas.List.Quantifiers.{position-Some}
use Rattle.std.proofs.lemmas.List.Sums.{count_by-le-length}
use Rattle.std.specs.List.{Contains}
use Rattle.std.specs.Option.{ok_or}
use Rattle.std.specs.Ordering.{is_lt}
use Rattle.entry_list.specs.Order.{IsStrictlyOrdered, key_cmp, record_stage}
use Rattle.entry_list.specs.Record.{Record, with_path}
use Rattle.entry_lookup.specs.Closest.{is_below}
use Rattle.entry_lookup.specs.Lookup.{has_key, insertion_of, record_index}
use Rattle.entry_lookup.specs.Range.{is_at}
use Rattle.entry_lookup.proofs.Pairs.{contains_head}
use Rattle.entry_lookup.proofs.TableMade.{same_from}
use Rattle.entry_edit.specs.Changes.{applied_one, change_path, takes_out}
use Rattle.entry_edit.specs.Edits.{is_displaced, staged, unstaged}
use Rattle.entry_edit.specs.Reorders.{is_inside_folder}
use Rattle.entry_edit.specs.declared.change.Change.{Change}
use Rattle.entry_edit.specs.declared.change.Change.TheVariants as changes
use Rattle.entry_edit.proofs.Members.{AreIn, same_members}
use Rattle.entry_edit.proofs.Puts.{put_between, put_over}
use Rattle.entry_edit.proofs.Stagings.{IsFrom, contains_filter, staged_each, staged_ordered, staged_stays}
use Rattle.entry_edit.proofs.Unstagings.{unstaged_from}
use Rattle.entry_edit.proofs.Ways.{key_from}

-- ---- in order again

put_into : (new : Record) (rs : List Record) → IsStrictlyOrdered rs → IsStrictlyOrdered (staged new rs)
put_into new rs o = by (record_index new.path (record_stage new) rs) refl
  where
    n : ℕ
    n = record_stage new

    by : (p : Option ℕ) → record_index new.path n rs ≡ p → IsStrictlyOrdered (staged new rs)
    by (Some i) e =
        let found : (d : Record) → _ = λ d. position-Some (has_key new.path n) rs i d e in
        staged_ordered new rs _ (put_over new rs i o (record {
          in_range = (found new).0;
          here = λ d. key_from new.path n (get_or rs i d) (found d).1;
        })) o
    by None e =
        let place = insertion_of new.path n rs in
        staged_ordered new rs _ (put_between new rs place o (ap (λ q. ok_or q place) (sym e))
        (count_by-le-length (λ (r : Record). is_lt (key_cmp new.path n r)) rs)) o

unstaged_is : (path : List ℕ) (rs : List Record) → unstaged path rs ≡ filter (λ r. not (is_at path r)) rs
unfolding unstaged
unstaged_is path rs = refl

pub one_ordered : (c : Change) (rs : List Record) → IsStrictlyOrdered rs → IsStrictlyOrdered (applied_one c rs)
one_ordered (changes.Stage entry path) rs o = put_into (with_path path.now entry) rs o
one_ordered (changes.Unstage path) rs o =
    (unstaged_from path.now rs o (unstaged path.now rs) (unstaged_is path.now rs)).ordered

-- ---- what a change puts in, and what it leaves

-- the record that the change puts in
abbrev pub IsNew : Change → Record → Type 0
IsNew (changes.Stage entry path) r = r ≡ with_path path.now entry
IsNew (changes.Unstage path) r = ⊥

not_true : (b : Bool) → not b ≡ true → b ≡ false
not_true true e = cc
not_true false e = refl

abbrev pub CameFrom : Change → List Record → Record → Type 0
CameFrom c rs r = IsNew c r ⊎ (Contains rs r × (takes_out c r ≡ false))

filtered : (p : Record → Bool) (rs : List Record) (r : Record) → Contains (filter (λ q. not (p q)) rs) r
    → Contains rs r × (p r ≡ false)
filtered p rs r c =
    let keep : Record → Bool = λ q. not (p q) in (
      All-contains (Contains rs) (filter keep rs) r (All-filter keep (Contains rs) rs (All-contains_itself rs)) c,
      not_true _ (All-contains (λ q. keep q ≡ true) (filter keep rs) r (filter_passes keep rs) c),
    )

pub came_from : (c : Change) (rs : List Record) (r : Record) → Contains (applied_one c rs) r → CameFrom c rs r
came_from (changes.Stage entry path) rs r c =
    let new = with_path path.now entry in
    All-contains (IsFrom new rs) (staged new rs) r (staged_each new rs) c
came_from (changes.Unstage path) rs r c =
    inr (filtered (is_at path.now) rs r (subst (λ l. Contains l r) (unstaged_is path.now rs) c))

new_in : (new : Record) (rs : List Record) → Contains (staged new rs) new
unfolding staged
new_in new rs =
    let ks = filter (λ r. not (is_displaced new r)) rs in
    let i = insertion_of new.path (record_stage new) ks in
    Contains-append_right (take i ks) (new ∷ drop i ks) new (contains_head new (drop i ks))

pub goes_to : (c : Change) (rs : List Record) (r : Record) → CameFrom c rs r → Contains (applied_one c rs) r
goes_to (changes.Stage entry path) rs r (inl e) =
    let new = with_path path.now entry in
    subst (Contains (staged new rs)) (sym e) (new_in new rs)
goes_to (changes.Stage entry path) rs r (inr h) = staged_stays (with_path path.now entry) rs r h.0 h.1
goes_to (changes.Unstage path) rs r (inl e) = absurd e
goes_to (changes.Unstage path) rs r (inr h) = subst (λ l. Contains l r) (sym (unstaged_is path.now rs))
    (contains_filter (λ q. not (is_at path.now q)) rs r h.0.0 h.0.1 h.0.2 (ap not h.1))

-- ---- two changes of paths apart

-- the paths are different, and neither is in the other
pub record AreApart (c d : Change) : Type 0 where
  pub other : change_path c ≢ change_path d
  pub first : is_inside_folder (change_path c) (change_path d) ≡ false
  pub second : is_inside_folder (change_path d) (change_path c) ≡ false

pub apart_back : (c d : Change) → AreApart c d → AreApart d c
apart_back c d a = record { other = λ e. a.other (sym e); first = a.second; second = a.first }

false_from : (b : Bool) → (b ≡ true → ⊥) → b ≡ false
false_from true h = absurd (h refl)
false_from false h = refl

odds_none : (x y : Bool) → ((false && x) || (y && (false || false))) ≡ false
odds_none x true = refl
odds_none x false = refl

-- what has the path of the one isn't taken out by the other
pub away : (c d : Change) → AreApart c d → (r : Record) → r.path ≡ change_path c → takes_out d r ≡ false
away c (changes.Stage entry path) a r e =
    let new = with_path path.now entry in
    let elsewhere : is_at path.now r ≡ false = false_from _ (λ t. a.other (sym e ∙ same_from r.path path.now t)) in
    let below : is_below path.now r ≡ false = ap (is_inside_folder path.now) e ∙ a.second in
    let above : is_below r.path new ≡ false = ap (λ (p : List ℕ). is_inside_folder p path.now) e ∙ a.first in
    rw (elsewhere, below, above)
    (odds_none ((record_stage new == 0) || (record_stage r == record_stage new)) (record_stage r == record_stage new))
away c (changes.Unstage path) a r e = false_from _ (λ t. a.other (sym e ∙ same_from r.path path.now t))

pub new_path : (c : Change) (r : Record) → IsNew c r → r.path ≡ change_path c
new_path (changes.Stage entry path) r e = ap (λ (q : Record). q.path) e
new_path (changes.Unstage path) r e = absurd e

-- so what the one puts in isn't
pub stays : (c d : Change) → AreApart c d → (r : Record) → IsNew c r → takes_out d r ≡ false
stays c d a r n = away c d a r (new_path c r n)

swap_in : (c d : Change) (rs : List Record) → AreApart c d
    → AreIn (applied_one d (applied_one c rs)) (applied_one c (applied_one d rs))
swap_in c d rs a r h = by (came_from d (applied_one c rs) r h)
  where
    then : takes_out d r ≡ false → CameFrom c rs r → CameFrom c (applied_one d rs) r
    then t (inl n) = inl n
    then t (inr p) = inr (goes_to d rs r (inr (p.0, t)), p.1)

    by : CameFrom d (applied_one c rs) r → Contains (applied_one c (applied_one d rs)) r
    by (inl n) = goes_to c (applied_one d rs) r (inr (goes_to d rs r (inl n), stays d c (apart_back c d a) r n))
    by (inr p) = goes_to c (applied_one d rs) r (then p.1 (came_from c rs r p.0))

pub applied_swap : (c d : Change) (rs : List Record) → AreApart c d → IsStrictlyOrdered rs
    → applied_one d (applied_one c rs) ≡ applied_one c (applied_one d rs)
applied_swap c d rs a o = same_members _ _ (one_ordered d _ (one_ordered c rs o)) (one_ordered c _ (one_ordered d rs o))
    (swap_in c d rs a) (swap_in d c rs (apart_back c d a))
