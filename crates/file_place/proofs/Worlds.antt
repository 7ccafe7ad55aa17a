-- What a change at one path leaves at each path.
use Rattle.std.proofs.Common.{◌≡◌, ◌≢◌, ℕ, List, String, BTreeMap, Option, Some, None, inl, inr, refl, sym, ap, subst, ◌∙◌}
use Rattle.std.proofs.Common.{Bool, ◌++◌, true, false, true≢false, ⊎_elim, string_bytes}
use Rattle.std.specs.Prelude.{codes, is_some}
use Rattle.std.proofs.lemmas.Bool.{cases_Bool, cond-false}
use Rattle.std.proofs.lemmas.Map.Text.{btree_map_updates_text}
use Rattle.std.specs.BTreeMap.{UpdatesBy, get_by_text}
use Rattle.std.specs.Cmp.Lexicographic.{slice_cmp, bytes_decides}
use Rattle.std.specs.Ordering.{nat_cmp}
use Rattle.std.specs.Str.{bytes_eq}
use Rattle.std.specs.String.{string_cmp}
use Rattle.file_place.specs.World.{Absent, Known, Makes, MayBeFree, Moves, Removes, Stays, Unknown}
use Rattle.file_place.specs.Shelf.{IsDurable, kept_in, known_as, known_by, world_by}
use Rattle.file_place.specs.declared.shelf.Kept.{Kept}

-- what holds of a path of which nothing is known, and of what is kept there
pub by_known : (P : Known → Type 0) (alone : Bool) (lock kept : Option Kept) → P Unknown → P (known_as kept)
    → P (known_by alone lock kept)
by_known P true lock kept u k = k
by_known P false None kept u k = u
by_known P false (Some l) kept u k = k

-- what holds if nobody else changes files
pub when_alone : (P : Bool → Type 0) (alone : Bool) → P true → alone ≡ true → P alone
when_alone P alone h e = subst P (sym e) h

pub some_there : (kept : Option Kept) → is_some kept ≡ true → known_as kept ≢ Absent
some_there None h e = absurd cc
some_there (Some k) h e = absurd cc

pub none_of : (kept : Option Kept) → is_some kept ≡ false → kept ≡ None
none_of None h = refl
none_of (Some k) h = absurd cc

is_known : (kept : Option Kept) → known_as kept ≢ Unknown
is_known None e = absurd cc
is_known (Some k) e = absurd cc

locked_known : (alone : Bool) (lock kept : Option Kept) (l : Kept) → lock ≡ Some l → known_by alone lock kept ≢ Unknown
locked_known true lock kept l is = is_known kept
locked_known false None kept l is = absurd cc
locked_known false (Some x) kept l is = is_known kept

kept_stays : (alone : Bool) (lock then kept now : Option Kept) → now ≡ kept
    → ((l : Kept) → lock ≡ Some l → then ≡ lock) → Stays (known_by alone lock kept) (known_by alone then now)
kept_stays true lock then kept now same locked known = ap known_as same
kept_stays false None then kept now same locked known = absurd (known refl)
kept_stays false (Some l) then kept now same locked known =
    ap (λ (o : Option Kept). known_by false o now) (locked l refl) ∙ ap known_as same

-- a file was created at a path that was free
pub made : (guards alone : Bool) (old new : List ℕ → Option Kept) (path : List ℕ) (kept : Kept) → old path ≡ None
    → new path ≡ Some kept → ((p : List ℕ) → p ≢ path → new p ≡ old p)
    → Makes guards (world_by alone old) (world_by alone new) path
made guards alone old new path kept free here others = record {
  free = by_known MayBeFree alone (old (path ++ codes ".lock")) (old path) tt
      (subst (λ (o : Option Kept). MayBeFree (known_as o)) (sym free) tt);
  there = by_known (λ k. k ≢ Absent) alone (new (path ++ codes ".lock")) (new path) (λ e. absurd cc)
      (subst (λ (o : Option Kept). known_as o ≢ Absent) (sym here) (λ e. absurd cc));
  others = λ p out. kept_stays alone (old (p ++ codes ".lock")) (new (p ++ codes ".lock")) (old p) (new p)
      (others p out) (λ l is. others (p ++ codes ".lock") (λ e. absurd (not_none l (sym is ∙ ap old e ∙ free))));
  guarded = λ _ p is. locked_known alone (new (p ++ codes ".lock")) (new p) kept (ap new is ∙ here);
}
  where
    not_none : (l : Kept) → Some l ≡ None → ⊥
    not_none l e = absurd cc

module _ {A : Type 0} (bytes : List ℕ) (old new : BTreeMap (String A) Kept) (kept : Option Kept)
    (changes : UpdatesBy string_cmp (λ k. slice_cmp nat_cmp bytes (string_bytes k)) old new kept) where
  -- no other path changes
  pub others_stay : (p : List ℕ) → p ≢ bytes → kept_in new p ≡ kept_in old p
  others_stay p ne = btree_map_updates_text bytes old new kept changes p
      ∙ cond-false (bytes_eq bytes p) kept (get_by_text old p)
      (⊎_elim (λ e. absurd (ne (sym ((bytes_decides bytes p).0 e)))) (λ e. e) (cases_Bool (bytes_eq bytes p)))

  -- the path has what it was given
  pub here_is : kept_in new bytes ≡ kept
  here_is = changes.1

-- what was taken out is gone, and no other path changes
pub taken_out : {A : Type 0} (bytes path : List ℕ) (old new : BTreeMap (String A) Kept) → bytes ≡ path
    → UpdatesBy string_cmp (λ k. slice_cmp nat_cmp bytes (string_bytes k)) old new None
    → (kept_in new path ≡ None) × ((p : List ℕ) → p ≢ path → kept_in new p ≡ kept_in old p)
taken_out bytes path old new is changes = (
  subst (λ (p : List ℕ). kept_in new p ≡ None) is (here_is bytes old new None changes),
  λ p apart. others_stay bytes old new None changes p (λ e. apart (e ∙ is)),
)

pub removed : (old new : List ℕ → Option Kept) (path : List ℕ)
    → (new path ≡ None) × ((p : List ℕ) → p ≢ path → new p ≡ old p)
    → Removes (world_by true old) (world_by true new) path
removed old new path h = record { gone = ap known_as h.0; others = λ p out known. ap known_as (h.1 p out) }

module _ (old mid new : List ℕ → Option Kept) (from to : List ℕ) (kept : Kept) (here : mid to ≡ Some kept)
    (others : (p : List ℕ) → p ≢ to → mid p ≡ old p) where
  -- a file is kept at one path, and what was at another is taken out
  module _ (apart : from ≢ to) (gone : (new from ≡ None) × ((p : List ℕ) → p ≢ from → new p ≡ mid p)) where
    pub stays_there : new to ≡ Some kept
    stays_there = gone.1 to (λ e. apart (sym e)) ∙ here

    pub moved : Moves (world_by true old) (world_by true new) from to (Some kept.bytes.items)
        (λ time. kept.time ≡ time)
    moved = record {
      file = record { bytes = kept.bytes.items; time = kept.time };
      here = ap known_as stays_there;
      are_bytes = refl;
      is_time = λ time e. e;
      moved = λ _. ap known_as gone.0;
      others = λ p out known. ap known_as (gone.1 p (λ e. out (inl e)) ∙ others p (λ e. out (inr e)));
    }

  -- a file is kept in its own place
  pub stayed : from ≡ to → Moves (world_by true old) (world_by true mid) from to (Some kept.bytes.items)
      (λ time. kept.time ≡ time)
  stayed same = record {
    file = record { bytes = kept.bytes.items; time = kept.time };
    here = ap known_as here;
    are_bytes = refl;
    is_time = λ time e. e;
    moved = λ apart. absurd (apart same);
    others = λ p out known. ap known_as (others p (λ e. out (inr e)));
  }

-- a file that was synced, and is kept there
pub durable_there : (o : Option Kept) (kept : Kept) → o ≡ Some kept → kept.is_durable ≡ true → IsDurable o
durable_there o kept is synced = subst IsDurable (sym is) synced

-- texts that compare unequal, and texts that compare equal
pub told_apart : (a b from to : List ℕ) → a ≡ from → b ≡ to → bytes_eq a b ≡ false → from ≢ to
told_apart a b from to f t differs e =
    true≢false (sym ((bytes_decides a b).1 (f ∙ e ∙ sym t)) ∙ differs)

pub told_same : (a b from to : List ℕ) → a ≡ from → b ≡ to → bytes_eq a b ≡ true → from ≡ to
told_same a b from to f t same = sym f ∙ (bytes_decides a b).0 same ∙ t
