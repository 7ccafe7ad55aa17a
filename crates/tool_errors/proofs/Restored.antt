-- What is left if a file was locked and nothing replaced it.
use Rattle.std.proofs.Common.{◌≡◌, ℕ, zero, suc, List, [], ◌∷◌, ◌++◌, Bool, true, inl, inr, refl, sym, ap, subst, ◌∙◌}
use Rattle.std.proofs.Common.{arith, Result, Ok, Err}
use Rattle.std.specs.Prelude.{◌≢◌, ◌⊎◌, OnErr, codes}
use Rattle.gix_index.specs.InPlace.Locks.{IsReleased, Restores, lock_of, target_of}
use Rattle.gix_index.specs.InPlace.Place.{Place}
use Rattle.gix_index.specs.Disk.World.{Absent, Directory, Holds, Known, Leads, MayBeFree, Special, Stays, Unknown}
use Rattle.gix_index.specs.Disk.World.{World}
use Rattle.gix_index.proofs.Moved.{stays_then}
use Rattle.tool_errors.specs.Storing.{IsUnderLock}

number_is : (a b : ℕ) → (a ≡ b) ⊎ (a ≢ b)
number_is zero zero = inl refl
number_is zero (suc b) = inr (λ e. omega (arith, e))
number_is (suc a) zero = inr (λ e. omega (arith, e))
number_is (suc a) (suc b) = by (number_is a b)
  where
    by : (a ≡ b) ⊎ (a ≢ b) → (suc a ≡ suc b) ⊎ (suc a ≢ suc b)
    by (inl e) = inl (ap suc e)
    by (inr n) = inr (λ e. n (omega (arith, e)))

path_is : (a b : List ℕ) → (a ≡ b) ⊎ (a ≢ b)
path_is [] [] = inl refl
path_is [] (y ∷ b) = inr (λ e. absurd cc)
path_is (x ∷ a) [] = inr (λ e. absurd cc)
path_is (x ∷ a) (y ∷ b) = by (number_is x y) (path_is a b)
  where
    by : (x ≡ y) ⊎ (x ≢ y) → (a ≡ b) ⊎ (a ≢ b) → (x ∷ a ≡ y ∷ b) ⊎ (x ∷ a ≢ y ∷ b)
    by (inl e) (inl f) = inl (ap (λ (z : ℕ). z ∷ a) e ∙ ap (λ (l : List ℕ). y ∷ l) f)
    by (inl e) (inr n) = inr (λ g. n cc)
    by (inr n) f = inr (λ g. n cc)

-- what was free is known to be absent, or isn't known
free_stays : (k l : Known) → MayBeFree k → l ≡ Absent → Stays k l
free_stays Unknown l free gone n = absurd (n refl)
free_stays Absent l free gone n = gone
free_stays (Holds file) l free gone n = absurd free
free_stays (Leads to) l free gone n = absurd free
free_stays Directory l free gone n = absurd free
free_stays Special l free gone n = absurd free

module _ (guards works : Bool) (old mid new : World) (to : List ℕ) (place : Place)
    (locked : IsUnderLock guards old mid to place) (beside : lock_of place ≡ target_of place ++ codes ".lock") where
  pub restores : IsReleased works mid new (lock_of place) → Restores works old new to
  restores (inl h) = λ p out. by p (path_is p (lock_of place))
    where
      by : (p : List ℕ) → (p ≡ lock_of place) ⊎ (p ≢ lock_of place) → Stays (old p) (new p)
      by p (inl e) = subst (λ (x : List ℕ). Stays (old x) (new x)) (sym e)
          (free_stays (old (lock_of place)) (new (lock_of place)) locked.made.free h.gone)
      by p (inr n) = stays_then (old p) (mid p) (new p) (locked.made.others p n) (h.others p n)
  restores (inr h) = λ p out. subst (λ (w : World). Stays (old p) (w p)) (sym h.1)
      (locked.made.others p (λ e. out (h.0, (target_of place, locked.target, e ∙ beside))))

  pub restored_so : {T E : Type 0} (alone works-then before : Bool) (r : Result T E) → alone ≡ before
      → works-then ≡ works → OnErr r (alone ≡ true → IsReleased works-then mid new (lock_of place))
      → OnErr r (before ≡ true → Restores works old new to)
  restored_so alone works-then before (Ok x) same still h = h
  restored_so alone works-then before (Err e) same still h = λ is.
      restores (subst (λ (b : Bool). IsReleased b mid new (lock_of place)) still (h (same ∙ is)))

-- if nothing was made, everything stays as it was
pub restores_unmade : (works : Bool) (old new : World) (to : List ℕ) → new ≡ old → Restores works old new to
restores_unmade works old new to same = λ p out stays. ap (λ (w : World). w p) same
