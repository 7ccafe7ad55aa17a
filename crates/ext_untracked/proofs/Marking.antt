-- Directories of a list changed one by one, and what all the changes come to.
use Rattle.std.proofs.Common.{◌≡◌, ℕ, zero, suc, ◌+◌, ◌<◌, ◌≤◌, Bool, true, false, cond, eqb, List, [], ◌∷◌, ◌++◌}
use Rattle.std.proofs.Common.{length, map, take, get_or, Option, Some, None, refl, sym, ap, ◌∙◌, arith}
use Rattle.std.specs.Prelude.{slice_set, ◌||◌}
use Rattle.std.specs.List.{enumerate_from, list_any}
use Rattle.std.proofs.lemmas.Bool.{eq-eqb, ne_eqb}
use Rattle.std.proofs.lemmas.List.{take_more, length-take}
use Rattle.std.proofs.lemmas.List.Folds.{list_any-append}
use Rattle.ext_untracked.specs.Blocks.{DirectoryValue, directory_value}
use Rattle.index_extensions.specs.ExtensionValue.{option_or}
use Rattle.ext_untracked.specs.BitmapSteps.{changed_directory, checked, last_at, by_some, by_true, each}
use Rattle.ext_untracked.specs.declared.Directory.{Directory}

-- the directory that is written is the value changed
pub change_set : (f : DirectoryValue → DirectoryValue) (xs : List Directory) (place : ℕ) (x y : Directory)
    → place < length xs → x ≡ get_or xs place x → directory_value y ≡ f (directory_value x)
    → map directory_value (slice_set xs place y) ≡ changed_directory f place (map directory_value xs)
change_set f [] place x y lt e h = absurd (omega arith)
change_set f (a ∷ xs) zero x y lt e h =
    ap (λ (d : DirectoryValue). d ∷ map directory_value xs) (h ∙ ap (λ (z : Directory). f (directory_value z)) e)
change_set f (a ∷ xs) (suc place) x y lt e h =
    ap (λ (ds : List DirectoryValue). directory_value a ∷ ds) (change_set f xs place x y (omega arith) e h)

-- the directory after a prefix of `place` directories is changed
pub change_at : (f : DirectoryValue → DirectoryValue) (place : ℕ) (xs : List DirectoryValue) (d : DirectoryValue)
    (ys : List DirectoryValue) → place ≡ length xs → changed_directory f place (xs ++ d ∷ ys) ≡ xs ++ f d ∷ ys
change_at f place [] d ys e = rw e refl
change_at f zero (x ∷ xs) d ys e = absurd (omega arith)
change_at f (suc place) (x ∷ xs) d ys e =
    ap (λ (ds : List DirectoryValue). x ∷ ds) (change_at f place xs d ys (omega arith))

-- ---- each directory by its place

abbrev each_from : ℕ → (ℕ → DirectoryValue → DirectoryValue) → List DirectoryValue → List DirectoryValue
each_from n f ds = map (λ x. f x.0 x.1) (enumerate_from n ds)

pub each_none : (n : ℕ) (ds : List DirectoryValue) → map (λ (x : ℕ × DirectoryValue). x.1) (enumerate_from n ds) ≡ ds
each_none n [] = refl
each_none n (d ∷ ds) = ap (λ (l : List DirectoryValue). d ∷ l) (each_none (n + 1) ds)

same_from : (f g : ℕ → DirectoryValue → DirectoryValue) (n : ℕ) (ds : List DirectoryValue)
    → ((i : ℕ) (d : DirectoryValue) → n ≤ i → f i d ≡ g i d) → each_from n f ds ≡ each_from n g ds
same_from f g n [] h = refl
same_from f g n (d ∷ ds) h = rw (h n d (omega arith), same_from f g (n + 1) ds (λ i x le. h i x (omega arith))) refl

change_from : (f g : ℕ → DirectoryValue → DirectoryValue) (h : DirectoryValue → DirectoryValue) (place n k : ℕ)
    (ds : List DirectoryValue) → place ≡ n + k
    → ((i : ℕ) (d : DirectoryValue) → g i d ≡ by_true h (eqb place i) (f i d))
    → changed_directory h k (each_from n f ds) ≡ each_from n g ds
change_from f g h place n k [] e same = refl
change_from f g h place n zero (d ∷ ds) e same =
    let here : eqb place n ≡ true = eq-eqb place n (omega arith) in
    let first : g n d ≡ h (f n d) = same n d ∙ rw here refl in
    let others : each_from (n + 1) f ds ≡ each_from (n + 1) g ds =
    same_from f g (n + 1) ds (λ i x le. let apart : eqb place i ≡ false = ne_eqb place i (λ q. omega arith) in
    sym (same i x ∙ rw apart refl)) in
    rw (first, others) refl
change_from f g h place n (suc k) (d ∷ ds) e same =
    let apart : eqb place n ≡ false = ne_eqb place n (λ q. omega arith) in
    let first : g n d ≡ f n d = same n d ∙ rw apart refl in
    rw (first, change_from f g h place (n + 1) k ds (omega arith) same) refl

-- ---- a value more, and a mark more

value_by : {A : Type 0} (b : Bool) (o p : Option A) (x : A)
    → option_or (cond b (Some x) o) p ≡ cond b (Some x) (option_or o p)
value_by true o p x = refl
value_by false o p x = refl

value_push : {A : Type 0} (places : List ℕ) (values : List A) (place : ℕ) (x : A) (i : ℕ)
    → length places ≡ length values
    → last_at (places ++ place ∷ []) (values ++ x ∷ []) i ≡ cond (eqb place i) (Some x) (last_at places values i)
value_push [] [] place x i e = refl
value_push [] (y ∷ values) place x i e = absurd (omega arith)
value_push (p ∷ places) [] place x i e = absurd (omega arith)
value_push {A} (p ∷ places) (y ∷ values) place x i e =
    ap (λ (o : Option A). option_or o (cond (eqb p i) (Some y) None)) (value_push places values place x i (omega arith))
    ∙ value_by (eqb place i) (last_at places values i) (cond (eqb p i) (Some y) None) x

by_last : {A : Type 0} (f : A → DirectoryValue → DirectoryValue)
    → ((x y : A) (d : DirectoryValue) → f x (f y d) ≡ f x d) → (b : Bool) (o : Option A) (x : A) (d : DirectoryValue)
    → by_some f (cond b (Some x) o) d ≡ by_true (f x) b (by_some f o d)
by_last f over true None x d = refl
by_last f over true (Some y) x d = sym (over x y d)
by_last f over false o x d = refl

-- one more directory changed by its value
pub each_value : {A : Type 0} (f : A → DirectoryValue → DirectoryValue)
    → ((x y : A) (d : DirectoryValue) → f x (f y d) ≡ f x d)
    → (places : List ℕ) (values : List A) (place : ℕ) (x : A) (ds : List DirectoryValue) → length places ≡ length values
    → changed_directory (f x) place (each (λ i. by_some f (last_at places values i)) ds)
    ≡ each (λ i. by_some f (last_at (places ++ place ∷ []) (values ++ x ∷ []) i)) ds
each_value {A} f over places values place x ds e =
    change_from (λ i. by_some f (last_at places values i))
    (λ i. by_some f (last_at (places ++ place ∷ []) (values ++ x ∷ []) i)) (f x) place 0 place ds (omega arith)
    (λ i d. ap (λ (o : Option A). by_some f o d) (value_push places values place x i e)
    ∙ by_last f over (eqb place i) (last_at places values i) x d)

mark_twice : (f : DirectoryValue → DirectoryValue) → ((d : DirectoryValue) → f (f d) ≡ f d)
    → (a b : Bool) (d : DirectoryValue) → by_true f (a || (b || false)) d ≡ by_true f b (by_true f a d)
mark_twice f over true true d = sym (over d)
mark_twice f over true false d = refl
mark_twice f over false true d = refl
mark_twice f over false false d = refl

pub each_checked : (places : List ℕ) (place : ℕ) (ds : List DirectoryValue)
    → changed_directory checked place (each (λ i. by_true checked (list_any (λ p. eqb p i) places)) ds)
    ≡ each (λ i. by_true checked (list_any (λ p. eqb p i) (places ++ place ∷ []))) ds
each_checked places place ds =
    change_from (λ i. by_true checked (list_any (λ p. eqb p i) places))
    (λ i. by_true checked (list_any (λ p. eqb p i) (places ++ place ∷ []))) checked place 0 place ds (omega arith)
    (λ i d. ap (λ (b : Bool). by_true checked b d) (list_any-append (λ p. eqb p i) places (place ∷ []))
    ∙ mark_twice checked (λ e. refl) (list_any (λ p. eqb p i) places) (eqb place i) d)

-- ---- a step of a loop over places

pub value_step : {A : Type 0} (f : A → DirectoryValue → DirectoryValue)
    → ((x y : A) (d : DirectoryValue) → f x (f y d) ≡ f x d)
    → (places : List ℕ) (i : ℕ) (values : List A) (x : A) (ds now next : List DirectoryValue) → i < length places
    → length values ≡ i
    → now ≡ each (λ j. by_some f (last_at (take i places) values j)) ds
    → next ≡ changed_directory (f x) (get_or places i 0) now
    → next ≡ each (λ j. by_some f (last_at (take (i + 1) places) (values ++ x ∷ []) j)) ds
value_step {A} f over places i values x ds now next lt len same step =
    let taken : length (take i places) ≡ length values = omega (arith, length-take i places) in
    step ∙ ap (changed_directory (f x) (get_or places i 0)) same
    ∙ each_value f over (take i places) values (get_or places i 0) x ds taken
    ∙ ap (λ (ps : List ℕ). each (λ j. by_some f (last_at ps (values ++ x ∷ []) j)) ds) (sym (take_more places i 0 lt))

pub check_step : (places : List ℕ) (i : ℕ) (ds now next : List DirectoryValue) → i < length places
    → now ≡ each (λ j. by_true checked (list_any (λ p. eqb p j) (take i places))) ds
    → next ≡ changed_directory checked (get_or places i 0) now
    → next ≡ each (λ j. by_true checked (list_any (λ p. eqb p j) (take (i + 1) places))) ds
check_step places i ds now next lt same step =
    step ∙ ap (changed_directory checked (get_or places i 0)) same ∙ each_checked (take i places) (get_or places i 0) ds
    ∙ ap (λ (ps : List ℕ). each (λ j. by_true checked (list_any (λ p. eqb p j) ps)) ds) (sym (take_more places i 0 lt))
