-- What an edit of a path makes of the directories of an untracked cache, from one on the way to the next.
use Rattle.std.proofs.Common.{◌≡◌, ℕ, zero, suc, ◌+◌, ◌-◌, ◌<◌, ◌≤◌, ◌==◌, Bool, true, false, cond, eqb, List, [], ◌∷◌, ◌++◌}
use Rattle.std.proofs.Common.{All, length, map, take, drop, get_or, Some, None, refl, sym, ap, ◌∙◌, arith}
use Rattle.std.specs.Prelude.{◌||◌, IfSome, position}
use Rattle.std.specs.List.{AllByRecursion, enumerate_from, find, list_any, slice_split}
use Rattle.std.specs.Option.{option_map, unwrap_or}
use Rattle.std.proofs.Math.Seq.{drop-cons}
use Rattle.std.proofs.lemmas.Bool.{eq-eqb, ne_eqb}
use Rattle.std.proofs.lemmas.List.{get_or-take, length-take, take-append-drop}
use Rattle.std.proofs.lemmas.List.Quantifiers.{position-Some}
use Rattle.std.proofs.lemmas.List.Splits.{length-slice_split, slice_split_at, slice_split_none}
use Rattle.index_parts.specs.Id.{id_kind}
use Rattle.index_parts.specs.declared.hash.Kind.{Kind}
use Rattle.ext_untracked.specs.BitmapSteps.{changed_directory}
use Rattle.ext_untracked.specs.Blocks.{DirectoryValue}
use Rattle.ext_untracked.specs.Untracked.{Cache, CacheIdsAreOf}
use Rattle.ext_untracked.specs.UntrackedEdits.{concerned, folders_of, invalidated_from, is_directory_named}
use Rattle.ext_untracked.specs.UntrackedEdits.{path_invalidated}
use Rattle.ext_untracked.specs.UntrackedEdits.{sub_named, subs_at, tells_directories, invalidated_directory}
use Rattle.ext_untracked.specs.UntrackedEdits.{unlisted_at, way}
use Rattle.ext_untracked.proofs.Marking.{each_none}

-- ---- the first element that passes, from a place on

module _ {X : Type 0} (p : X → Bool) (d : X) where
  pub found_here : (xs : List X) (i : ℕ) → i < length xs → p (get_or xs i d) ≡ true
      → find p (drop i xs) ≡ Some (get_or xs i d)
  found_here [] i l h = absurd (omega (arith, l))
  found_here (x ∷ xs) zero l h = ap (λ b. cond b (Some x) (find p xs)) h
  found_here (x ∷ xs) (suc i) l h = found_here xs i (omega (arith, l)) h

  pub found_later : (xs : List X) (i : ℕ) → i < length xs → p (get_or xs i d) ≡ false
      → find p (drop i xs) ≡ find p (drop (i + 1) xs)
  found_later [] i l h = absurd (omega (arith, l))
  found_later (x ∷ xs) zero l h = ap (λ b. cond b (Some x) (find p xs)) h
  found_later (x ∷ xs) (suc i) l h =
      let next : suc (i + 1) ≡ suc i + 1 = omega arith in
      found_later xs i (omega (arith, l)) h ∙ ap (λ n. find p (drop n (x ∷ xs))) next

  pub found_nowhere : (xs : List X) (i : ℕ) → length xs ≤ i → find p (drop i xs) ≡ None
  found_nowhere [] zero l = refl
  found_nowhere [] (suc i) l = refl
  found_nowhere (x ∷ xs) zero l = absurd (omega (arith, l))
  found_nowhere (x ∷ xs) (suc i) l = found_nowhere xs i (omega (arith, l))

find_same : {X : Type 0} (p q : X → Bool) (xs : List X) → ((x : X) → p x ≡ q x) → find p xs ≡ find q xs
find_same p q [] h = refl
find_same p q (x ∷ xs) h = rw (h x, find_same p q xs h) refl

-- ---- one place more that isn't valid

-- no directory is changed if none is at the index
pub change_beyond : (f : DirectoryValue → DirectoryValue) (place : ℕ) (ds : List DirectoryValue) → length ds ≤ place
    → ds ≡ changed_directory f place ds
change_beyond f place [] l = refl
change_beyond f zero (d ∷ ds) l = absurd (omega (arith, l))
change_beyond f (suc place) (d ∷ ds) l =
    ap (λ (l : List DirectoryValue). d ∷ l) (change_beyond f place ds (omega (arith, l)))

abbrev from : ℕ → List ℕ → List DirectoryValue → List DirectoryValue
from n places ds = map (λ x. cond (list_any (λ p. eqb p x.0) places) (invalidated_directory x.1) x.1) (enumerate_from n
    ds)

beyond : (place n : ℕ) (places : List ℕ) (ds : List DirectoryValue) → place < n
    → from n (place ∷ places) ds ≡ from n places ds
beyond place n places [] l = refl
beyond place n places (d ∷ ds) l =
    let other : eqb place n ≡ false = ne_eqb place n (λ e. omega (arith, e, l)) in
    let first = ap (λ b. cond (b || list_any (λ p. eqb p n) places) (invalidated_directory d) d) other in
    rw (first, beyond place (n + 1) places ds (omega (arith, l))) refl

twice : (b : Bool) (d : DirectoryValue) → invalidated_directory d ≡ cond b (invalidated_directory
    (invalidated_directory d)) (invalidated_directory d)
twice true d = refl
twice false d = refl

more_from : (place n k : ℕ) (places : List ℕ) (ds : List DirectoryValue) → place ≡ n + k
    → from n (place ∷ places) ds ≡ from n places (changed_directory invalidated_directory k ds)
more_from place n k places [] e = refl
more_from place n zero places (d ∷ ds) e =
    let here : eqb place n ≡ true = eq-eqb place n (omega (arith, e)) in
    let among = list_any (λ p. eqb p n) places in
    let first : cond (eqb place n || among) (invalidated_directory d) d ≡ cond among (invalidated_directory
    (invalidated_directory d)) (invalidated_directory d) =
    ap (λ b. cond (b || among) (invalidated_directory d) d) here ∙ twice among d in
    rw (first, beyond place (n + 1) places ds (omega (arith, e))) refl
more_from place n (suc k) places (d ∷ ds) e =
    let other : eqb place n ≡ false = ne_eqb place n (λ q. omega (arith, e, q)) in
    let first = ap (λ b. cond (b || list_any (λ p. eqb p n) places) (invalidated_directory d) d) other in
    rw (first, more_from place (n + 1) k places ds (omega (arith, e))) refl

one_more : (place : ℕ) (places : List ℕ) (ds : List DirectoryValue)
    → unlisted_at (place ∷ places) ds ≡ unlisted_at places (changed_directory invalidated_directory place ds)
one_more place places ds = more_from place 0 place places ds (omega arith)

-- ---- the way is the same in directories of which one isn't valid

named_same : (place : ℕ) (ds : List DirectoryValue) (name : List ℕ) (q : ℕ)
    → is_directory_named (changed_directory invalidated_directory place ds) name q ≡ is_directory_named ds name q
named_same place [] name q = refl
named_same zero (d ∷ ds) name zero = refl
named_same zero (d ∷ ds) name (suc q) = refl
named_same (suc place) (d ∷ ds) name zero = refl
named_same (suc place) (d ∷ ds) name (suc q) = named_same place ds name q

subs_same : (place : ℕ) (ds : List DirectoryValue) (q : ℕ)
    → subs_at (changed_directory invalidated_directory place ds) q ≡ subs_at ds q
subs_same place [] q = refl
subs_same zero (d ∷ ds) zero = refl
subs_same zero (d ∷ ds) (suc q) = refl
subs_same (suc place) (d ∷ ds) zero = refl
subs_same (suc place) (d ∷ ds) (suc q) = subs_same place ds q

module _ (place : ℕ) (ds : List DirectoryValue) where
  sub_same : (name : List ℕ) (q : ℕ) → sub_named (changed_directory invalidated_directory place ds) name q ≡ sub_named
      ds name q
  sub_same name q =
      find_same (is_directory_named (changed_directory invalidated_directory place ds) name) (is_directory_named ds
      name) _ (named_same place ds name)
      ∙ ap (find (is_directory_named ds name)) (subs_same place ds q)

  way_same : (names : List (List ℕ)) (q : ℕ)
      → way (changed_directory invalidated_directory place ds) names q ≡ way ds names q
  way_same [] q = refl
  way_same (name ∷ names) q =
      let now = way (changed_directory invalidated_directory place ds) names in
      ap (λ o. q ∷ unwrap_or (option_map now o) []) (sub_same name q)
      ∙ elim (sub_named ds name q) as (λ o. q ∷ unwrap_or (option_map now o) []
      ≡ q ∷ unwrap_or (option_map (way ds names) o) []) [
        | None ↦ refl
        | Some r ↦ ap (λ l. q ∷ l) (way_same names r)
      ]

-- ---- a step of the way

-- the directories after a folder on the way
abbrev pub passed : Bool → ℕ → List DirectoryValue → List DirectoryValue
passed wholes place ds = cond wholes (changed_directory invalidated_directory place ds) ds

last_folder : (path : List ℕ) → All (λ b. (b == 47) ≡ false) path → folders_of path ≡ []
last_folder path h =
    ap (λ (ns : List (List ℕ)). take (length ns - 1) ns) (slice_split_none (λ b. b == 47) path h)

take_but_last : (n : List ℕ) (ns : List (List ℕ)) → 0 < length ns
    → take (length (n ∷ ns) - 1) (n ∷ ns) ≡ n ∷ take (length ns - 1) ns
take_but_last n [] l = absurd (omega (arith, l))
take_but_last n (m ∷ ns) l =
    let more : length (n ∷ m ∷ ns) - 1 ≡ suc (length (m ∷ ns) - 1) = omega arith in
    ap (λ i. take i (n ∷ m ∷ ns)) more

next_folder : (path : List ℕ) (k : ℕ) → position (λ b. b == 47) path ≡ Some k
    → folders_of path ≡ take k path ∷ folders_of (drop (k + 1) path)
next_folder path k e =
    let p : ℕ → Bool = λ b. b == 47 in
    let found = position-Some p path k 0 e in
    let behind = slice_split p (drop (k + 1) path) in
    let next : suc k ≡ k + 1 = omega arith in
    let parts : path ≡ take k path ++ get_or path k 0 ∷ drop (k + 1) path =
    sym (take-append-drop k path) ∙ ap (λ l. take k path ++ l)
    (drop-cons path k 0 found.0 ∙ ap (λ n. get_or path k 0 ∷ drop n path) next) in
    let before : All (λ b. p b ≡ false) (take k path) =
    λ i d l. let within : i < k = omega (arith, l, length-take k path) in
    ap p (get_or-take k path i d within) ∙ (position-Some p path k d e).2 i within in
    let split : slice_split p path ≡ take k path ∷ behind =
    ap (slice_split p) parts ∙ slice_split_at p (take k path) (get_or path k 0) (drop (k + 1) path) before found.1 in
    ap (λ (ns : List (List ℕ)). take (length ns - 1) ns) split
    ∙ take_but_last (take k path) behind (omega (arith, length-slice_split p (drop (k + 1) path)))

module _ (path : List ℕ) (place : ℕ) (ds : List DirectoryValue) where
  at_last : (wholes : Bool) → concerned wholes [] (place ∷ []) ≡ place ∷ []
  at_last true = refl
  at_last false = refl

  -- if the way ends at the directory that contains the path
  pub ended : (wholes : Bool) → All (λ b. (b == 47) ≡ false) path
      → changed_directory invalidated_directory place ds ≡ invalidated_from wholes path place ds
  ended wholes h =
      sym (ap (λ fs. unlisted_at (concerned wholes fs (way ds fs place)) ds) (last_folder path h)
      ∙ ap (λ ps. unlisted_at ps ds) (at_last wholes)
      ∙ one_more place [] ds ∙ each_none 0 (changed_directory invalidated_directory place ds))

  none_left : (n : ℕ) → unlisted_at (drop n []) ds ≡ ds
  none_left zero = each_none 0 ds
  none_left (suc n) = each_none 0 ds

  module _ (k : ℕ) (is : position (λ b. b == 47) path ≡ Some k) where
    -- if the next folder is missing
    pub missed : (wholes : Bool) → sub_named (passed wholes place ds) (take k path) place ≡ None
        → passed wholes place ds ≡ invalidated_from wholes path place ds
    missed true h =
        let fs = folders_of (drop (k + 1) path) in
        sym (ap (λ fs. unlisted_at (way ds fs place) ds) (next_folder path k is)
        ∙ ap (λ o. unlisted_at (place ∷ unwrap_or (option_map (way ds fs) o) []) ds)
        (sym (sub_same place ds (take k path) place) ∙ h)
        ∙ one_more place [] ds ∙ each_none 0 (changed_directory invalidated_directory place ds))
    missed false h =
        let fs = folders_of (drop (k + 1) path) in
        sym (ap (λ fs. unlisted_at (drop (length fs) (way ds fs place)) ds) (next_folder path k is)
        ∙ ap (λ o. unlisted_at (drop (length fs) (unwrap_or (option_map (way ds fs) o) [])) ds) h
        ∙ none_left (length fs))

    -- if the next folder is present
    pub went_on : (wholes : Bool) (next : ℕ) → sub_named (passed wholes place ds) (take k path) place ≡ Some next
        → invalidated_from wholes path place ds
        ≡ invalidated_from wholes (drop (k + 1) path) next (passed wholes place ds)
    went_on true next h =
        let fs = folders_of (drop (k + 1) path) in
        ap (λ fs. unlisted_at (way ds fs place) ds) (next_folder path k is)
        ∙ ap (λ o. unlisted_at (place ∷ unwrap_or (option_map (way ds fs) o) []) ds)
        (sym (sub_same place ds (take k path) place) ∙ h)
        ∙ one_more place (way ds fs next) ds
        ∙ ap (λ ps. unlisted_at ps (changed_directory invalidated_directory place ds)) (sym (way_same place ds fs next))
    went_on false next h =
        let fs = folders_of (drop (k + 1) path) in
        ap (λ fs. unlisted_at (drop (length fs) (way ds fs place)) ds) (next_folder path k is)
        ∙ ap (λ o. unlisted_at (drop (length fs) (unwrap_or (option_map (way ds fs) o) [])) ds) h

-- ---- what stays true

stays_from : (P : DirectoryValue → Type 0) → ((d : DirectoryValue) → P d → P (invalidated_directory d))
    → (n : ℕ) (places : List ℕ)
    (ds : List DirectoryValue) → AllByRecursion P ds → AllByRecursion P (from n places ds)
stays_from P h n places [] a = tt
stays_from P h n places (d ∷ ds) a = (
  elim (list_any (λ p. eqb p n) places) as (λ b. P (cond b (invalidated_directory d) d)) [
    | true ↦ h d a.0
    | false ↦ a.0
  ],
  stays_from P h (n + 1) places ds a.1,
)

-- what is so of a directory that is valid or not is so of each afterwards
pub stays : (P : DirectoryValue → Type 0) → ((d : DirectoryValue) → P d → P (invalidated_directory d))
    → (places : List ℕ)
    (ds : List DirectoryValue) → AllByRecursion P ds → AllByRecursion P (unlisted_at places ds)
stays P h places ds a = stays_from P h 0 places ds a

-- ids stay those of their kind
pub ids_stay : (kind : Kind) (path : List ℕ) (c : Cache) → CacheIdsAreOf kind c
    → CacheIdsAreOf kind (path_invalidated path c)
ids_stay kind path c h = record {
  info = h.info;
  excludes = h.excludes;
  directories = stays (λ d. IfSome d.exclude (λ id. id_kind id ≡ kind)) (λ d i. i)
      (concerned (tells_directories c.preamble.dir_flags) (folders_of path) (way c.directories (folders_of path) 0))
      c.directories h.directories;
}
