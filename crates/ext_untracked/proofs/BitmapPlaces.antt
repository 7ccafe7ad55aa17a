-- The places of a bitmap over directories, and that bytes are three such bitmaps in one way.
use Rattle.std.proofs.Common.{◌≡◌, ℕ, ◌<◌, ◌≤◌, List, [], ◌∷◌, ◌++◌, map, All, Result, Ok, Err, refl, sym, ap, subst}
use Rattle.std.proofs.Common.{◌∙◌}
use Rattle.std.proofs.lemmas.List.Elements.{All-head, All-tail}
use Rattle.ext_bitmap.specs.Bitmap.{Bitmap, IsBitmap, BitmapCause}
use Rattle.ext_bitmap.specs.Bits.{ListPlaces}
use Rattle.ext_bitmap.specs.declared.ewah.reading.Error.{Error}
use Rattle.ext_bitmap.specs.declared.ewah.reading.Error.TheVariants as errors
use Rattle.ext_bitmap.specs.declared.ewah.iter.Malformed.{Malformed}
use Rattle.ext_bitmap.proofs.BitmapFaults.{no_fault}
use Rattle.ext_bitmap.proofs.Bitmaps.{one_bitmap}
use Rattle.ext_bitmap.proofs.Places.{one_listing}
use Rattle.ext_untracked.specs.CacheBitmaps.{DirectoryBitmaps, ListsBelow, AreBitmaps}

abbrev pub oks : List ℕ → List (Result ℕ Malformed)
oks places = map Ok places

pub no_err : (xs ys : List ℕ) (fault : Malformed) (rest : List (Result ℕ Malformed))
    → oks xs ≡ oks ys ++ Err fault ∷ rest → ⊥
no_err [] [] fault rest e = absurd cc
no_err [] (y ∷ ys) fault rest e = absurd cc
no_err (x ∷ xs) [] fault rest e = absurd cc
no_err (x ∷ xs) (y ∷ ys) fault rest e =
    no_err xs ys fault rest (let tail : oks xs ≡ oks ys ++ Err fault ∷ rest = cc in tail)

pub place_below : (count : ℕ) (xs ys : List ℕ) (place : ℕ) (rest : List (Result ℕ Malformed))
    → oks xs ≡ oks ys ++ Ok place ∷ rest → All (λ x. x < count) xs → place < count
place_below count [] [] place rest e h = absurd cc
place_below count [] (y ∷ ys) place rest e h = absurd cc
place_below count (x ∷ xs) [] place rest e h =
    let is : x ≡ place = cc in
    subst (λ (n : ℕ). n < count) is (All-head (λ n. n < count) x xs h)
place_below count (x ∷ xs) (y ∷ ys) place rest e h = place_below count xs ys place rest
    (let tail : oks xs ≡ oks ys ++ Ok place ∷ rest = cc in tail) (All-tail (λ n. n < count) x xs h)

same_oks : (xs ys : List ℕ) → oks xs ≡ oks ys → xs ≡ ys
same_oks [] [] e = refl
same_oks [] (y ∷ ys) e = absurd cc
same_oks (x ∷ xs) [] e = absurd cc
same_oks (x ∷ xs) (y ∷ ys) e =
    let head : x ≡ y = cc in
    let tail : oks xs ≡ oks ys = cc in
    rw (head, same_oks xs ys tail) refl

-- an error other than out of memory implies that there is no bitmap
pub none_by : (e : Error) (bytes : List ℕ) → BitmapCause e bytes → (e ≡ errors.Memory → ⊥)
    → (b : Bitmap) (rest : List ℕ) → IsBitmap bytes b rest → ⊥
none_by errors.NumBits bytes h other b rest p =
    no_fault bytes errors.NumBits (record { value = b; rest = rest; is_bitmap = p }) h
none_by errors.Length bytes h other b rest p =
    no_fault bytes errors.Length (record { value = b; rest = rest; is_bitmap = p }) h
none_by errors.Words bytes h other b rest p =
    no_fault bytes errors.Words (record { value = b; rest = rest; is_bitmap = p }) h
none_by errors.LastRun bytes h other b rest p =
    no_fault bytes errors.LastRun (record { value = b; rest = rest; is_bitmap = p }) h
none_by errors.Memory bytes h other b rest p = other refl

pub one_list : (count : ℕ) (bytes a b x y : List ℕ) → ListsBelow count bytes a x → ListsBelow count bytes b y
    → (a ≡ b) × (x ≡ y)
one_list count bytes a b x y p q =
    let same = one_bitmap bytes p.bitmap q.bitmap x y p.is_bitmap q.is_bitmap in
    let listed : ListPlaces (oks b) p.bitmap.words =
    subst (λ (m : Bitmap). ListPlaces (oks b) m.words) (sym same.0) q.listed in
    (same_oks a b (one_listing p.bitmap.words (oks a) (oks b) p.listed listed), same.1)

pub one_bitmaps : (count : ℕ) (bytes : List ℕ) (m n : DirectoryBitmaps) (x y : List ℕ) → AreBitmaps count bytes m x
    → AreBitmaps count bytes n y → (m ≡ n) × (x ≡ y)
one_bitmaps count bytes m n x y p q =
    let valid = one_list count bytes m.valid n.valid p.behind_valid q.behind_valid p.is_valid q.is_valid in
    let second : ListsBelow count p.behind_valid n.check_only q.behind_check_only =
    subst (λ (l : List ℕ). ListsBelow count l n.check_only q.behind_check_only) (sym valid.1) q.is_check_only in
    let check = one_list count p.behind_valid m.check_only n.check_only p.behind_check_only q.behind_check_only
    p.is_check_only second in
    let third : ListsBelow count p.behind_check_only n.hash_valid y =
    subst (λ (l : List ℕ). ListsBelow count l n.hash_valid y) (sym check.1) q.is_hash_valid in
    let hash = one_list count p.behind_check_only m.hash_valid n.hash_valid x y p.is_hash_valid third in
    let valid_is : m.valid ≡ n.valid = valid.0 in
    let check_is : m.check_only ≡ n.check_only = check.0 in
    let hash_is : m.hash_valid ≡ n.hash_valid = hash.0 in
    let with_valid : List ℕ → DirectoryBitmaps =
    λ l. record { valid = l; check_only = m.check_only; hash_valid = m.hash_valid } in
    let with_check : List ℕ → DirectoryBitmaps =
    λ l. record { valid = n.valid; check_only = l; hash_valid = m.hash_valid } in
    let with_hash : List ℕ → DirectoryBitmaps =
    λ l. record { valid = n.valid; check_only = n.check_only; hash_valid = l } in
    (ap with_valid valid_is ∙ ap with_check check_is ∙ ap with_hash hash_is, hash.1)

-- what a list of positions implies about the bitmap that was read
pub record Lists (count : ℕ) (b : Bitmap) (places : List ℕ) : Type 0 where
  pub few : b.num_bits ≤ count
  pub listed : ListPlaces (oks places) b.words
  pub below : All (λ place. place < count) places

pub bitmap_is : (count : ℕ) (bytes : List ℕ) (b : Bitmap) (x places rest : List ℕ) → IsBitmap bytes b x
    → ListsBelow count bytes places rest → Lists count b places
bitmap_is count bytes b x places rest h p =
    let same = one_bitmap bytes p.bitmap b rest x p.is_bitmap h in
    subst (λ (m : Bitmap). Lists count m places) same.0 (record { few = p.few; listed = p.listed; below = p.below })
