-- Ranges of records, and what they stage.
use Rattle.std.proofs.Common.{◌≡◌, ℕ, ◌+◌, ◌-◌, ◌<◌, ◌≤◌, List, [], ◌∷◌, ◌++◌, All, length, map, take, drop, get_or}
use Rattle.std.proofs.Common.{Option, Some, None, refl, sym, ap, ◌∙◌, take-add, arith}
use Rattle.std.specs.List.{slice_range, HoldsAt, cons_option}
use Rattle.std.specs.Option.{option_to_list}
use Rattle.std.proofs.Math.Seq.{drop-cons}
use Rattle.std.proofs.lemmas.List.{drop-drop, length-map, length-drop, length-take, map-append, take_all}
use Rattle.std.proofs.lemmas.List.Elements.{All-head, All-tail, filter_map-append}
use Rattle.std.proofs.lemmas.List.Prefix.{front_rest}
use Rattle.index_parts.specs.declared.hash.ObjectId.TheVariants as ids
use Rattle.entry_list.specs.Record.{Record}
use Rattle.tree_encode.specs.Staged.{Staged, without_prefix, staged_entry, staged_in}
use Rattle.tree_encode.specs.WritingSteps.{Goes, staged_below}
use Rattle.tree_encode.proofs.Pushes.{under}

-- what a read past the end gives
abbrev pub no_record : Record
no_record = record {
  path = [];
  stat = record {
    mtime = record { secs = 0; nsecs = 0 };
    ctime = record { secs = 0; nsecs = 0 };
    dev = 0;
    ino = 0;
    uid = 0;
    gid = 0;
    size = 0;
  };
  id = ids.Sha1 [];
  flags = 0;
  mode = 0;
}

pub range_parts : {X : Type 0} (xs : List X) (a b c : ℕ) → a ≤ b → b ≤ c
    → slice_range xs a c ≡ slice_range xs a b ++ slice_range xs b c
range_parts xs a b c le more =
    let n : (b - a) + (c - b) ≡ c - a = omega arith in
    let m : a + (b - a) ≡ b = omega arith in
    ap (λ (k : ℕ). take k (drop a xs)) (sym n) ∙ take-add (b - a) (c - b) (drop a xs)
    ∙ ap (λ (l : _). slice_range xs a b ++ take (c - b) l) (drop-drop (b - a) a xs ∙ ap (λ (k : ℕ). drop k xs) m)

pub range_one : {X : Type 0} (xs : List X) (a : ℕ) (d : X) → a < length xs
    → slice_range xs a (a + 1) ≡ get_or xs a d ∷ []
range_one xs a d lt =
    let n : a + 1 - a ≡ 1 = omega arith in
    ap (λ (k : ℕ). take k (drop a xs)) n ∙ ap (take 1) (drop-cons xs a d lt)

pub range_none : {X : Type 0} (xs : List X) (a : ℕ) → slice_range xs a a ≡ []
range_none xs a = let n : a - a ≡ 0 = omega arith in ap (λ (k : ℕ). take k (drop a xs)) n

pub range_whole : {X : Type 0} (xs : List X) → slice_range xs 0 (length xs) ≡ xs
range_whole xs =
    let n : length xs - 0 ≡ length xs = omega arith in
    ap (λ (k : ℕ). take k xs) n ∙ take_all (length xs) xs (omega arith)

-- ---- what they stage

pub below_append : (front : ℕ) (a b : List Record)
    → staged_below front (a ++ b) ≡ staged_below front a ++ staged_below front b
below_append front a b =
    ap (map (without_prefix front)) (filter_map-append staged_entry a b)
    ∙ map-append (without_prefix front) (staged_in a) (staged_in b)

pub below_parts : (front : ℕ) (rs : List Record) (a b c : ℕ) → a ≤ b → b ≤ c → staged_below front (slice_range rs a c)
    ≡ staged_below front (slice_range rs a b) ++ staged_below front (slice_range rs b c)
below_parts front rs a b c le more = ap (staged_below front) (range_parts rs a b c le more)
    ∙ below_append front (slice_range rs a b) (slice_range rs b c)

pub one_of : (r : Record) (x : Option Staged) → x ≡ staged_entry r → staged_in (r ∷ []) ≡ option_to_list x
one_of r x e = by x e
  where
    by : (y : Option Staged) → y ≡ staged_entry r → staged_in (r ∷ []) ≡ option_to_list y
    by None d = rw (sym d) refl
    by (Some s) d = rw (sym d) refl

-- what the record at a place stages
pub staged_at : (rs : List Record) (a : ℕ) (x : Option Staged) → a < length rs → HoldsAt (λ r. x ≡ staged_entry r) rs a
    → staged_in (slice_range rs a (a + 1)) ≡ option_to_list x
staged_at rs a x lt h = ap staged_in (range_one rs a no_record lt) ∙ one_of (get_or rs a no_record) x (h no_record)

pub staged_few : (rs : List Record) → length (staged_in rs) ≤ length rs
staged_few [] = omega arith
staged_few (r ∷ rs) = by (staged_entry r) (staged_few rs)
  where
    by : (x : Option Staged) → length (staged_in rs) ≤ length rs
        → length (cons_option x (staged_in rs)) ≤ length (r ∷ rs)
    by None h = omega (arith, h)
    by (Some s) h = omega (arith, h)

pub below_few : (front : ℕ) (rs : List Record) (a b : ℕ) → b ≤ length rs
    → length (staged_below front (slice_range rs a b)) ≤ b - a
below_few front rs a b within = omega (
  arith,
  within,
  length-map (staged_in (slice_range rs a b)) (without_prefix front),
  staged_few (slice_range rs a b),
  length-take (b - a) (drop a rs),
  length-drop a rs,
)

-- ---- after the front and the first component

pub cut_under : (front : ℕ) (shown : List ℕ) (s : Staged) → Goes front shown s
    → under shown (without_prefix (front + length shown) s) ≡ without_prefix front s
cut_under front shown s g =
    let p = s.path in
    let rest : drop (length shown) (drop front p) ≡ g.0 = front_rest (drop front p) shown g.0 g.1 in
    let same : shown ++ drop (front + length shown) p ≡ drop front p =
    ap (λ (t : List ℕ). shown ++ t) (sym (drop-drop (length shown) front p) ∙ rest) ∙ sym g.1 in
    ap (λ (q : List ℕ). record { path = q; kind = s.kind; id = s.id; later = s.later }) same

pub cut_under_all : (front : ℕ) (shown : List ℕ) (ss : List Staged) → All (Goes front shown) ss
    → map (under shown) (map (without_prefix (front + length shown)) ss) ≡ map (without_prefix front) ss
cut_under_all front shown [] h = refl
cut_under_all front shown (s ∷ ss) h =
    let first : under shown (without_prefix (front + length shown) s) ≡ without_prefix front s =
    cut_under front shown s (All-head (Goes front shown) s ss h) in
    let rest : map (under shown) (map (without_prefix (front + length shown)) ss) ≡ map (without_prefix front) ss =
    cut_under_all front shown ss (All-tail (Goes front shown) s ss h) in
    rw (first, rest) refl
