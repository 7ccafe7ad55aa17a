-- The bytes after the blocks, read piece by piece.
use Rattle.std.proofs.Common.{◌≡◌, ℕ, ◌+◌, ◌*◌, ◌<◌, Bool, true, false, cond, eqb, List, [], ◌∷◌, length, map, Option}
use Rattle.std.proofs.Common.{Some, None, refl, sym, ap, subst, ◌∙◌, arith}
use Rattle.std.specs.List.{AllByRecursion, enumerate_from, list_any}
use Rattle.std.specs.Option.{option_map}
use Rattle.index_parts.specs.Id.{id_len, make_id}
use Rattle.entry_fields.specs.declared.entry.stat.Stat.{Stat}
use Rattle.index_parts.specs.declared.hash.Kind.{Kind}
use Rattle.index_parts.specs.declared.hash.ObjectId.{ObjectId}
use Rattle.ext_untracked.specs.Blocks.{DirectoryValue}
use Rattle.ext_untracked.specs.BitmapSteps.{with_stat, with_exclude, checked, last_at, by_some, by_true, each, IsBare}
use Rattle.ext_untracked.specs.CacheBitmaps.{DirectoryBitmaps, ListsBelow, AreBitmaps, ArePieces, value_at}
use Rattle.ext_untracked.specs.CacheBitmaps.{with_bitmaps, IsTail}
use Rattle.ext_untracked.specs.CachedStat.{cached_stat}
use Rattle.index_extensions.specs.ExtensionValue.{option_or}
use Rattle.ext_bitmap.proofs.Places.{listed_ascend}
use Rattle.ext_bitmap.specs.Ascending.{Ascends}
use Rattle.std.proofs.lemmas.Bool.{eqb-true, ne_eqb}
use Rattle.ext_untracked.proofs.BitmapPlaces.{oks, one_bitmaps}
use Rattle.ext_untracked.proofs.EqualPieces.{pieces_len, one_row_of_pieces}

-- ---- the changes of one directory

check_is : (b : Bool) (d : DirectoryValue) → d.check_only ≡ false → by_true checked b d ≡ record d { check_only = b }
check_is true d e = refl
check_is false d e = ap (λ (b : Bool). record d { check_only = b }) e

stat_is : (s : Option (List ℕ)) (d : DirectoryValue) → d.stat ≡ None
    → by_some with_stat s d ≡ record d { stat = option_map cached_stat s }
stat_is (Some x) d e = refl
stat_is None d e = ap (λ (s : Option Stat). record d { stat = s }) e

exclude_is : (kind : Kind) (o : Option (List ℕ)) (d : DirectoryValue) → d.exclude ≡ None
    → by_some (with_exclude kind) o d ≡ record d { exclude = option_map (make_id kind) o }
exclude_is kind (Some x) d e = refl
exclude_is kind None d e = ap (λ (o : Option ObjectId). record d { exclude = o }) e

all_are : (kind : Kind) (b : Bool) (s o : Option (List ℕ)) (d : DirectoryValue) → IsBare d
    → by_some (with_exclude kind) o (by_some with_stat s (by_true checked b d))
    ≡ record d { stat = option_map cached_stat s; exclude = option_map (make_id kind) o; check_only = b }
all_are kind b s o d u =
    ap (λ (e : DirectoryValue). by_some (with_exclude kind) o (by_some with_stat s e)) (check_is b d u.2)
    ∙ ap (by_some (with_exclude kind) o) (stat_is s (record d { check_only = b }) u.0)
    ∙ exclude_is kind o (record d { stat = option_map cached_stat s; check_only = b }) u.1

-- ---- places ascend, so that the last value of a place is its first

none_above : {A : Type 0} (from place : ℕ) (places : List ℕ) (values : List A) → Ascends from (oks places)
    → place < from → last_at places values place ≡ None
none_above from place [] values up lt = refl
none_above from place (p ∷ places) [] up lt = refl
none_above from place (p ∷ places) (x ∷ values) up lt =
    let other : eqb p place ≡ false = ne_eqb p place (λ e. omega (arith, up.0)) in
    rw (none_above (p + 1) place places values up.1 (omega (arith, up.0)), other) refl

last_by : {A : Type 0} (b : Bool) (x : A) (last first : Option A) → (b ≡ true → last ≡ None) → last ≡ first
    → option_or last (cond b (Some x) None) ≡ cond b (Some x) first
last_by true x last first none same = rw (none refl) refl
last_by false x None first none same = same
last_by false x (Some y) first none same = same

last_is_first : {A : Type 0} (from : ℕ) (places : List ℕ) (values : List A) (place : ℕ) → Ascends from (oks places)
    → last_at places values place ≡ value_at places values place
last_is_first from [] values place up = refl
last_is_first from (p ∷ places) [] place up = refl
last_is_first from (p ∷ places) (x ∷ values) place up =
    last_by (eqb p place) x (last_at places values place) (value_at places values place)
    (λ e. none_above (p + 1) place places values up.1 (omega (arith, eqb-true p place e)))
    (last_is_first (p + 1) places values place up.1)

-- the places of a bitmap ascend
pub list_ascends : (count : ℕ) (bytes ps rest : List ℕ) → ListsBelow count bytes ps rest → Ascends 0 (oks ps)
list_ascends count bytes ps rest h = listed_ascend _ _ h.listed

module _ (kind : Kind) (m : DirectoryBitmaps) (stats ids : List (List ℕ)) (valid_ascend : Ascends 0 (oks m.valid))
    (hash_ascend : Ascends 0 (oks m.hash_valid)) where
  abbrev pub checks : ℕ → DirectoryValue → DirectoryValue
  checks i d = by_true checked (list_any (λ p. eqb p i) m.check_only) d

  abbrev pub gives_stats : ℕ → DirectoryValue → DirectoryValue
  gives_stats i d = by_some with_stat (last_at m.valid stats i) d

  abbrev pub gives_ids : ℕ → DirectoryValue → DirectoryValue
  gives_ids i d = by_some (with_exclude kind) (last_at m.hash_valid ids i) d

  abbrev each_from : (ℕ → DirectoryValue → DirectoryValue) → ℕ → List DirectoryValue → List DirectoryValue
  each_from f n ds = map (λ x. f x.0 x.1) (enumerate_from n ds)

  given_from : (n : ℕ) (ds : List DirectoryValue) → AllByRecursion IsBare ds
      → each_from gives_ids n (each_from gives_stats n (each_from checks n ds))
      ≡ map (λ x. with_bitmaps kind m stats ids x.0 x.1) (enumerate_from n ds)
  given_from n [] u = refl
  given_from n (d ∷ ds) u =
      let first : gives_ids n (gives_stats n (checks n d)) ≡ with_bitmaps kind m stats ids n d =
      all_are kind (list_any (λ p. eqb p n) m.check_only) (last_at m.valid stats n) (last_at m.hash_valid ids n) d u.0
      ∙ rw (last_is_first 0 m.valid stats n valid_ascend, last_is_first 0 m.hash_valid ids n hash_ascend) refl in
      let others = given_from (n + 1) ds u.1 in
      ap (λ (e : DirectoryValue). e
      ∷ each_from gives_ids (n + 1) (each_from gives_stats (n + 1) (each_from checks (n + 1) ds))) first
      ∙ ap (λ (l : List DirectoryValue). with_bitmaps kind m stats ids n d ∷ l) others

  pub marked_all : (ds first second third : List DirectoryValue) → AllByRecursion IsBare ds → first ≡ each checks ds
      → second ≡ each gives_stats first → third ≡ each gives_ids second
      → third ≡ map (λ x. with_bitmaps kind m stats ids x.0 x.1) (enumerate_from 0 ds)
  marked_all ds first second third u e f g = g ∙ ap (each gives_ids) f
      ∙ ap (λ (l : List DirectoryValue). each gives_ids (each gives_stats l)) e ∙ given_from 0 ds u

-- ---- the tail

pub one_byte : (l : List ℕ) → length l ≡ 1 → (x : ℕ) × (l ≡ x ∷ [])
one_byte [] e = absurd (omega arith)
one_byte (x ∷ []) e = (x, refl)
one_byte (x ∷ y ∷ l) e = absurd (omega arith)

module _ (kind : Kind) (bare : List DirectoryValue) (bytes : List ℕ) where
  pub tail_from : (m : DirectoryBitmaps) (behind : List ℕ) (stats : List (List ℕ)) (after : List ℕ)
      (ids : List (List ℕ)) (rest : List ℕ) (directories : List DirectoryValue)
      → AreBitmaps (length bare) bytes m behind → ArePieces 36 (length m.valid) behind stats after
      → ArePieces (id_len kind) (length m.hash_valid) after ids rest
      → length rest ≡ 1 → directories ≡ map (λ x. with_bitmaps kind m stats ids x.0 x.1) (enumerate_from 0 bare)
      → IsTail kind bare bytes directories
  tail_from m behind stats after ids rest directories bitmaps s i one are =
      let last = one_byte rest one in
      record {
        bitmaps = m;
        behind_bitmaps = behind;
        stats = stats;
        behind_stats = after;
        ids = ids;
        last = last.0;
        are_bitmaps = bitmaps;
        are_stats = s;
        are_ids = subst (λ (l : List ℕ). ArePieces (id_len kind) (length m.hash_valid) after ids l) last.1 i;
        directories_are = are;
      }

  -- stats, ids and a byte follow the bitmaps that were read
  pub record HasPieces (m : DirectoryBitmaps) (behind : List ℕ) : Type 0 where
    pub stats : List (List ℕ)
    pub after : List ℕ
    pub ids : List (List ℕ)
    pub last : ℕ
    pub are_stats : ArePieces 36 (length m.valid) behind stats after
    pub are_ids : ArePieces (id_len kind) (length m.hash_valid) after ids (last ∷ [])

  pub pieces_of : (m : DirectoryBitmaps) (behind : List ℕ) (directories : List DirectoryValue)
      → AreBitmaps (length bare) bytes m behind → IsTail kind bare bytes directories → HasPieces m behind
  pieces_of m behind directories bitmaps t =
      let same = one_bitmaps (length bare) bytes t.bitmaps m t.behind_bitmaps behind t.are_bitmaps bitmaps in
      record {
        stats = t.stats;
        after = t.behind_stats;
        ids = t.ids;
        last = t.last;
        are_stats = subst (λ (l : List ℕ). ArePieces 36 (length m.valid) l t.stats t.behind_stats) same.1
            (subst (λ (x : DirectoryBitmaps). ArePieces 36 (length x.valid) t.behind_bitmaps t.stats t.behind_stats)
            same.0 t.are_stats);
        are_ids = subst (λ (x : DirectoryBitmaps). ArePieces (id_len kind) (length x.hash_valid) t.behind_stats t.ids
            (t.last ∷ [])) same.0 t.are_ids;
      }

  pub few_stats : (m : DirectoryBitmaps) (behind : List ℕ) → HasPieces m behind → length behind < 36 * length m.valid
      → ⊥
  few_stats m behind h few = omega (arith, pieces_len 36 (length m.valid) behind h.stats h.after h.are_stats, few)

  after_is : (m : DirectoryBitmaps) (behind : List ℕ) (stats : List (List ℕ)) (after : List ℕ) (h : HasPieces m behind)
      → ArePieces 36 (length m.valid) behind stats after → after ≡ h.after
  after_is m behind stats after h s =
      (one_row_of_pieces 36 (length m.valid) behind stats h.stats after h.after s h.are_stats).1

  pub few_ids : (m : DirectoryBitmaps) (behind : List ℕ) (stats : List (List ℕ)) (after : List ℕ) → HasPieces m behind
      → ArePieces 36 (length m.valid) behind stats after → length after < id_len kind * length m.hash_valid → ⊥
  few_ids m behind stats after h s few =
      omega (
        arith,
        pieces_len (id_len kind) (length m.hash_valid) h.after h.ids (h.last ∷ []) h.are_ids,
        few,
        ap length (after_is m behind stats after h s),
      )

  pub one_left : (m : DirectoryBitmaps) (behind : List ℕ) (stats : List (List ℕ)) (after : List ℕ) (ids : List (List ℕ))
      (rest : List ℕ) → HasPieces m behind → ArePieces 36 (length m.valid) behind stats after
      → ArePieces (id_len kind) (length m.hash_valid) after ids rest → length rest ≡ 1
  one_left m behind stats after ids rest h s i =
      let here : ArePieces (id_len kind) (length m.hash_valid) after h.ids (h.last ∷ []) =
      subst (λ (l : List ℕ). ArePieces (id_len kind) (length m.hash_valid) l h.ids (h.last ∷ []))
      (sym (after_is m behind stats after h s)) h.are_ids in
      omega (
        arith,
        ap length (one_row_of_pieces (id_len kind) (length m.hash_valid) after ids h.ids rest (h.last ∷ []) i here).1,
      )

  -- bytes are one tail
  pub one_tail : (a b : List DirectoryValue) → IsTail kind bare bytes a → IsTail kind bare bytes b → a ≡ b
  one_tail a b p q =
      let same = one_bitmaps
      (length bare) bytes p.bitmaps q.bitmaps p.behind_bitmaps q.behind_bitmaps p.are_bitmaps q.are_bitmaps in
      let valid = length p.bitmaps.valid in
      let behind : ArePieces 36 valid q.behind_bitmaps q.stats q.behind_stats =
      subst (λ (m : DirectoryBitmaps). ArePieces 36 (length m.valid) q.behind_bitmaps q.stats q.behind_stats)
      (sym same.0) q.are_stats in
      let stats = one_row_of_pieces 36 valid p.behind_bitmaps p.stats q.stats p.behind_stats q.behind_stats p.are_stats
      (subst (λ (l : List ℕ). ArePieces 36 valid l q.stats q.behind_stats) (sym same.1) behind) in
      let after : ArePieces (id_len kind) (length p.bitmaps.hash_valid) q.behind_stats q.ids (q.last ∷ []) = subst
      (λ (m : DirectoryBitmaps). ArePieces (id_len kind) (length m.hash_valid) q.behind_stats q.ids (q.last ∷ []))
      (sym same.0) q.are_ids in
      let here : ArePieces (id_len kind) (length p.bitmaps.hash_valid) p.behind_stats q.ids (q.last ∷ []) =
      subst (λ (l : List ℕ). ArePieces (id_len kind) (length p.bitmaps.hash_valid) l q.ids (q.last ∷ []))
      (sym stats.1) after in
      let ids = one_row_of_pieces (id_len kind) (length p.bitmaps.hash_valid) p.behind_stats p.ids q.ids (p.last ∷ [])
      (q.last ∷ []) p.are_ids here in
      let by : DirectoryBitmaps → List (List ℕ) → List (List ℕ) → List DirectoryValue =
      λ m s i. map (λ x. with_bitmaps kind m s i x.0 x.1) (enumerate_from 0 bare) in
      p.directories_are ∙ ap (λ (m : DirectoryBitmaps). by m p.stats p.ids) same.0
      ∙ ap (λ (s : List (List ℕ)). by q.bitmaps s p.ids) stats.0 ∙ ap (by q.bitmaps q.stats) ids.0
      ∙ sym q.directories_are
