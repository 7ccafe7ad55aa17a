-- When no file is at a directory of a path.
use Rattle.std.proofs.Common.{◌≡◌, ℕ, ◌<◌, ◌≤◌, ◌⊎◌, inl, inr, Bool, true, false, ◌&&◌, ◌||◌, ◌==◌, List, [], ◌∷◌, ◌++◌}
use Rattle.std.proofs.Common.{length, get_or, take, All, Result, refl, sym, ap, ◌∙◌, subst, arith, length-take}
use Rattle.std.proofs.lemmas.List.{get_or-take, take-take}
use Rattle.std.proofs.lemmas.List.Elements.{All-weaker}
use Rattle.std.proofs.lemmas.Bool.{cases_lt}
use Rattle.std.specs.List.{starts_with}
use Rattle.std.specs.Prelude.{nat_eq}
use Rattle.std.proofs.lemmas.Result.{IfOk-weaker}
use Rattle.entry_fields.specs.Flags.{stage_number}
use Rattle.entry_list.specs.Order.{record_stage}
use Rattle.entry_list.specs.declared.Pathless.{Pathless}
use Rattle.entry_list.specs.Record.{Record, records_in, with_path}
use Rattle.entry_list.specs.Shared.{shared_len}
use Rattle.entry_list.proofs.SharedFronts.{shared_front}
use Rattle.entry_lookup.specs.Closest.{is_below}
use Rattle.entry_lookup.specs.Lookup.{has_key}
use Rattle.entry_lookup.proofs.TableMade.{and_both, and_to, begins_at, begins_to}
use Rattle.entry_edit.specs.Changes.{applied_one}
use Rattle.entry_edit.specs.ClearSteps.{IsClearAfter, IsClearFor, SettlesClear}
use Rattle.entry_edit.specs.Edits.{IsStagedInto, have_df_conflict, staged}
use Rattle.entry_edit.specs.EntryEdits.{ChangesPlaced, Entries, SettlesEntry, Storage}
use Rattle.entry_edit.specs.declared.stage.Displaced.{Displaced}
use Rattle.entry_edit.specs.EditSteps.{IsClear, IsClearUpto, stands_above}
use Rattle.entry_edit.specs.declared.change.Change.{Change}
use Rattle.entry_edit.specs.declared.change.Change.TheVariants.{Stage, Unstage}
use Rattle.entry_edit.proofs.Displacings.{own_odds, same_number, stays_apart}
use Rattle.entry_edit.proofs.Resolvings.{on_ok}
use Rattle.entry_edit.proofs.Stagings.{All-front, IsFrom, staged_each}
use Rattle.entry_edit.proofs.Ways.{key_to}

false_from : (b : Bool) → (b ≡ true → ⊥) → b ≡ false
false_from true h = absurd (h refl)
false_from false h = refl

-- ---- fronts of a path

-- a record at a directory of a prefix of the path is at one of the path
pub above_wider : (n : ℕ) (path : List ℕ) (stage : ℕ) (r : Record) → stands_above (take n path) stage r ≡ true
    → stands_above path stage r ≡ true
above_wider n path stage r t =
    let both = and_both (record_stage r == stage) (starts_with nat_eq (take n path) (r.path ++ 47 ∷ [])) t in
    let at = begins_at r.path (take n path) 47 both.1 in
    let m : length r.path < n = omega (arith, at.0, length-take n path) in
    let inside : length r.path < length path = omega (arith, at.0, length-take n path) in
    let slash : get_or path (length r.path) 0 ≡ 47 = sym (get_or-take n path (length r.path) 0 m) ∙ at.1 in
    let same : take (length r.path) path ≡ r.path =
    sym (take-take (length r.path) n path (omega arith)) ∙ at.2 in
    and_to (record_stage r == stage) (starts_with nat_eq path (r.path ++ 47 ∷ [])) both.0
    (ap (λ f. starts_with nat_eq path (f ++ 47 ∷ [])) (sym same) ∙ begins_to path (length r.path) 47 inside slash)

-- a record at a directory of the path is at one of a prefix, if the directory ends in the prefix
pub above_within : (n : ℕ) (path : List ℕ) (stage : ℕ) (r : Record) → length r.path < n
    → stands_above path stage r ≡ true → stands_above (take n path) stage r ≡ true
above_within n path stage r m t =
    let both = and_both (record_stage r == stage) (starts_with nat_eq path (r.path ++ 47 ∷ [])) t in
    let at = begins_at r.path path 47 both.1 in
    let inside : length r.path < length (take n path) = omega (arith, at.0, length-take n path) in
    let slash : get_or (take n path) (length r.path) 0 ≡ 47 = get_or-take n path (length r.path) 0 m ∙ at.1 in
    let same : take (length r.path) (take n path) ≡ r.path =
    take-take (length r.path) n path (omega arith) ∙ at.2 in
    and_to (record_stage r == stage) (starts_with nat_eq (take n path) (r.path ++ 47 ∷ [])) both.0
    (ap (λ f. starts_with nat_eq (take n path) (f ++ 47 ∷ [])) (sym same)
    ∙ begins_to (take n path) (length r.path) 47 inside slash)

never : (b : Bool) → b ≡ true → b ≡ false → ⊥
never b t f = let both : true ≡ false = sym t ∙ f in cc

-- If a prefix is clear, and none is at a directory that ends after it and before an index, a record at a directory of
-- the path ends at that index or after it.
pub ends_behind : (path : List ℕ) (stage : ℕ) (rs : List Record) (known at : ℕ) → IsClear (take known path) stage rs
    → ((k : ℕ) → known ≤ k → k < at → get_or path k 0 ≡ 47
    → All (λ r. has_key (take k path) stage r ≡ false) rs)
    → (k : ℕ) (d : Record) → k < length rs → stands_above path stage (get_or rs k d) ≡ true
    → at ≤ length (get_or rs k d).path
ends_behind path stage rs known at clear h k d within t =
    by (cases_lt (length r.path) at) (cases_lt (length r.path) known)
  where
    r : Record
    r = get_or rs k d

    told : ((record_stage r == stage) ≡ true) × (starts_with nat_eq path (r.path ++ 47 ∷ []) ≡ true)
    told = and_both (record_stage r == stage) (starts_with nat_eq path (r.path ++ 47 ∷ [])) t

    by : (length r.path < at) ⊎ (at ≤ length r.path) → (length r.path < known) ⊎ (known ≤ length r.path)
        → at ≤ length r.path
    by (inr e) q = e
    by (inl e) (inl l) = absurd (never (stands_above (take known path) stage r) (above_within known path stage r l t)
        (clear k d within))
    by (inl e) (inr g) =
        let at = begins_at r.path path 47 told.1 in
        absurd (never (has_key (take (length r.path) path) stage r)
        (key_to (take (length r.path) path) stage r
        (record { path_is = sym at.2; stage_is = same_number (record_stage r) stage told.0 }))
        (h (length r.path) g e at.1 k d within))

-- if that index is the end of the path, no record is at a directory of the path
pub none_above : (path : List ℕ) (stage : ℕ) (rs : List Record) (known : ℕ) → IsClear (take known path) stage rs
    → ((k : ℕ) → known ≤ k → k < length path → get_or path k 0 ≡ 47
    → All (λ r. has_key (take k path) stage r ≡ false) rs)
    → IsClear path stage rs
none_above path stage rs known clear h k d within = false_from (stands_above path stage (get_or rs k d)) (λ t.
    let r = get_or rs k d in
    let behind = ends_behind path stage rs known (length path) clear h k d within t in
    let both = and_both (record_stage r == stage) (starts_with nat_eq path (r.path ++ 47 ∷ [])) t in
    let at = begins_at r.path path 47 both.1 in
    omega (arith, at.0, behind))

-- a front of a path that is clear is so too
pub clear_front : (n : ℕ) (path : List ℕ) (stage : ℕ) (rs : List Record) → IsClear path stage rs
    → IsClear (take n path) stage rs
clear_front n path stage rs h = All-weaker (λ r. stands_above path stage r ≡ false)
    (λ r. stands_above (take n path) stage r ≡ false)
    (λ r e. false_from (stands_above (take n path) stage r) (λ t.
    let both : true ≡ false = sym (above_wider n path stage r t) ∙ e in cc)) rs h

-- what both paths begin with
pub clear_shared : (front path : List ℕ) (last stage : ℕ) (rs : List Record) (n : ℕ) → n ≡ shared_len front path
    → last ≡ stage → IsClear front last rs → IsClear (take n path) stage rs
clear_shared front path last stage rs n e same h =
    let t : take n front ≡ take n path =
    ap (λ k. take k front) e ∙ shared_front front path ∙ ap (λ k. take k path) (sym e) in
    subst (λ p. IsClear p stage rs) t (clear_front n front stage rs (subst (λ m. IsClear front m rs) same h))

-- no folder is needed for no byte
pub clear_none : (stage : ℕ) (rs : List Record) → IsClear [] stage rs
clear_none stage rs k d within = false_from (stands_above [] stage (get_or rs k d)) (λ t.
    let r = get_or rs k d in
    let both = and_both (record_stage r == stage) (starts_with nat_eq [] (r.path ++ 47 ∷ [])) t in
    let at = begins_at r.path [] 47 both.1 in
    omega (arith, at.0))

-- ---- what is so once an entry is staged

above_part : (s a b : Bool) → (s && (a || b)) ≡ false → (s && b) ≡ false
above_part true true b h = cc
above_part true false b h = h
above_part false a b h = refl

clear_of : (new r : Record) → have_df_conflict new r ≡ false → stands_above new.path (record_stage new) r ≡ false
clear_of new r h = above_part (record_stage r == record_stage new) (is_below new.path r) (is_below r.path new) h

pub clear_staged : (new : Record) (rs : List Record) → IsClear new.path (record_stage new) (staged new rs)
clear_staged new rs = All-weaker (IsFrom new rs) (λ r. stands_above new.path (record_stage new) r ≡ false) by
    (staged new rs) (staged_each new rs)
  where
    by : (r : Record) → IsFrom new rs r → stands_above new.path (record_stage new) r ≡ false
    by r (inl e) = ap (stands_above new.path (record_stage new)) e ∙ clear_of new new (own_odds new)
    by r (inr e) = clear_of new r (stays_apart new r e.1)

pub clear_applied : (c : Change) (rs : List Record) → IsClearAfter c (applied_one c rs)
clear_applied (Stage entry path) rs = clear_staged (with_path path.now entry) rs
clear_applied (Unstage path) rs = tt

-- ---- a change

pub clear_split : (known : ℕ) (c : Change) (xs ys : List Record) → IsClearFor known c (xs ++ ys) → IsClearFor known c xs
clear_split known (Stage entry path) xs ys h =
    All-front (λ r. stands_above (take known path.now) (stage_number entry.flags.0) r ≡ false) xs ys h
clear_split known (Unstage path) xs ys h = tt

pub clear_unknown : (c : Change) (rs : List Record) → IsClearFor 0 c rs
clear_unknown (Stage entry path) rs = clear_none (stage_number entry.flags.0) rs
clear_unknown (Unstage path) rs = tt

-- ---- a path of which nothing is known

pub settled_whole : {E : Type 0} (entry : Pathless) (path : List ℕ) (s : Storage) (es : Entries) (t : Storage)
    (ds : Entries) (r : Result Displaced E) → SettlesClear 0 entry path s es t ds r
    → SettlesEntry entry path s es t ds r
settled_whole entry path s es t ds r h =
    let stage = stage_number entry.flags.0 in
    let old = records_in s.items es.items in
    let new = with_path path entry in
    record {
      staged = record {
        made = on_ok r
            (ChangesPlaced (λ old now. IsClearUpto 0 path entry old → IsStagedInto new old now) s.items es.items t.items
            ds.items) (ChangesPlaced (IsStagedInto new) s.items es.items t.items ds.items)
            (λ m placed o. m placed o (clear_none stage old)) h.staged.made;
        placed = h.staged.placed;
        storage = h.staged.storage;
        err_entries = h.staged.err_entries;
        err_storage = h.staged.err_storage;
      };
      told = IfOk-weaker r _ _ (λ d m. m (clear_none stage old)) h.told;
    }
