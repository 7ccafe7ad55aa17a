-- Entries whose bits are set: those that changes stage, and those that were at the given indexes.
use Rattle.std.proofs.Common.{◌≡◌, ℕ, zero, suc, ◌+◌, ◌-◌, ◌<◌, ◌≤◌, ◌^◌, nat_le, nat_lt, Bool, true, false, ◌||◌, ◌&&◌, List, [], ◌∷◌, ◌++◌, Some, None, Result, Ok, Err, length, map, take, drop, replicate, get_or, refl, sym, ap, ◌∙◌, arith}
use Rattle.std.specs.List.{list_any}
use Rattle.std.specs.Prelude.{slice_set}
use Rattle.std.proofs.lemmas.Bool.Decides.{nat_tests}
use Rattle.std.proofs.lemmas.List.{get_or_default}
use Rattle.std.proofs.Math.Seq.{take-append_seam}
use Rattle.std.proofs.lemmas.List.Folds.{list_any_more}
use Rattle.ext_bitmap.specs.EncodedBitmap.{encoded}
use Rattle.ext_bitmap.proofs.Places.{lists_unpacked, one_listing}
use Rattle.ext_bitmap.specs.Bitmap.{Bitmap}
use Rattle.ext_bitmap.specs.Bits.{ListPlaces}
use Rattle.ext_bitmap.specs.Ranges.{set_places}
use Rattle.ext_bitmap.specs.declared.ewah.iter.Malformed.{Malformed}
use Rattle.entry_edit.proofs.Ways.{key_from, key_to, none_has}
use Rattle.entry_edit.specs.declared.change.Change.{Change}
use Rattle.entry_list.specs.Order.{IsStrictlyOrdered, record_stage}
use Rattle.entry_list.specs.Record.{Record}
use Rattle.ext_encode.specs.MonitorPlaces.{are_below, monitor_is_within}
use Rattle.entry_lookup.proofs.Lookup.{key_place}
use Rattle.entry_lookup.specs.Lookup.{HasKey, IsKeyAt, has_key, record_index}
use Rattle.index_edit.specs.Dirty.{dirty_after, is_at_place, is_dirty, is_replaced, leads_with}
use Rattle.index_edit.specs.DirtySteps.{either}
use Rattle.index_edit.proofs.Eithers.{either_assoc, either_clear, either_map, either_none, either_set, map_same}
use Rattle.ext_small.specs.FsMonitor.{Monitor}

-- ---- the entry of a path and a stage

same_place : (i k : ℕ) → Some k ≡ Some i → k ≡ i
same_place i k e = cc

pub set_key : (path : List ℕ) (stage : ℕ) (rs : List Record) (bits : List Bool) (i : ℕ) → length bits ≡ length rs
    → IsStrictlyOrdered rs → IsKeyAt path stage rs i
    → slice_set bits i true ≡ either bits (map (has_key path stage) rs)
set_key path stage rs bits i e o h =
    either_set (has_key path stage) rs bits i e h.in_range (λ d. key_to path stage (get_or rs i d) (h.here d))
    (λ k d within t.
    let here : (z : Record) → HasKey path stage (get_or rs k z) =
    λ z. key_from path stage (get_or rs k z) (rw (get_or_default rs k z d within) t) in
    let there = key_place path stage rs k o (record { in_range = within; here = here }) in
    same_place i k (sym there ∙ key_place path stage rs i o h))

pub no_key : (path : List ℕ) (stage : ℕ) (rs : List Record) (bits : List Bool) → length bits ≡ length rs
    → None ≡ record_index path stage rs → IsStrictlyOrdered rs → bits ≡ either bits (map (has_key path stage) rs)
no_key path stage rs bits e h o =
    sym (either_none (has_key path stage) rs bits e (none_has path stage rs None refl h o))

-- ---- changes

pub none_staged : (c : Change) (rs : List Record) (bits : List Bool) → length bits ≡ length rs
    → ((r : Record) → is_replaced c r ≡ false) → bits ≡ either bits (map (is_replaced c) rs)
none_staged c rs bits e h = sym (either_none (is_replaced c) rs bits e (λ k d within. h (get_or rs k d)))

pub none_yet : (cs : List Change) (rs : List Record) (bits : List Bool) → length bits ≡ length rs
    → bits ≡ either bits (map (λ r. list_any (λ c. is_replaced c r) (take 0 cs)) rs)
none_yet cs rs bits e =
    sym (either_none (λ r. list_any (λ c. is_replaced c r) (take 0 cs)) rs bits e (λ k d within. refl))

pub one_more : (cs : List Change) (i : ℕ) (d : Change) (rs : List Record) (first bits now : List Bool) → i < length cs
    → bits ≡ either first (map (λ r. list_any (λ c. is_replaced c r) (take i cs)) rs)
    → now ≡ either bits (map (is_replaced (get_or cs i d)) rs)
    → now ≡ either first (map (λ r. list_any (λ c. is_replaced c r) (take (i + 1) cs)) rs)
one_more cs i d rs first bits now lt so_far e =
    let before : Record → Bool = λ r. list_any (λ c. is_replaced c r) (take i cs) in
    let after : Record → Bool = λ r. list_any (λ c. is_replaced c r) (take (i + 1) cs) in
    let this : Record → Bool = is_replaced (get_or cs i d) in
    e ∙ ap (λ l. either l (map this rs)) so_far ∙ either_assoc first (map before rs) (map this rs)
    ∙ ap (either first) (either_map before this rs
    ∙ map_same (λ r. before r || this r) after rs (λ r. sym (list_any_more (λ c. is_replaced c r) cs i d lt)))

-- ---- places

pub listed : (b : Bitmap) (items : List (Result ℕ Malformed)) → ListPlaces items b.words → items ≡ set_places b
unfolding set_places
listed b items h = one_listing b.words items _ h (lists_unpacked _ b.words refl)

pub broken : {E : Type 0} (limit : ℕ) (fault : E) (items rest : List (Result ℕ E)) → items ≡ Err fault ∷ rest
    → are_below limit items ≡ true → ⊥
unfolding are_below
broken limit fault items rest e h = let bad : false ≡ true = sym (rw e refl) ∙ h in cc

pub past : {E : Type 0} (limit place : ℕ) (items rest : List (Result ℕ E)) → items ≡ Ok place ∷ rest → limit ≤ place
    → are_below limit items ≡ true → ⊥
unfolding are_below
past limit place items rest e le h =
    let t : nat_lt place limit ≡ false = grind (arith, nat_tests) in
    let f : are_below limit items ≡ false = rw (e, t) refl in
    let bad : false ≡ true = sym f ∙ h in
    cc

pub taken : {E : Type 0} (limit place : ℕ) (items rest : List (Result ℕ E)) → items ≡ Ok place ∷ rest → place < limit
    → are_below limit items ≡ true → are_below limit rest ≡ true
unfolding are_below
taken limit place items rest e lt h =
    let t : nat_lt place limit ≡ true = grind (arith, nat_tests) in
    let f : are_below limit items ≡ are_below limit rest = rw (e, t) refl in
    sym f ∙ h

key_at : (old : List Record) (place : ℕ) (path : List ℕ) (stage : ℕ) → place < length old
    → ((d : Record) → (get_or old place d).path ≡ path) → ((d : Record) → record_stage (get_or old place d) ≡ stage)
    → (r : Record) → leads_with r (drop place old) ≡ has_key path stage r
key_at [] place path stage lt p s r = absurd (omega (arith, lt))
key_at (q ∷ qs) zero path stage lt p s r = ap (λ l. has_key l (record_stage q) r) (p q) ∙ ap (λ n. has_key path n r) (s q)
key_at (q ∷ qs) (suc place) path stage lt p s r = key_at qs place path stage (omega (arith, lt)) p s r

pub one_placed : (old rs : List Record) (place : ℕ) (path : List ℕ) (stage : ℕ) (items rest : List (Result ℕ Malformed))
    (target bits now : List Bool) → place < length old
    → ((d : Record) → (get_or old place d).path ≡ path) → ((d : Record) → record_stage (get_or old place d) ≡ stage)
    → items ≡ Ok place ∷ rest → now ≡ either bits (map (has_key path stage) rs)
    → either bits (map (λ r. list_any (is_at_place old r) items) rs) ≡ target
    → either now (map (λ r. list_any (is_at_place old r) rest) rs) ≡ target
one_placed old rs place path stage items rest target bits now lt p s e n h =
    let left : Record → Bool = λ r. list_any (is_at_place old r) rest in
    let all : Record → Bool = λ r. list_any (is_at_place old r) items in
    let this : Record → Bool = has_key path stage in
    let same : (r : Record) → (this r || left r) ≡ all r = λ r.
    ap (λ b. b || left r) (sym (key_at old place path stage lt p s r))
    ∙ ap (list_any (is_at_place old r)) (sym e) in
    ap (λ l. either l (map left rs)) n ∙ either_assoc bits (map this rs) (map left rs)
    ∙ ap (either bits) (either_map this left rs ∙ map_same (λ r. this r || left r) all rs same) ∙ h

pub none_left : (old rs : List Record) (items : List (Result ℕ Malformed)) (bits target : List Bool)
    → length bits ≡ length rs → items ≡ []
    → either bits (map (λ r. list_any (is_at_place old r) items) rs) ≡ target → bits ≡ target
none_left old rs items bits target e none h =
    sym (either_none (λ r. list_any (is_at_place old r) items) rs bits e
    (λ k d within. ap (list_any (is_at_place old (get_or rs k d))) none)) ∙ h

-- ---- all of them

pub cleared : (n count : ℕ) (first clear : List Bool) → first ≡ [] → count ≡ 0
    → clear ≡ take n first ++ replicate (n - count) false → clear ≡ replicate n false
cleared n count first clear none zero_is e =
    let all : n - count ≡ n = omega (arith, zero_is) in
    e ∙ ap (λ l. take n l ++ replicate (n - count) false) none ∙ ap (λ k. take n [] ++ replicate k false) all
    ∙ nothing n
  where
    nothing : (k : ℕ) → (take k [] ++ replicate n false) ≡ replicate n false
    nothing zero = refl
    nothing (suc k) = refl

pub both_marked : (cs : List Change) (old rs : List Record) (places : List (Result ℕ Malformed))
    (clear marked bits : List Bool) → marked ≡ either clear (map (λ r. list_any (is_at_place old r) places) rs)
    → bits ≡ either marked (map (λ r. list_any (λ c. is_replaced c r) cs) rs)
    → bits ≡ either clear (map (is_dirty cs old places) rs)
both_marked cs old rs places clear marked bits first staged =
    let at : Record → Bool = λ r. list_any (is_at_place old r) places in
    let by : Record → Bool = λ r. list_any (λ c. is_replaced c r) cs in
    staged ∙ ap (λ l. either l (map by rs)) first ∙ either_assoc clear (map at rs) (map by rs)
    ∙ ap (either clear) (either_map at by rs)

-- what is written through a loan of all bits
written_back : (bits items : List Bool) → length bits ≡ length items → take (length items) (bits ++ drop (length bits) items)
    ≡ bits
written_back bits items e =
    ap (λ n. take n (bits ++ drop (length bits) items)) (sym e) ∙ take-append_seam bits (drop (length bits) items)

pub all_dirty : (cs : List Change) (old rs : List Record) (m : Monitor) (made : Bitmap) (n : ℕ) (clear bits back : List Bool)
    → monitor_is_within (length old) m ≡ true → length rs < 2 ^ 32 → clear ≡ replicate (length rs) false
    → length bits ≡ length clear → n ≡ length clear
    → (are_below (length old) (set_places m.dirty) ≡ true
    → bits ≡ either clear (map (is_dirty cs old (set_places m.dirty)) rs))
    → back ≡ take n (bits ++ drop (length bits) clear) → made ≡ encoded back → Some made ≡ dirty_after cs old rs m
all_dirty cs old rs m made n clear bits back within few none len whole marked wrote e =
    let t : nat_lt (length rs) (2 ^ 32) ≡ true = grind (arith, nat_tests) in
    let dirty : Record → Bool = is_dirty cs old (set_places m.dirty) in
    let below : are_below (length old) (set_places m.dirty) ≡ true =
    second (nat_le m.dirty.num_bits (length old)) (are_below (length old) (set_places m.dirty)) within in
    let same : back ≡ bits =
    wrote ∙ ap (λ k. take k (bits ++ drop (length bits) clear)) whole ∙ written_back bits clear len in
    let all : back ≡ map dirty rs =
    same ∙ marked below ∙ ap (λ l. either l (map dirty rs)) none ∙ either_clear dirty rs in
    ap Some (e ∙ ap encoded all) ∙ rw (within, t) refl
  where
    second : (a b : Bool) → (a && b) ≡ true → b ≡ true
    second true b h = h
    second false b h = cc
