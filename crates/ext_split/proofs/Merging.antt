-- The steps of a merge: one more position, one more entry, and all of them together.
use Rattle.std.proofs.Common.{◌≡◌, ◌≢◌, ℕ, zero, suc, ◌+◌, ◌<◌, ◌≤◌, ◌⊎◌, inl, inr, Bool, true, false, cond, not, ◌||◌}
use Rattle.std.proofs.Common.{eqb, nat_le, List, [], ◌∷◌, ◌++◌, length, All, get_or, set, take, drop, Option, Some}
use Rattle.std.proofs.Common.{None, Result, Ok, Err, refl, sym, ap, subst, ◌∙◌, arith, eq-eqb}
use Rattle.std.specs.Prelude.{slice_get, bit_or, codes}
use Rattle.std.specs.List.{position_from, list_any, filter}
use Rattle.std.specs.List.Sorted.{IsPermutation, IsSorted, IsStable}
use Rattle.entry_list.specs.Order.{record_cmp}
use Rattle.std.proofs.lemmas.Bool.{ne_eqb, cases_eq}
use Rattle.std.proofs.lemmas.Bool.Decides.{nat_tests}
use Rattle.std.proofs.lemmas.List.{get_or-set_same, get_or-set_other, get_or_default, length-append, length-set}
use Rattle.std.proofs.lemmas.List.{length-map, take_more, map-append, append_assoc}
use Rattle.std.proofs.lemmas.Option.{slice_get-map, slice_get-get_or, slice_get_past}
use Rattle.std.proofs.lemmas.Nat.{and_or_self}
use Rattle.std.proofs.lemmas.List.Folds.{list_any-append}
use Rattle.ext_bitmap.specs.Ascending.{Ascends}
use Rattle.ext_bitmap.specs.Bits.{ListPlaces}
use Rattle.ext_bitmap.specs.declared.ewah.iter.Malformed.{Malformed}
use Rattle.ext_bitmap.specs.Bits.{places}
use Rattle.ext_bitmap.specs.UnpackingSteps.{unpacked}
use Rattle.ext_bitmap.proofs.Unpackings.{stand_for_unpacked}
use Rattle.entry_list.specs.declared.Entry.{Entry}
use Rattle.ext_split.specs.declared.merge.Error.{Error}
use Rattle.ext_split.specs.declared.merge.Error.TheVariants as errors
use Rattle.ext_split.specs.MergeSteps.{changed_at, IsRemovedAt, AreRemovedAt, RemovesAt, IsDeleteFault}
use Rattle.ext_split.specs.MergeSteps.{ReplacesEntries, IsReplaceFault, Keeps, MergeCause}
use Rattle.ext_split.proofs.MergeLoops.{IsMarking, IsReplacing}
use Rattle.entry_list.specs.EntryImage.{is_removed}
use Rattle.ext_split.specs.Merge.{listed_places, replaced, candidates_from, candidates, retained_from}
use Rattle.ext_split.specs.Merge.{replaced_record_fault}
use Rattle.ext_split.specs.Merge.{place_fault, replace_fault, delete_fault, IsMerge, IsMergeFault}
use Rattle.entry_list.specs.Record.{Record, IsPlaced, record_in, records_in}
use Rattle.ext_split.proofs.Candidates.{oks, first_time, candidates_step, still_there}

pub says_weaker : (e : Error) (P Q : List ℕ → Type 0) → ((fault : List ℕ) → P fault → Q fault) → MergeCause e P
    → MergeCause e Q
says_weaker (errors.Corrupt text) P Q h p = h _ p
says_weaker errors.Memory P Q h p = p

pub listed_oks : (seen : List ℕ) (rest : List (Result ℕ Malformed)) → rest ≡ []
    → listed_places (oks seen ++ rest) ≡ seen
listed_oks [] rest e = rw e refl
listed_oks (p ∷ seen) rest e = ap (λ (l : List ℕ). p ∷ l) (listed_oks seen rest e)

pub oks_push : (seen : List ℕ) (p : ℕ) (rest : List (Result ℕ Malformed))
    → oks seen ++ Ok p ∷ rest ≡ oks (seen ++ p ∷ []) ++ rest
oks_push [] p rest = refl
oks_push (q ∷ seen) p rest = ap (λ (l : List (Result ℕ Malformed)). Ok q ∷ l) (oks_push seen p rest)

-- ---- faults

pub sound_step : (shared split : List Record) (j p : ℕ) (rest : List (Result ℕ Malformed))
    → place_fault (slice_get shared p) (slice_get split j) ≡ None
    → replace_fault shared split j (Ok p ∷ rest) ≡ replace_fault shared split (j + 1) rest
sound_step shared split j p rest h = rw h refl

pub fault_step : (shared split : List Record) (j p : ℕ) (rest : List (Result ℕ Malformed)) (fault : List ℕ)
    → place_fault (slice_get shared p) (slice_get split j) ≡ Some fault
    → replace_fault shared split j (Ok p ∷ rest) ≡ Some fault
fault_step shared split j p rest fault h = rw h refl

-- the record that is written is the value changed
pub change_set : (storage : List ℕ) (f : Record → Record) (xs : List Entry) (place : ℕ) (x y : Entry)
    → place < length xs → x ≡ get_or xs place x → record_in storage y ≡ f (record_in storage x)
    → records_in storage (set xs place y) ≡ changed_at f place (records_in storage xs)
change_set storage f [] place x y lt e h = absurd (omega arith)
change_set storage f (a ∷ xs) zero x y lt e h =
    ap (λ (r : Record). r ∷ records_in storage xs) (h ∙ ap (λ (z : Entry). f (record_in storage z)) e)
change_set storage f (a ∷ xs) (suc place) x y lt e h =
    ap (λ (rs : List Record). record_in storage a ∷ rs) (change_set storage f xs place x y (omega arith) e h)

-- ---- marks

pub marks_nothing : (i : ℕ) (e : Entry) → IsRemovedAt [] i e e
marks_nothing i e = record { removed = refl; same = λ _. refl; range = refl }

any_push : (seen : List ℕ) (p i : ℕ) (b : Bool) → eqb p i ≡ b
    → list_any (λ q. eqb q i) (seen ++ p ∷ []) ≡ (list_any (λ q. eqb q i) seen || (b || false))
any_push seen p i b e = list_any-append (λ q. eqb q i) seen (p ∷ []) ∙ rw e refl

or_true : (a : Bool) → a || true ≡ true
or_true true = refl
or_true false = refl

or_false : (a : Bool) → a || (false || false) ≡ a
or_false true = refl
or_false false = refl

pub mark_other : (seen : List ℕ) (p i : ℕ) (old new : Entry) → p ≢ i → IsRemovedAt seen i old new
    → IsRemovedAt (seen ++ p ∷ []) i old new
mark_other seen p i old new h m =
    let any : list_any (λ q. eqb q i) (seen ++ p ∷ []) ≡ list_any (λ q. eqb q i) seen =
    any_push seen p i false (ne_eqb p i h) ∙ or_false (list_any (λ q. eqb q i) seen) in
    record {
      removed = rw any m.removed;
      same = λ e. m.same (sym any ∙ e);
      range = m.range;
    }

pub mark_here : (seen : List ℕ) (p : ℕ) (old now new : Entry) → is_removed new.flags.0 ≡ true → new.path ≡ now.path
    → IsRemovedAt seen p old now → IsRemovedAt (seen ++ p ∷ []) p old new
mark_here seen p old now new r path m =
    let any : list_any (λ q. eqb q p) (seen ++ p ∷ []) ≡ true =
    any_push seen p p true (eq-eqb p p refl) ∙ or_true (list_any (λ q. eqb q p) seen) in
    record {
      removed = rw any r;
      same = λ e. absurd (let bad : true ≡ false = sym any ∙ e in cc);
      range = path ∙ m.range;
    }

abbrev pub stays : Entry → Bool
stays e = not (is_removed e.flags.0)

-- what is left of marked entries are the records at no place
pub kept_marked : (storage delete : List ℕ) (i : ℕ) (old new : List Entry) → length new ≡ length old
    → ((k : ℕ) (d : Entry) → k < length old → IsRemovedAt delete (i + k) (get_or old k d) (get_or new k d))
    → records_in storage (filter stays new) ≡ retained_from delete i (records_in storage old)
kept_marked storage delete i [] [] e h = refl
kept_marked storage delete i [] (n ∷ new) e h = absurd (omega arith)
kept_marked storage delete i (o ∷ old) [] e h = absurd (omega arith)
kept_marked storage delete i (o ∷ old) (n ∷ new) e h =
    let zeroth : i + 0 ≡ i = omega arith in
    let m : IsRemovedAt delete i o n = rw zeroth at (h 0 o (omega arith)) in
    let next : (k : ℕ) (d : Entry) → k < length old → IsRemovedAt delete (i + 1 + k) (get_or old k d) (get_or new k d) =
    λ k d l. let shift : i + suc k ≡ i + 1 + k = omega arith in
    rw shift at (h (suc k) d (omega arith)) in
    let rest = kept_marked storage delete (i + 1) old new (omega arith) next in
    by (list_any (λ q. eqb q i) delete) (is_removed o.flags.0) (is_removed n.flags.0) m.removed m.same rest
  where
    by : (a r s : Bool) → s ≡ (a || r) → (a ≡ false → n ≡ o)
        → records_in storage (filter stays new) ≡ retained_from delete (i + 1) (records_in storage old)
        → records_in storage (cond (not s) (n ∷ filter stays new) (filter stays new))
        ≡ cond (a || r) (retained_from delete (i + 1) (records_in storage old))
        (record_in storage o ∷ retained_from delete (i + 1) (records_in storage old))
    by true r s e same h = rw e h
    by false true s e same h = rw e h
    by false false s e same h = rw (e, same refl) (ap (λ (rs : List Record). record_in storage o ∷ rs) h)

pub delete_step : (n p : ℕ) (rest : List (Result ℕ Malformed)) → p < n
    → delete_fault n (Ok p ∷ rest) ≡ delete_fault n rest
delete_step n p rest h = let t : nat_le n p ≡ false = grind (arith, nat_tests) in rw t refl

pub delete_past : (n p : ℕ) (rest : List (Result ℕ Malformed)) → n ≤ p → delete_fault n (Ok p ∷ rest) ≡ Some
    (codes "delete bitmap length exceeds shared index length - more entries in bitmap than found in shared index")
delete_past n p rest h = let t : nat_le n p ≡ true = grind (arith, nat_tests) in rw t refl

-- ---- records by their place

pub record_there : (storage : List ℕ) (es : List Entry) (k : ℕ) (d : Entry) → k < length es
    → slice_get (records_in storage es) k ≡ Some (record_in storage (get_or es k d))
record_there storage es k d h = slice_get-map (record_in storage) es k ∙ rw (slice_get-get_or es k d h) refl

pub record_past : (storage : List ℕ) (es : List Entry) (k : ℕ) → length es ≤ k
    → slice_get (records_in storage es) k ≡ None
record_past storage es k h = slice_get_past (records_in storage es) k (omega (arith, length-map es (record_in storage)))

-- one element written
pub All-written : (P : Entry → Type 0) (es : List Entry) (k : ℕ) (y : Entry) → k < length es → All P es → P y
    → All P (set es k y)
All-written P es k y h all p i d l = by (cases_eq k i)
  where
    by : (k ≡ i) ⊎ (k ≢ i) → P (get_or (set es k y) i d)
    by (inl same) = rw (← same, get_or-set_same es k y d h) p
    by (inr apart) = rw (get_or-set_other es k i y d (λ q. apart (sym q))) (all i d (omega (arith, length-set es k y)))

-- ---- the loops

module _ (words : List ℕ) (shared split : List Record) (before rest : List (Result ℕ Malformed)) (taken : ℕ)
    (now : List Record) (run : IsReplacing words shared split before taken now) where
  path : (p : ℕ) → before ≡ Ok p ∷ rest → oks run.seen ++ before ≡ oks (run.seen ++ p ∷ []) ++ rest
  path p e = ap (λ (l : List (Result ℕ Malformed)). oks run.seen ++ l) e ∙ oks_push run.seen p rest

  first : (p : ℕ) → before ≡ Ok p ∷ rest → position_from (λ q. eqb q p) 0 run.seen ≡ None
  first p e = first_time run.seen p rest
      (subst (λ (l : List (Result ℕ Malformed)). Ascends 0 (oks run.seen ++ l)) e run.ascending)

  unchanged : (p : ℕ) → before ≡ Ok p ∷ rest → slice_get now p ≡ slice_get shared p
  unchanged p e =
      let zeroth : 0 + p ≡ p = omega arith in
      ap (λ (rs : List Record). slice_get rs p) run.replaced
      ∙ still_there split run.seen p (first p e) 0 p shared zeroth

  pub replacing_step : (p : ℕ) (new : List Record) → before ≡ Ok p ∷ rest
      → place_fault (slice_get now p) (slice_get split taken) ≡ None → new
      ≡ changed_at (λ r. replaced r (slice_get split taken)) p now → IsReplacing words shared split rest (taken + 1) new
  replacing_step p new e sound is =
      let zeroth : 0 + p ≡ p = omega arith in
      let there : place_fault (slice_get shared p) (slice_get split taken) ≡ None =
      ap (λ (o : Option Record). place_fault o (slice_get split taken)) (sym (unchanged p e)) ∙ sound in
      let f : Record → Record = λ r. replaced r (slice_get split (length run.seen)) in
      let written : new ≡ changed_at f p (candidates_from split run.seen 0 shared) =
      is ∙ ap (λ (n : ℕ). changed_at (λ r. replaced r (slice_get split n)) p now) run.number
      ∙ ap (changed_at f p) run.replaced in
      record {
        seen = run.seen ++ p ∷ [];
        listed = subst (λ (l : List (Result ℕ Malformed)). ListPlaces l words) (path p e) run.listed;
        ascending = subst (λ (l : List (Result ℕ Malformed)). Ascends 0 l) (path p e) run.ascending;
        sound = ap (replace_fault shared split 0) (sym (path p e)) ∙ run.sound ∙ ap (replace_fault shared split taken) e
            ∙ sound_step shared split taken p rest there;
        number = omega (arith, run.number, length-append run.seen (p ∷ []));
        replaced = written ∙ sym (candidates_step split run.seen p (first p e) 0 p shared zeroth);
      }

  pub replacing_fault : (p : ℕ) (fault : List ℕ) → before ≡ Ok p ∷ rest
      → place_fault (slice_get now p) (slice_get split taken) ≡ Some fault → IsReplaceFault words shared split fault
  replacing_fault p fault e h =
      let there : place_fault (slice_get shared p) (slice_get split taken) ≡ Some fault =
      ap (λ (o : Option Record). place_fault o (slice_get split taken)) (sym (unchanged p e)) ∙ h in
      record {
        items = oks run.seen ++ before;
        listed = run.listed;
        is = run.sound ∙ ap (replace_fault shared split taken) e ∙ fault_step shared split taken p rest fault there;
      }

  pub replacing_broken : (m : Malformed) → before ≡ Err m ∷ rest
      → IsReplaceFault words shared split (codes "replace bitmap is malformed")
  replacing_broken m e = record {
    items = oks run.seen ++ before;
    listed = run.listed;
    is = run.sound ∙ ap (replace_fault shared split taken) e;
  }

  pub replacing_done : before ≡ [] → ReplacesEntries words shared split now taken
  replacing_done e =
      let all = listed_oks run.seen before e in
      record {
        items = oks run.seen ++ before;
        listed = run.listed;
        sound = run.sound ∙ ap (replace_fault shared split taken) e;
        number = run.number ∙ ap length (sym all);
        replaced = run.replaced ∙ ap (λ (l : List ℕ). candidates_from split l 0 shared) (sym all);
      }

module _ (words : List ℕ) (old : List Entry) (before rest : List (Result ℕ Malformed)) (now : List Entry)
    (run : IsMarking words old before now) where
  pub marking_step : (p : ℕ) (new : List Entry) → before ≡ Ok p ∷ rest → p < length now
      → AreRemovedAt (run.seen ++ p ∷ []) old new → IsMarking words old rest new
  marking_step p new e lt marked =
      let path : oks run.seen ++ before ≡ oks (run.seen ++ p ∷ []) ++ rest =
      ap (λ (l : List (Result ℕ Malformed)). oks run.seen ++ l) e ∙ oks_push run.seen p rest in
      record {
        seen = run.seen ++ p ∷ [];
        listed = subst (λ (l : List (Result ℕ Malformed)). ListPlaces l words) path run.listed;
        sound = ap (delete_fault (length old)) (sym path) ∙ run.sound ∙ ap (delete_fault (length old)) e
            ∙ delete_step (length old) p rest (omega (arith, lt, run.marked.len));
        marked = marked;
      }

  pub marking_broken : (m : Malformed) → before ≡ Err m ∷ rest
      → IsDeleteFault words (length old) (codes "delete bitmap is malformed")
  marking_broken m e =
      record { items = oks run.seen ++ before; listed = run.listed; is = run.sound ∙ ap (delete_fault (length old)) e }

  pub marking_past : (p : ℕ) → before ≡ Ok p ∷ rest → length now ≤ p → IsDeleteFault words (length old)
      (codes "delete bitmap length exceeds shared index length - more entries in bitmap than found in shared index")
  marking_past p e le = record {
    items = oks run.seen ++ before;
    listed = run.listed;
    is = run.sound
        ∙ ap (delete_fault (length old)) e ∙ delete_past (length old) p rest (omega (arith, le, run.marked.len));
  }

  pub marking_done : before ≡ [] → RemovesAt words old now
  marking_done e =
      let all = listed_oks run.seen before e in
      record {
        items = oks run.seen ++ before;
        listed = run.listed;
        sound = run.sound ∙ ap (delete_fault (length old)) e;
        marked = subst (λ (l : List ℕ). AreRemovedAt l old now) (sym all) run.marked;
      }

pub marked_none : (old : List Entry) → AreRemovedAt [] old old
marked_none old = record { len = refl; each = λ k d l. marks_nothing k (get_or old k d) }

pub marked_flags : (n m : ℕ) → n ≡ bit_or m 0x20000 → is_removed n ≡ true
marked_flags n m e = rw (e, and_or_self 0x20000 m) refl

-- the entry at p is marked
pub mark_write : (seen : List ℕ) (p : ℕ) (old now : List Entry) (x y : Entry) → p < length now → x ≡ get_or now p x
    → is_removed y.flags.0 ≡ true → y.path ≡ x.path → AreRemovedAt seen old now
    → AreRemovedAt (seen ++ p ∷ []) old (set now p y)
mark_write seen p old now x y lt ex r path m =
    record { len = length-set now p y ∙ m.len; each = λ k d l. by k d l (cases_eq p k) }
  where
    by : (k : ℕ) (d : Entry) → k < length old → (p ≡ k) ⊎ (p ≢ k)
        → IsRemovedAt (seen ++ p ∷ []) k (get_or old k d) (get_or (set now p y) k d)
    by k d l (inl same) =
        let now_is : x ≡ get_or now p d = ex ∙ get_or_default now p x d lt in
        rw (← same, get_or-set_same now p y d lt) (mark_here seen p (get_or old p d) (get_or now p d) y r
        (path ∙ ap (λ (e : Entry). e.path) now_is) (m.each p d (omega (arith, lt, m.len))))
    by k d l (inr apart) = rw (get_or-set_other now p k y d (λ q. apart (sym q)))
        (mark_other seen p k (get_or old k d) (get_or now k d) apart (m.each k d l))

pub kept_all : (storage words : List ℕ) (old new : List Entry) → (m : RemovesAt words old new)
    → Keeps words (records_in storage old) (records_in storage (filter stays new))
kept_all storage words old new m = record {
  items = m.items;
  listed = m.listed;
  sound = rw (length-map old (record_in storage)) m.sound;
  retained = kept_marked storage (listed_places m.items) 0 old new m.marked.len
      (λ k d l. let zeroth : 0 + k ≡ k = omega arith in rw zeroth (m.marked.each k d l));
}

pub marked_placed : (len : ℕ) (places : List ℕ) (old new : List Entry) → AreRemovedAt places old new
    → All (IsPlaced len) old → All (IsPlaced len) new
marked_placed len places old new m all k d l =
    let inside : k < length old = omega (arith, l, m.len) in
    let h = all k d inside in
    record { inside = rw (m.each k d inside).range h.inside }

-- one more entry after the first ones
pub one_more : (own : List Record) (storage : List ℕ) (es : List Entry) (i : ℕ) (z : Entry) (now : List Record)
    → i < length es → now ≡ own ++ records_in storage (take i es)
    → now ++ record_in storage (get_or es i z) ∷ [] ≡ own ++ records_in storage (take (i + 1) es)
one_more own storage es i z now lt e =
    let r = record_in storage (get_or es i z) in
    let more : records_in storage (take (i + 1) es) ≡ records_in storage (take i es) ++ r ∷ [] =
    ap (records_in storage) (take_more es i z lt)
    ∙ map-append (record_in storage) (take i es) (get_or es i z ∷ []) in
    ap (λ (l : List Record). l ++ r ∷ []) e ∙ append_assoc own (records_in storage (take i es)) (r ∷ [])
    ∙ ap (λ (l : List Record). own ++ l) (sym more)

-- what a replacement's fault is, of two entries that are there
pub fault_there : (storage split_storage : List ℕ) (es split : List Entry) (p taken : ℕ) (x z : Entry) → p < length es
    → x ≡ get_or es p x → taken < length split → (o : Option (List ℕ))
    → o ≡ replaced_record_fault (record_in storage x) (Some (record_in split_storage (get_or split taken z)))
    → place_fault (slice_get (records_in storage es) p) (slice_get (records_in split_storage split) taken) ≡ o
fault_there storage split_storage es split p taken x z lt ex lt' o e =
    let there : slice_get (records_in storage es) p ≡ Some (record_in storage x) =
    record_there storage es p x lt ∙ ap (λ (y : Entry). Some (record_in storage y)) (sym ex) in
    let other : slice_get (records_in split_storage split) taken
    ≡ Some (record_in split_storage (get_or split taken z)) = record_there split_storage split taken z lt' in
    rw (there, other) (sym e)

-- ---- the whole merge

pub listing : (words : List ℕ) → ListPlaces (places 0 (unpacked words)) words
listing words = record { bits = unpacked words; stand_for = stand_for_unpacked words; listed = refl }

pub replace_is_fault : (delete_words replace_words : List ℕ) (shared split : List Record) (fault : List ℕ)
    → IsReplaceFault replace_words shared split fault → IsMergeFault delete_words replace_words shared split fault
replace_is_fault delete_words replace_words shared split fault h = record {
  delete = places 0 (unpacked delete_words);
  replace = h.items;
  listed = record { of_delete = listing delete_words; of_replace = h.listed };
  is = rw h.is refl;
}

module _ (delete_words replace_words : List ℕ) (shared split mid : List Record) (taken : ℕ)
    (rep : ReplacesEntries replace_words shared split mid taken) where
  candidates_are : candidates shared split (listed_places rep.items) ≡ mid ++ drop taken split
  candidates_are = ap (λ (l : List Record). l ++ drop (length (listed_places rep.items)) split) (sym rep.replaced)
      ∙ ap (λ (n : ℕ). mid ++ drop n split) (sym rep.number)

  pub delete_is_fault : (n : ℕ) → n ≡ length mid + length (drop taken split) → (fault : List ℕ)
      → IsDeleteFault delete_words n fault → IsMergeFault delete_words replace_words shared split fault
  delete_is_fault n count fault h =
      let many : n ≡ length (mid ++ drop taken split) = count ∙ sym (length-append mid (drop taken split)) in
      record {
        delete = h.items;
        replace = rep.items;
        listed = record { of_delete = h.listed; of_replace = rep.listed };
        is = rw (rep.sound, candidates_are, ← many) h.is;
      }

  pub merged_all : (all : List Record) → all ≡ mid ++ drop taken split → (kept merged : List Record)
      → Keeps delete_words all kept → IsPermutation kept merged → IsSorted record_cmp merged
      → IsStable record_cmp kept merged → IsMerge delete_words replace_words shared split merged
  merged_all all whole kept merged k permutation sorted stable = record {
    delete = k.items;
    replace = rep.items;
    listed = record { of_delete = k.listed; of_replace = rep.listed };
    sound = rw (rep.sound, candidates_are, ← whole) k.sound;
    permutation = rw (candidates_are, ← whole, ← k.retained) permutation;
    sorted = sorted;
    stable = rw (candidates_are, ← whole, ← k.retained) stable;
  }
