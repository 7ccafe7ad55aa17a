-- The records that are written, one after the other.
use Rattle.std.proofs.Common.{◌≡◌, ℕ, suc, ◌+◌, ◌<◌, ◌≤◌, ◌^◌, Bool, true, false, not, ◌||◌, cond, List, [], ◌∷◌, ◌++◌}
use Rattle.std.proofs.Common.{Option, All, length, take, drop, get_or, map, refl, sym, ap, subst, ◌∙◌, append_assoc, append-nil}
use Rattle.std.proofs.Common.{length-append, drop-cons, take-append-drop, arith}
use Rattle.std.specs.Prelude.{◌≢◌}
use Rattle.std.specs.List.{filter, list_any}
use Rattle.std.proofs.Math.Seq.{get_or-append_seam}
use Rattle.std.proofs.lemmas.List.{map-append}
use Rattle.std.proofs.lemmas.List.Elements.{All-push, filter-append, filter_more}
use Rattle.std.proofs.lemmas.List.Folds.{list_any_more}
use Rattle.index_parts.proofs.Taking.{Took-trans}
use Rattle.entry_fields.specs.Flags.{is_extended}
use Rattle.index_parts.specs.Taking.{Took}
use Rattle.index_parts.specs.declared.hash.Kind.{Kind}
use Rattle.entry_list.specs.declared.Entry.{Entry}
use Rattle.entry_list.specs.declared.Version.{Version}
use Rattle.entry_list.specs.EntryImage.{LackNul, entry_in, entries_in, is_removed, written}
use Rattle.entry_list.specs.Record.{Record, record_in, records_in}

-- a test of records is a test of entries
pub any_record : (storage : List ℕ) (es : List Entry)
    → list_any (λ r. is_extended r.flags) (records_in storage es) ≡ list_any (λ e. is_extended e.flags.0) es
any_record storage [] = refl
any_record storage (e ∷ es) = ap (λ b. is_extended e.flags.0 || b) (any_record storage es)

-- a test of the items before a place, and of the one there
pub any_push : (f : Entry → Bool) (es : List Entry) (i : ℕ) (d : Entry) {b c : Bool} → i < length es
    → b ≡ list_any f (take i es) → c ≡ f (get_or es i d) → (b || c) ≡ list_any f (take (i + 1) es)
any_push f es i d h e k = rw (e, k) (sym (list_any_more f es i d h))

-- ---- which records they are

abbrev pub written_of : List ℕ → List Entry → List Record
written_of storage es = written (records_in storage es)

kept : List Entry → List Entry
kept es = filter (λ e. not (is_removed e.flags.0)) es

shown : (storage : List ℕ) (es : List Entry)
    → written_of storage es ≡ map (record_in storage) (filter (λ e. not (is_removed e.flags.0)) es)
shown storage [] = refl
shown storage (e ∷ es) = by (not (is_removed e.flags.0)) (shown storage es)
  where
    by : (b : Bool) → written_of storage es ≡ map (record_in storage) (filter (λ x. not (is_removed x.flags.0)) es)
        → cond b (record_in storage e ∷ written_of storage es) (written_of storage es) ≡ map (record_in storage)
        (cond b (e ∷ filter (λ x. not (is_removed x.flags.0)) es) (filter (λ x. not (is_removed x.flags.0)) es))
    by true h = ap (λ (rs : List Record). record_in storage e ∷ rs) h
    by false h = h

-- with the entry at index i, if it isn't left out
pub written_more : (storage : List ℕ) (es : List Entry) (i : ℕ) (d : Entry) → i < length es
    → is_removed (get_or es i d).flags.0 ≡ false
    → written_of storage (take (i + 1) es) ≡ written_of storage (take i es) ++ record_in storage (get_or es i d) ∷ []
written_more storage es i d h e =
    let f = filter (λ (x : Entry). not (is_removed x.flags.0)) in
    let one : f (take (i + 1) es) ≡ f (take i es) ++ get_or es i d ∷ [] =
    filter_more (λ x. not (is_removed x.flags.0)) es i d h ∙ rw e refl in
    shown storage (take (i + 1) es) ∙ ap (map (record_in storage)) one
    ∙ map-append (record_in storage) (f (take i es)) (get_or es i d ∷ [])
    ∙ ap (λ (rs : List Record). rs ++ record_in storage (get_or es i d) ∷ []) (sym (shown storage (take i es)))

-- with the entry at index i, if it is left out
pub written_skip : (storage : List ℕ) (es : List Entry) (i : ℕ) (d : Entry) → i < length es
    → is_removed (get_or es i d).flags.0 ≡ true → written_of storage (take (i + 1) es) ≡ written_of storage (take i es)
written_skip storage es i d h e =
    shown storage (take (i + 1) es)
    ∙ ap (map (record_in storage)) (filter_more (λ x. not (is_removed x.flags.0)) es i d h ∙ rw e (append-nil _))
    ∙ sym (shown storage (take i es))

pub count_push : (storage : List ℕ) (es : List Entry) (i : ℕ) (d : Entry) → i < length es
    → is_removed (get_or es i d).flags.0 ≡ false
    → length (written_of storage (take (i + 1) es)) ≡ length (written_of storage (take i es)) + 1
count_push storage es i d h e = omega (
  arith,
  ap length (written_more storage es i d h e),
  length-append (written_of storage (take i es)) (record_in storage (get_or es i d) ∷ []),
)

-- those before a place, the one there and the rest
pub written_at : (storage : List ℕ) (es : List Entry) (i : ℕ) (d : Entry) → i < length es
    → is_removed (get_or es i d).flags.0 ≡ false → written_of storage es
    ≡ written_of storage (take i es) ++ (record_in storage (get_or es i d) ∷ written_of storage (drop (suc i) es))
written_at storage es i d h e =
    let f = filter (λ (x : Entry). not (is_removed x.flags.0)) in
    let parts : f es ≡ f (take i es) ++ f (get_or es i d ∷ drop (suc i) es) =
    ap f (sym (take-append-drop i es) ∙ ap (λ l. take i es ++ l) (drop-cons es i d h))
    ∙ filter-append (λ x. not (is_removed x.flags.0)) (take i es) (get_or es i d ∷ drop (suc i) es) in
    let first : f (get_or es i d ∷ drop (suc i) es) ≡ get_or es i d ∷ f (drop (suc i) es) = rw e refl in
    let mapped : map (record_in storage) (f es)
    ≡ map (record_in storage) (f (take i es)) ++ map (record_in storage) (get_or es i d ∷ f (drop (suc i) es)) =
    ap (map (record_in storage)) (parts ∙ ap (λ l. f (take i es) ++ l) first)
    ∙ map-append (record_in storage) (f (take i es)) (get_or es i d ∷ f (drop (suc i) es)) in
    shown storage es ∙ mapped ∙ ap (λ (rs : List Record). rs ++ (record_in storage (get_or es i d)
    ∷ map (record_in storage) (f (drop (suc i) es)))) (sym (shown storage (take i es)))
    ∙ ap (λ (rs : List Record). written_of storage (take i es) ++ (record_in storage (get_or es i d) ∷ rs))
    (sym (shown storage (drop (suc i) es)))

-- ---- paths without a NUL

pub lack_at : (storage : List ℕ) (es : List Entry) (i : ℕ) (d : Entry) → i < length es
    → is_removed (get_or es i d).flags.0 ≡ false → LackNul (records_in storage es)
    → All (λ b. b ≢ 0) (record_in storage (get_or es i d)).path
lack_at storage es i d h e all =
    let P = λ (r : Record). All (λ b. b ≢ 0) r.path in
    let xs = written_of storage (take i es) in
    let r = record_in storage (get_or es i d) in
    let ys = written_of storage (drop (suc i) es) in
    let parts : All P (xs ++ r ∷ ys) = subst (All P) (written_at storage es i d h e) all in
    subst P (get_or-append_seam xs r ys r) (parts (length xs) r (omega (arith, length-append xs (r ∷ ys))))

pub lack_push : (storage : List ℕ) (es : List Entry) (i : ℕ) (d : Entry) → i < length es
    → is_removed (get_or es i d).flags.0 ≡ false → LackNul (records_in storage (take i es))
    → All (λ b. b ≢ 0) (record_in storage (get_or es i d)).path → LackNul (records_in storage (take (i + 1) es))
lack_push storage es i d h e all here =
    let P = λ (r : Record). All (λ b. b ≢ 0) r.path in
    subst (All P) (sym (written_more storage es i d h e))
    (All-push P (written_of storage (take i es)) (record_in storage (get_or es i d)) all here)

-- ---- what their bytes are

-- the path of the last one, or the one before them all
abbrev pub last_of : List ℕ → List Record → List ℕ
last_of previous [] = previous
last_of previous (r ∷ rs) = last_of r.path rs

entries_more : (version : Version) (previous : List ℕ) (rs qs : List Record) → entries_in version previous (rs ++ qs)
    ≡ entries_in version previous rs ++ entries_in version (last_of previous rs) qs
entries_more version previous [] qs = refl
entries_more version previous (r ∷ rs) qs =
    ap (λ (l : List ℕ). entry_in version previous r ++ l) (entries_more version r.path rs qs) ∙ sym (append_assoc
    (entry_in version previous r) (entries_in version r.path rs) (entries_in version (last_of r.path rs) qs))

last_more : (previous : List ℕ) (rs : List Record) (r : Record) → last_of previous (rs ++ r ∷ []) ≡ r.path
last_more previous [] r = refl
last_more previous (q ∷ rs) r = last_more q.path rs r

-- one more
pub entries_push : (version : Version) (storage : List ℕ) (es : List Entry) (i : ℕ) (d : Entry) (previous : List ℕ)
    → i < length es → is_removed (get_or es i d).flags.0 ≡ false
    → previous ≡ last_of [] (written_of storage (take i es))
    → entries_in version [] (written_of storage (take i es))
    ++ entry_in version previous (record_in storage (get_or es i d))
    ≡ entries_in version [] (written_of storage (take (i + 1) es))
entries_push version storage es i d previous h k e =
    let rs = written_of storage (take i es) in
    let r = record_in storage (get_or es i d) in
    let pushed : entries_in version [] (rs ++ r ∷ []) ≡ entries_in version [] rs ++ entry_in version (last_of [] rs) r =
    entries_more version [] rs (r ∷ [])
    ∙ ap (λ (l : List ℕ). entries_in version [] rs ++ l) (append-nil (entry_in version (last_of [] rs) r)) in
    rw e (sym (ap (entries_in version []) (written_more storage es i d h k) ∙ pushed))

-- those before a place, the one there and the rest
pub entries_at : (version : Version) (storage : List ℕ) (es : List Entry) (i : ℕ) (d : Entry) (previous : List ℕ)
    → i < length es → is_removed (get_or es i d).flags.0 ≡ false
    → previous ≡ last_of [] (written_of storage (take i es))
    → (entries_in version [] (written_of storage (take i es))
    ++ entry_in version previous (record_in storage (get_or es i d)))
    ++ entries_in version (record_in storage (get_or es i d)).path (written_of storage (drop (suc i) es))
    ≡ entries_in version [] (written_of storage es)
entries_at version storage es i d previous h k e =
    let front = written_of storage (take i es) in
    let here = record_in storage (get_or es i d) in
    let rest = written_of storage (drop (suc i) es) in
    rw e (append_assoc (entries_in version [] front) (entry_in version (last_of [] front) here)
    (entries_in version here.path rest) ∙ sym
    (ap (entries_in version []) (written_at storage es i d h k) ∙ entries_more version [] front (here ∷ rest)))

-- the entries before a place were taken, and then the one there
pub entries_took : {S : Type 0} {taken : S → Option (List ℕ)} {hashed : S → ℕ → Kind → List ℕ → Type 0} {a b c : S}
    (version : Version) (storage : List ℕ) (es : List Entry) (i : ℕ) (d : Entry) (previous : List ℕ) → i < length es
    → is_removed (get_or es i d).flags.0 ≡ false → previous ≡ last_of [] (written_of storage (take i es))
    → Took taken hashed a b (entries_in version [] (written_of storage (take i es)))
    → Took taken hashed b c (entry_in version previous (record_in storage (get_or es i d)))
    → Took taken hashed a c (entries_in version [] (written_of storage (take (i + 1) es)))
entries_took {S} {taken} {hashed} {a} {b} {c} version storage es i d previous h k e p q =
    subst (λ (l : List ℕ). Took taken hashed a c l) (entries_push version storage es i d previous h k e)
    (Took-trans p q)

-- its path is the last one then
pub last_push : (storage : List ℕ) (es : List Entry) (i : ℕ) (d : Entry) → i < length es
    → is_removed (get_or es i d).flags.0 ≡ false
    → (record_in storage (get_or es i d)).path ≡ last_of [] (written_of storage (take (i + 1) es))
last_push storage es i d h k = sym (ap (last_of []) (written_more storage es i d h k)
    ∙ last_more [] (written_of storage (take i es)) (record_in storage (get_or es i d)))

-- ---- how many bytes they have

-- with the bytes of the entry at a place they are no more than all have
pub length_at : (version : Version) (storage : List ℕ) (es : List Entry) (i : ℕ) (d : Entry) (previous : List ℕ)
    → i < length es → is_removed (get_or es i d).flags.0 ≡ false
    → previous ≡ last_of [] (written_of storage (take i es))
    → length (entries_in version [] (written_of storage (take i es)))
    + length (entry_in version previous (record_in storage (get_or es i d)))
    ≤ length (entries_in version [] (written_of storage es))
length_at version storage es i d previous h k e =
    let front = entries_in version [] (written_of storage (take i es)) in
    let here = entry_in version previous (record_in storage (get_or es i d)) in
    let rest = entries_in version (record_in storage (get_or es i d)).path (written_of storage (drop (suc i) es)) in
    omega (
      arith,
      ap length (entries_at version storage es i d previous h k e),
      length-append (front ++ here) rest,
      length-append front here,
    )

-- the held bytes and those of the entry at index i are fewer than 2^32, if the bytes of all entries are
pub room_at : (version : Version) (storage : List ℕ) (es : List Entry) (i : ℕ) (d : Entry) (previous : List ℕ)
    (gone : ℕ) (held : List ℕ) → i < length es → is_removed (get_or es i d).flags.0 ≡ false
    → previous ≡ last_of [] (written_of storage (take i es))
    → gone + length held ≡ 12 + length (entries_in version [] (written_of storage (take i es)))
    → 12 + length (entries_in version [] (written_of storage es)) < 2 ^ 32
    → length held + length (entry_in version previous (record_in storage (get_or es i d))) < 2 ^ 32
room_at version storage es i d previous gone held h k e counted small =
    omega (arith, counted, small, length_at version storage es i d previous h k e)

pub length_push : (version : Version) (storage : List ℕ) (es : List Entry) (i : ℕ) (d : Entry) (previous : List ℕ)
    → i < length es → is_removed (get_or es i d).flags.0 ≡ false
    → previous ≡ last_of [] (written_of storage (take i es))
    → length (entries_in version [] (written_of storage (take (i + 1) es)))
    ≡ length (entries_in version [] (written_of storage (take i es)))
    + length (entry_in version previous (record_in storage (get_or es i d)))
length_push version storage es i d previous h k e =
    omega (
      arith,
      ap length (entries_push version storage es i d previous h k e),
      length-append (entries_in version []
          (written_of storage (take i es))) (entry_in version previous (record_in storage (get_or es i d))),
    )
