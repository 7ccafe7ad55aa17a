-- The entries that are checked so far.
use Rattle.std.proofs.Common.{◌≡◌, ◌⊎◌, inl, inr, ℕ, suc, ◌+◌, ◌<◌, ◌^◌, List, [], ◌∷◌, ◌++◌, All, AllPairs, Bool, true}
use Rattle.std.proofs.Common.{false, Contains, Option, Some, None, length, map, take, drop, get_or, refl, sym, ap}
use Rattle.std.proofs.Common.{subst, ◌∙◌, arith}
use Rattle.std.specs.Prelude.{◌≢◌, if◌then◌else◌}
use Rattle.std.specs.List.{HoldsAt}
use Rattle.std.specs.Option.{option_map, option_to_list}
use Rattle.std.specs.Ordering.{nat_cmp, ordering_then}
use Rattle.std.specs.declared.cmp.Ordering.{Ordering}
use Rattle.std.specs.declared.cmp.Ordering.TheVariants.{Less, Equal, Greater}
use Rattle.std.proofs.Math.Seq.{drop-cons}
use Rattle.std.proofs.lemmas.List.{append-nil, get_or-map, get_or-take, length-take, length-map, map-append}
use Rattle.std.proofs.lemmas.List.{take-append-drop, take_more}
use Rattle.std.proofs.lemmas.List.Elements.{All-cons, All-head, All-map, All-nil, All-push, All-tail}
use Rattle.std.proofs.lemmas.List.Elements.{filter_map-append}
use Rattle.std.proofs.lemmas.List.Kept.{AllPairs-cons}
use Rattle.std.proofs.lemmas.Option.{same_Some}
use Rattle.index_parts.specs.Id.{id_bytes, id_kind, is_null}
use Rattle.index_parts.specs.declared.hash.Kind.{Kind}
use Rattle.index_parts.specs.declared.hash.ObjectId.{ObjectId}
use Rattle.entry_fields.specs.Flags.{stage_number}
use Rattle.index_parts.specs.Mode.{mode_of_kind, named_kind}
use Rattle.index_parts.specs.TreeObject.{kind_of_mode}
use Rattle.index_parts.specs.declared.object.tree.EntryKind.{EntryKind}
use Rattle.index_parts.specs.declared.object.tree.EntryKind.TheVariants as kinds
use Rattle.index_parts.specs.declared.object.tree.EntryMode.{EntryMode}
use Rattle.entry_list.specs.EntryImage.{is_removed}
use Rattle.entry_list.specs.Order.{IsStrictlyOrdered, path_cmp, record_cmp, record_stage}
use Rattle.entry_list.specs.Record.{Record}
use Rattle.entry_list.specs.Slice.{IsRecordOf}
use Rattle.entry_list.specs.declared.Entry.{Entry}
use Rattle.tree_encode.specs.ApartSteps.{EndsWith, AreBeginnings, LiesInOne}
use Rattle.tree_encode.specs.Refusals.{HasPathPrefix, NameCheck, RecordHasFault, HasPath, IsTreeRecord, IsMisnamed}
use Rattle.tree_encode.specs.Refusals.{IsTreePath}
use Rattle.tree_encode.specs.Refusals.{AreRefused, LiesIn, Refusal, TreesFaultCause, Unmerged, Mode, Path}
use Rattle.tree_encode.specs.Refusals.{OtherKind, NullId, Both, unmerged, other_mode, misnamed, other_kind}
use Rattle.tree_encode.specs.Refusals.{null_id, both, first}
use Rattle.tree_encode.specs.Staged.{Staged, is_intended, staged_entry, staged_in, staged_of}
use Rattle.tree_encode.specs.declared.error.Error.{Error}
use Rattle.tree_encode.specs.declared.error.Error.TheVariants as errors
use Rattle.tree_encode.specs.declared.error.NameFault.{NameFault}
use Rattle.tree_encode.specs.declared.leaf.Leaf.{Leaf}
use Rattle.tree_encode.proofs.Aparts.{Last, kept_more, pairs_last, MayBegin, Follows}
use Rattle.tree_encode.proofs.Ranges.{no_record, one_of}

-- ---- the kind of entry of a mode

kind_again : (k : EntryKind) → kind_of_mode (mode_of_kind k) ≡ k
kind_again kinds.Tree = refl
kind_again kinds.Blob = refl
kind_again kinds.BlobExecutable = refl
kind_again kinds.Link = refl
kind_again kinds.Commit = refl

pub none_named : (o : Option EntryMode) (n : Option EntryKind) → option_map (λ m. m.0) o ≡ option_map mode_of_kind n
    → o ≡ None → n ≡ None
none_named None None e z = refl
none_named None (Some k) e z = absurd cc
none_named (Some x) n e z = absurd cc

pub some_named : (o : Option EntryMode) (n : Option EntryKind) (x : EntryMode)
    → option_map (λ m. m.0) o ≡ option_map mode_of_kind n → o ≡ Some x → n ≡ Some (kind_of_mode x.0)
some_named None n x e z = absurd cc
some_named (Some y) None x e z = absurd cc
some_named (Some y) (Some k) x e z =
    let mode : y.0 ≡ mode_of_kind k = same_Some y.0 (mode_of_kind k) e in
    let same : y ≡ x = same_Some y x z in
    ap Some (sym (kind_again k) ∙ ap kind_of_mode (sym mode) ∙ ap (λ (m : EntryMode). kind_of_mode m.0) same)

-- ---- the fault of a record, by its entry

module _ (check : NameCheck) (kind : Kind) (before : List Staged) (r : Record) (e : Entry) (path text : List ℕ)
    (is : IsRecordOf e r) (at : r.path ≡ path) (same : text ≡ path) where
  abbrev named : text ≡ r.path
  named = same ∙ sym at

  flagged : (P : ℕ → Type 0) → P e.flags.0 → P r.flags
  flagged P h = subst P (sym is.flags) h

  merged : is_removed e.flags.0 ≡ false → stage_number e.flags.0 ≡ 0
      → (is_removed r.flags ≡ false) × (stage_number r.flags ≡ 0)
  merged a b = (flagged (λ (f : ℕ). is_removed f ≡ false) a, flagged (λ (f : ℕ). stage_number f ≡ 0) b)

  pub is_unmerged : is_removed e.flags.0 ≡ false → stage_number e.flags.0 ≢ 0
      → RecordHasFault check kind before r (Unmerged text)
  is_unmerged a b = subst (λ (t : List ℕ). RecordHasFault check kind before r (Unmerged t)) (sym named)
      (unmerged (flagged (λ (f : ℕ). is_removed f ≡ false) a) (flagged (λ (f : ℕ). stage_number f ≢ 0) b))

  pub is_other_mode : is_removed e.flags.0 ≡ false → stage_number e.flags.0 ≡ 0 → named_kind e.mode.0 ≡ None
      → RecordHasFault check kind before r (Mode text e.mode.0)
  is_other_mode a b n = subst (λ (t : List ℕ). RecordHasFault check kind before r (Mode t e.mode.0)) (sym named)
      (subst (λ (m : ℕ). RecordHasFault check kind before r (Mode r.path m)) is.mode
      (other_mode (merged a b) (subst (λ (m : ℕ). named_kind m ≡ None) (sym is.mode) n)))

  pub is_misnamed : (k : EntryKind) (f : NameFault) → is_removed e.flags.0 ≡ false → stage_number e.flags.0 ≡ 0
      → named_kind e.mode.0 ≡ Some k → IsMisnamed check 2048 k path f → RecordHasFault check kind before r (Path text f)
  is_misnamed k f a b n h = subst (λ (t : List ℕ). RecordHasFault check kind before r (Path t f)) (sym named)
      (misnamed k f (merged a b) (subst (λ (m : ℕ). named_kind m ≡ Some k) (sym is.mode) n)
      (subst (λ (p : List ℕ). IsMisnamed check 2048 k p f) (sym at) h))

  has_path : (k : EntryKind) → named_kind e.mode.0 ≡ Some k → IsTreePath check 2048 k path → HasPath check r k
  has_path k n h =
      (subst (λ (m : ℕ). named_kind m ≡ Some k) (sym is.mode) n, subst (IsTreePath check 2048 k) (sym at) h)

  pub is_other_kind : (k : EntryKind) → is_removed e.flags.0 ≡ false → stage_number e.flags.0 ≡ 0
      → named_kind e.mode.0 ≡ Some k → IsTreePath check 2048 k path → id_kind e.id ≢ kind
      → RecordHasFault check kind before r (OtherKind text)
  is_other_kind k a b n h o = subst (λ (t : List ℕ). RecordHasFault check kind before r (OtherKind t)) (sym named)
      (other_kind k (merged a b) (has_path k n h) (subst (λ (i : ObjectId). id_kind i ≢ kind) (sym is.id) o))

  pub is_null_id : (k : EntryKind) → is_removed e.flags.0 ≡ false → stage_number e.flags.0 ≡ 0
      → named_kind e.mode.0 ≡ Some k → IsTreePath check 2048 k path → id_kind e.id ≡ kind
      → is_null (id_bytes e.id) ≢ false → RecordHasFault check kind before r (NullId text)
  is_null_id k a b n h o z = subst (λ (t : List ℕ). RecordHasFault check kind before r (NullId t)) (sym named)
      (null_id k (merged a b) (has_path k n h) (subst (λ (i : ObjectId). id_kind i ≡ kind) (sym is.id) o)
      (subst (λ (i : ObjectId). is_null (id_bytes i) ≢ false) (sym is.id) z))

-- ---- errors

pub says_weaker : (e : Error) (S : ℕ → Type 0) (P Q : Refusal → Type 0) → ((f : Refusal) → P f → Q f)
    → TreesFaultCause e S P → TreesFaultCause e S Q
says_weaker errors.TooManyEntries S P Q h s = h _ s
says_weaker (errors.Unmerged path) S P Q h s = h _ s
says_weaker (errors.Mode path mode) S P Q h s = h _ s
says_weaker (errors.Path path fault) S P Q h s = h _ s
says_weaker (errors.OtherKind path) S P Q h s = h _ s
says_weaker (errors.NullId path) S P Q h s = h _ s
says_weaker (errors.Both one other) S P Q h s = h _ s
says_weaker (errors.Sink number) S P Q h s = s
says_weaker errors.Memory S P Q h s = s

-- ---- order

pub some_staged : (r : Record) (x : Staged) → staged_entry r ≡ Some x → (x.path ≡ r.path) × (is_removed r.flags ≡ false)
some_staged r x e = by (is_removed r.flags) (named_kind r.mode) e
  where
    by : (b : Bool) (k : Option EntryKind) → (if b then None else option_map
        (λ k. record { path = r.path; kind = k; id = r.id; later = is_intended r.flags }) k) ≡ Some x
        → (x.path ≡ r.path) × (b ≡ false)
    by true k d = absurd cc
    by false None d = absurd cc
    by false (Some k) d = (
      ap (λ (s : Staged). s.path)
          (sym (same_Some (record { path = r.path; kind = k; id = r.id; later = is_intended r.flags }) x d)),
      refl,
    )

-- what holds of the records so, holds so of what they stage
pub staged_each : (Q : Record → Type 0) (P : Staged → Type 0)
    → ((r : Record) (x : Staged) → Q r → staged_entry r ≡ Some x → P x) → (rs : List Record) → All Q rs
    → All P (staged_in rs)
staged_each Q P f [] h = All-nil P
staged_each Q P f (r ∷ rs) h = by (staged_each Q P f rs (All-tail Q r rs h)) (staged_entry r) refl
  where
    by : All P (staged_in rs) → (o : Option Staged) → staged_entry r ≡ o → All P (staged_in (r ∷ rs))
    by rest None e = rw e rest
    by rest (Some x) e = rw e (All-cons P x (staged_in rs) (f r x (All-head Q r rs h) e) rest)

less_then : (o : Ordering) (m n : ℕ) → m ≡ 0 → n ≡ 0 → ordering_then o (nat_cmp m n) ≡ Less → o ≡ Less
less_then Less m n a b e = refl
less_then Greater m n a b e = absurd cc
less_then Equal m n a b e = let tie : nat_cmp m n ≡ Equal = rw (a, b) refl in absurd (cc (tie, e))

abbrev Rises : Staged → Staged → Type 0
Rises s t = path_cmp s.path t.path ≡ Less

module _ (check : NameCheck) (kind : Kind) where
  stage_none : (r : Record) (x : Staged) → IsTreeRecord check kind r → staged_entry r ≡ Some x → record_stage r ≡ 0
  stage_none r x h e = (h (some_staged r x e).1).0

  above_all : (r : Record) (rs : List Record) → record_stage r ≡ 0 → All (λ q. record_cmp r q ≡ Less) rs
      → All (IsTreeRecord check kind) rs → All (λ s. path_cmp r.path s.path ≡ Less) (staged_in rs)
  above_all r [] a h s = λ k d within. absurd (omega (arith, within))
  above_all r (q ∷ rs) a h s =
      by (above_all r rs a (All-tail (λ q. record_cmp r q ≡ Less) q rs h) (All-tail (IsTreeRecord check kind) q rs s))
      (staged_entry q) refl
    where
      by : All (λ s. path_cmp r.path s.path ≡ Less) (staged_in rs) → (o : Option Staged) → staged_entry q ≡ o
          → All (λ s. path_cmp r.path s.path ≡ Less) (staged_in (q ∷ rs))
      by rest None e = rw e rest
      by rest (Some x) e =
          let f = some_staged q x e in
          let direct : path_cmp r.path q.path ≡ Less =
          less_then (path_cmp r.path q.path) (record_stage r) (record_stage q) a
          (stage_none q x (All-head (IsTreeRecord check kind) q rs s) e) (All-head (λ q. record_cmp r q ≡ Less) q rs h)
          in
          let less : path_cmp r.path x.path ≡ Less =
          subst (λ (p : List ℕ). path_cmp r.path p ≡ Less) (sym f.0) direct in
          rw e (All-cons (λ s. path_cmp r.path s.path ≡ Less) x (staged_in rs) less rest)

  pub staged_rise : (rs : List Record) → AllPairs (λ r q. record_cmp r q ≡ Less) rs → All (IsTreeRecord check kind) rs
      → AllPairs Rises (staged_in rs)
  staged_rise [] h s = λ i j d lt within. absurd (omega (arith, within))
  staged_rise (r ∷ rs) h s =
      by (staged_rise rs (λ i j d lt within. h (suc i) (suc j) d (omega (arith, lt)) (omega (arith, within)))
      (All-tail (IsTreeRecord check kind) r rs s)) (staged_entry r) refl
    where
      head : All (λ q. record_cmp r q ≡ Less) rs
      head = λ k d within. h 0 (suc k) d (omega arith) (omega (arith, within))

      by : AllPairs Rises (staged_in rs) → (o : Option Staged) → staged_entry r ≡ o
          → AllPairs Rises (staged_in (r ∷ rs))
      by rest None e = rw e rest
      by rest (Some x) e =
          let f = some_staged r x e in
          let above = above_all r rs (stage_none r x (All-head (IsTreeRecord check kind) r rs s) e) head
          (All-tail (IsTreeRecord check kind) r rs s) in
          let less : All (λ s. path_cmp x.path s.path ≡ Less) (staged_in rs) =
          subst (λ (l : List ℕ). All (λ s. path_cmp l s.path ≡ Less) (staged_in rs)) (sym f.0) above in
          rw e (AllPairs-cons Rises x (staged_in rs) less rest)

-- ---- one entry more

pub keeps_from : (k : ℕ) (path : List ℕ) (ls : List Leaf) → All (λ f. HasPathPrefix path f.path.now → ⊥) (drop k ls)
    → (k ≡ 0) ⊎ EndsWith (take k ls) (λ f. HasPathPrefix path f.path.now)
    → ((init : List Leaf) (last : Leaf) → take k ls ≡ init ++ last ∷ [] → LiesIn path (staged_of last) → ⊥)
    → AreBeginnings k path ls
keeps_from k path ls taken (inl z) none = record { taken = taken; last = inl (ap (λ (n : ℕ). take n ls) z) }
keeps_from k path ls taken (inr e) none = record { taken = taken; last = inr (e.0, e.1, e.2, (e.3, none e.0 e.1 e.2)) }

module _ (check : NameCheck) (kind : Kind) (rs : List Record) (i : ℕ) (lt : i < length rs) where
  abbrev r : Record
  r = get_or rs i no_record

  more : take (i + 1) rs ≡ take i rs ++ r ∷ []
  more = take_more rs i no_record lt

  pub fit_more : All (IsTreeRecord check kind) (take i rs) → HoldsAt (IsTreeRecord check kind) rs i
      → All (IsTreeRecord check kind) (take (i + 1) rs)
  fit_more h f = subst (All (IsTreeRecord check kind)) (sym more) (All-push (IsTreeRecord check kind) (take i rs) r h
      (f no_record))

  pub staged_more : (x : Option Staged) → HoldsAt (λ r. x ≡ staged_entry r) rs i
      → staged_in (take (i + 1) rs) ≡ staged_in (take i rs) ++ option_to_list x
  staged_more x h = ap staged_in more ∙ filter_map-append staged_entry (take i rs) (r ∷ [])
      ∙ ap (λ (l : List Staged). staged_in (take i rs) ++ l) (one_of r x (h no_record))

  pub kept_none_more : (ls : List Leaf) (o : Option Leaf) → o ≡ None
      → HoldsAt (λ r. option_map staged_of o ≡ staged_entry r) rs i
      → MayBegin (staged_in (take i rs)) (map staged_of ls) → MayBegin (staged_in (take (i + 1) rs)) (map staged_of ls)
  kept_none_more ls o z h kept =
      let same : staged_in (take (i + 1) rs) ≡ staged_in (take i rs) = staged_more (option_map staged_of o) h
      ∙ ap (λ (p : Option Leaf). staged_in (take i rs) ++ option_to_list (option_map staged_of p)) z
      ∙ append-nil (staged_in (take i rs)) in
      subst (λ (l : List Staged). MayBegin l (map staged_of ls)) (sym same) kept

  ordered_front : (n : ℕ) → IsStrictlyOrdered rs → AllPairs (λ r q. record_cmp r q ≡ Less) (take n rs)
  ordered_front n o a b d low within =
      let short : b < n = omega (arith, within, length-take n rs) in
      let x : get_or (take n rs) a d ≡ get_or rs a d = get_or-take n rs a d (omega (arith, low, short)) in
      let y : get_or (take n rs) b d ≡ get_or rs b d = get_or-take n rs b d short in
      subst (λ (q : Record). record_cmp (get_or (take n rs) a d) q ≡ Less) (sym y) (subst (λ (q : Record). record_cmp q
      (get_or rs b d) ≡ Less) (sym x) (o.less a b d low (omega (arith, within, length-take n rs))))

  module _ (ordered : IsStrictlyOrdered rs) (fit : All (IsTreeRecord check kind) (take i rs))
      (now : HoldsAt (IsTreeRecord check kind) rs i) (ls : List Leaf) (o : Option Leaf) (leaf : Leaf) (is : o ≡ Some
      leaf)
      (h : HoldsAt (λ r. option_map staged_of o ≡ staged_entry r) rs i)
      (kept : MayBegin (staged_in (take i rs)) (map staged_of ls)) where
    staged : staged_in (take (i + 1) rs) ≡ staged_in (take i rs) ++ staged_of leaf ∷ []
    staged = staged_more (option_map staged_of o) h
        ∙ ap (λ (p : Option Leaf). staged_in (take i rs) ++ option_to_list (option_map staged_of p)) is

    follows : Follows (staged_in (take i rs)) leaf.path.now
    follows s c = pairs_last Rises (staged_in (take i rs)) (staged_of leaf) s (subst (AllPairs Rises) staged
        (staged_rise check kind (take (i + 1) rs) (ordered_front (i + 1) ordered) (fit_more fit now))) c

    last_of : (k : ℕ) → AreBeginnings k leaf.path.now ls → Last (map staged_of (take k ls)) leaf.path.now
    last_of k n = by n.last
      where
        by : (take k ls ≡ [])
            ⊎ EndsWith (take k ls) (λ f. HasPathPrefix leaf.path.now f.path.now × (LiesIn leaf.path.now (staged_of f)
            → ⊥))
            → Last (map staged_of (take k ls)) leaf.path.now
        by (inl e) = inl (ap (map staged_of) e)
        by (inr e) =
            inr (map staged_of e.0, staged_of e.1, ap (map staged_of) e.2 ∙ map-append staged_of e.0 (e.1 ∷ []), e.3)

    pub kept_leaf : (k : ℕ) (new : List Leaf) → AreBeginnings k leaf.path.now ls → new ≡ take k ls ++ leaf ∷ []
        → MayBegin (staged_in (take (i + 1) rs)) (map staged_of new)
    kept_leaf k new n e =
        let parts : map staged_of ls ≡ map staged_of (take k ls) ++ map staged_of (drop k ls) =
        ap (map staged_of) (sym (take-append-drop k ls)) ∙ map-append staged_of (take k ls) (drop k ls) in
        let gone : All (λ f. HasPathPrefix leaf.path.now f.path → ⊥) (map staged_of (drop k ls)) =
        All-map (λ f. HasPathPrefix leaf.path.now f.path → ⊥) staged_of (drop k ls) n.taken in
        let grown = kept_more (staged_in (take i rs)) (map staged_of ls) (map staged_of (take k ls))
        (map staged_of (drop k ls)) (staged_of leaf) kept parts gone (last_of k n) follows in
        let fs : map staged_of new ≡ map staged_of (take k ls) ++ staged_of leaf ∷ [] =
        ap (map staged_of) e ∙ map-append staged_of (take k ls) (leaf ∷ []) in
        subst (λ (l : List Staged). MayBegin l (map staged_of new)) (sym staged)
        (subst (MayBegin (staged_in (take i rs) ++ staged_of leaf ∷ [])) (sym fs) grown)

  split : rs ≡ take i rs ++ r ∷ drop (i + 1) rs
  split =
      let n : suc i ≡ i + 1 = omega arith in
      sym (take-append-drop i rs)
      ∙ ap (λ (l : List Record). take i rs ++ l) (drop-cons rs i no_record lt ∙ ap (λ (k : ℕ). r ∷ drop k rs) n)

  pub first_fault : (fs : List Staged) (f : Refusal) → length rs < 2 ^ 31 → All (IsTreeRecord check kind) (take i rs)
      → MayBegin (staged_in (take i rs)) fs → RecordHasFault check kind (staged_in (take i rs)) r f
      → AreRefused check kind rs f
  first_fault fs f few fit kept fault =
      first (take i rs) r (drop (i + 1) rs) f few split (record { each = fit; apart = kept.apart }) fault

  contains_map : (ls : List Leaf) (l : Leaf) → Contains ls l → Contains (map staged_of ls) (staged_of l)
  contains_map ls l c = (
    c.0,
    omega (arith, c.1, length-map ls staged_of),
    get_or-map staged_of ls c.0 l (staged_of l) c.1 ∙ ap staged_of c.2,
  )

  pub both_fault : (ls : List Leaf) (o : Option Leaf) (leaf : Leaf) (f : Refusal) → o ≡ Some leaf
      → HoldsAt (λ r. option_map staged_of o ≡ staged_entry r) rs i → HoldsAt (IsTreeRecord check kind) rs i
      → MayBegin (staged_in (take i rs)) (map staged_of ls) → LiesInOne leaf.path.now ls f
      → RecordHasFault check kind (staged_in (take i rs)) r f
  both_fault ls o leaf f is h now kept lies =
      let s = some_staged r (staged_of leaf) (sym (h no_record) ∙ ap (option_map staged_of) is) in
      let c = kept.known (staged_of lies.0) (contains_map ls lies.0 lies.1) in
      subst (RecordHasFault check kind (staged_in (take i rs)) r) (ap (Both lies.0.path.now) (sym s.0) ∙ sym lies.3)
      (both (staged_of lies.0) s.1 (now no_record) c (subst (λ (p : List ℕ). LiesIn p (staged_of lies.0)) s.0 lies.2))
