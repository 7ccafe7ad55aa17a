-- The leaves of trees in git's order strictly increase.
use Rattle.std.proofs.Common.{◌≡◌, ◌≢◌, ℕ, suc, Bool, true, false, cond, List, [], ◌∷◌, ◌++◌, get_or, slice_index_or}
use Rattle.std.proofs.Common.{All, Contains, Option, Ok, Err, refl, sym, ap, subst, ◌∙◌, arith}
use Rattle.std.specs.Prelude.{◌==◌, bit_and}
use Rattle.std.specs.declared.cmp.Ordering.TheVariants.{Less}
use Rattle.std.proofs.lemmas.List.{append-nil, append_assoc}
use Rattle.std.proofs.lemmas.List.Elements.{All-nil, All-cons, All-append, All-tail}
use Rattle.index_parts.specs.Id.{id_kind}
use Rattle.index_parts.specs.Object.{Found}
use Rattle.index_parts.specs.TreeObject.{TreeEntry, is_tree_mode, kind_of_mode, type_bits}
use Rattle.index_parts.specs.declared.hash.Kind.{Kind}
use Rattle.index_parts.specs.declared.hash.ObjectId.{ObjectId}
use Rattle.index_parts.specs.declared.object.tree.EntryKind.TheVariants as kinds
use Rattle.entry_list.specs.Order.{path_cmp, IsStrictlyOrdered}
use Rattle.entry_list.specs.Record.{Record}
use Rattle.entry_list.specs.TreeOrder.{sorted_name, IsGitOrdered, IsReachable, AreGitOrdered, itself, listed}
use Rattle.entry_list.proofs.TreeOrder.{MayFollow, paths_less, ordered_behind}
use Rattle.tree_decode.specs.Leaves.{LeavesAnswer, Part, whole_tree, some_entries, Yields, AreLeaves, with_leaves}
use Rattle.tree_decode.specs.Leaves.{leaf_of, limit, unread, opened, ended, refused, leaf, below, stopped}

-- ---- trees among the entries

-- what is a tree by its kind is one by its mode
tree_mode : (mode : ℕ) → kind_of_mode mode ≡ kinds.Tree → is_tree_mode mode ≡ true
tree_mode mode e =
    by (is_tree_mode mode) (type_bits mode == 0o120000) (type_bits mode == 0o100000) (bit_and mode 0o100 == 0) e
  where
    by : (a b c d : Bool)
        → cond a kinds.Tree (cond b kinds.Link (cond c (cond d kinds.Blob kinds.BlobExecutable) kinds.Commit))
        ≡ kinds.Tree → a ≡ true
    by true b c d k = refl
    by false true c d k = absurd cc
    by false false true true k = absurd cc
    by false false true false k = absurd cc
    by false false false d k = absurd cc

leaf_mode : (mode : ℕ) → kind_of_mode mode ≢ kinds.Tree → is_tree_mode mode ≡ false
leaf_mode mode other = by (is_tree_mode mode) refl
  where
    by : (b : Bool) → is_tree_mode mode ≡ b → is_tree_mode mode ≡ false
    by true is = absurd (other (rw is refl))
    by false is = is

-- ---- the position of a record's path

-- it begins with the prefix
abbrev Under : List ℕ → Record → Type 0
Under prefix r = (x : List ℕ) × (r.path ≡ prefix ++ x)

-- it begins with the prefix and what an entry is sorted by
abbrev StandsAt : List ℕ → TreeEntry → Record → Type 0
StandsAt prefix e r = (x : List ℕ) × (r.path ≡ prefix ++ (sorted_name e ++ x)) × MayFollow e x

abbrev StandsAmong : List ℕ → List TreeEntry → Record → Type 0
StandsAmong prefix es r = (e : TreeEntry) × Contains es e × StandsAt prefix e r

under_among : (prefix : List ℕ) (es : List TreeEntry) (r : Record) → StandsAmong prefix es r → Under prefix r
under_among prefix es r h = (sorted_name h.0 ++ h.2.0, h.2.1)

contains_later : (d e : TreeEntry) (es : List TreeEntry) → Contains es e → Contains (d ∷ es) e
contains_later d e es h = (suc h.0, omega (arith, h.1), h.2)

contains_first : (e : TreeEntry) (es : List TreeEntry) → Contains (e ∷ es) e
contains_first e es = (0, omega arith, refl)

leaf_stands : (prefix : List ℕ) (e : TreeEntry) → is_tree_mode e.mode ≡ false → StandsAt prefix e (leaf_of prefix e)
leaf_stands prefix e is =
    let bare : sorted_name e ≡ e.name = rw is (append-nil e.name) in
    ([], ap (λ (l : List ℕ). prefix ++ l) (sym (append-nil (sorted_name e) ∙ bare)), λ _. refl)

below_stands : (prefix : List ℕ) (e : TreeEntry) (r : Record) → is_tree_mode e.mode ≡ true
    → Under (prefix ++ e.name ++ 47 ∷ []) r → StandsAt prefix e r
below_stands prefix e r is h =
    let slashed : sorted_name e ≡ e.name ++ 47 ∷ [] = rw is refl in
    let path : r.path ≡ prefix ++ (sorted_name e ++ h.0) =
    h.1 ∙ ap (λ (l : List ℕ). l ++ h.0) (append_assoc prefix e.name (47 ∷ []))
    ∙ append_assoc prefix (e.name ++ 47 ∷ []) h.0 ∙ ap (λ (l : List ℕ). prefix ++ (l ++ h.0)) (sym slashed) in
    (h.0, path, λ leaf. absurd cc)

-- ---- paths of an entry, and of those after it

ordered_tail : (e : TreeEntry) (es : List TreeEntry) → IsGitOrdered (e ∷ es) → IsGitOrdered es
ordered_tail e es h = record {
  components = All-tail (λ d. All (λ b. b ≢ 47) d.name) e es h.components;
  less = λ i j d lt within. h.less (suc i) (suc j) d (omega arith) (omega arith);
}

stand_before : (prefix : List ℕ) (e : TreeEntry) (es : List TreeEntry) (r q : Record) → IsGitOrdered (e ∷ es)
    → StandsAt prefix e r → StandsAmong prefix es q → path_cmp r.path q.path ≡ Less
stand_before prefix e es r q ordered at among =
    let d = among.0 in
    let k = among.1.0 in
    let there : slice_index_or es k d ≡ d = among.1.2 in
    let less : path_cmp (sorted_name e) (sorted_name d) ≡ Less =
    subst (λ (t : TreeEntry). path_cmp (sorted_name e) (sorted_name t) ≡ Less) there
    (ordered.less 0 (suc k) d (omega arith) (omega (arith, among.1.1))) in
    let apart : All (λ b. b ≢ 47) d.name = subst (λ (t : TreeEntry). All (λ b. b ≢ 47) t.name) there
    (ordered.components (suc k) d (omega (arith, among.1.1))) in
    rw (at.1, among.2.1) (paths_less e d apart less prefix at.0 among.2.0 at.2)

-- ---- listings

-- a listing without a fault strictly increases, and this is so of its records
abbrev Goes : (Record → Type 0) → LeavesAnswer → Type 0
Goes P (Ok x) = IsStrictlyOrdered x.0 × All P x.0
Goes P (Err f) = Unit {0}

goes_weaker : (P Q : Record → Type 0) (l : LeavesAnswer) → ((r : Record) → P r → Q r) → Goes P l → Goes Q l
goes_weaker P Q (Ok x) f h = (h.0, λ k d within. f (get_or x.0 k d) (h.1 k d within))
goes_weaker P Q (Err e) f h = tt

none_ordered : IsStrictlyOrdered []
none_ordered = record { less = λ i j d lt within. absurd (omega arith) }

one_ordered : (r : Record) → IsStrictlyOrdered (r ∷ [])
one_ordered r = record { less = λ i j d lt within. absurd (omega arith) }

goes_behind : (prefix : List ℕ) (e : TreeEntry) (es : List TreeEntry) (rs : List Record) (l : LeavesAnswer)
    → IsGitOrdered (e ∷ es) → IsStrictlyOrdered rs → All (StandsAt prefix e) rs
    → Goes (StandsAmong prefix es) l → Goes (StandsAmong prefix (e ∷ es)) (with_leaves rs l)
goes_behind prefix e es rs (Err f) ordered rise at h = tt
goes_behind prefix e es rs (Ok x) ordered rise at h = (
  ordered_behind rs x.0 rise h.0 (λ k d within j c inside.
      stand_before prefix e es (get_or rs k d) (get_or x.0 j c) ordered (at k d within) (h.1 j c inside)),
  All-append (StandsAmong prefix (e ∷ es)) rs x.0
      (λ k d within. (e, contains_first e es, at k d within))
      (λ k d within. let there = h.1 k d within in (there.0, contains_later e there.0 es there.1, there.2)),
)

-- ---- all that is listed

module _ (find : ObjectId → Found) (check : List ℕ → Bool → Option ℕ) (kind : Kind) (root : ObjectId)
    (sorted : AreGitOrdered find kind root) where
  -- the directories among the entries are reached
  abbrev AreReached : List TreeEntry → Type 0
  AreReached es = (e : TreeEntry) → Contains es e → is_tree_mode e.mode ≡ true → IsReachable find kind root e.id

  -- what is asked of a part: a tree is reached; entries are in git's order, and the directories among them reached
  abbrev Asks : Part → Type 0
  Asks (whole_tree prefix id) = IsReachable find kind root id
  Asks (some_entries prefix es) = IsGitOrdered es × AreReached es

  abbrev Rises : Part → LeavesAnswer → Type 0
  Rises (whole_tree prefix id) l = Goes (Under prefix) l
  Rises (some_entries prefix es) l = Goes (StandsAmong prefix es) l

  reached_tail : (e : TreeEntry) (es : List TreeEntry) → AreReached (e ∷ es) → AreReached es
  reached_tail e es h d there is = h d (contains_later e d es there) is

  rise : (n : ℕ) (p : Part) (l : LeavesAnswer) → Yields find check kind n p l → Asks p → Rises p l
  rise n p l (limit prefix id) asked = tt
  rise n p l (unread m prefix id f un) asked = tt
  rise n p l (opened m prefix id bytes es r found whole y) asked =
      let inner = rise m (some_entries prefix es) r y
      (sorted id bytes es asked found whole, λ e there mode. listed id bytes es e asked found whole there mode) in
      goes_weaker (StandsAmong prefix es) (Under prefix) r (under_among prefix es) inner
  rise n p l (ended m prefix) asked = (none_ordered, All-nil (StandsAmong prefix []))
  rise n p l (refused m prefix e es number why) asked = tt
  rise n p l (leaf m prefix e es r passed other y) asked =
      let inner = rise m (some_entries prefix es) r y (ordered_tail e es asked.0, reached_tail e es asked.1) in
      let at = All-cons (StandsAt prefix e) (leaf_of prefix e) [] (leaf_stands prefix e (leaf_mode e.mode other))
      (All-nil (StandsAt prefix e)) in
      goes_behind prefix e es (leaf_of prefix e ∷ []) r asked.0 (one_ordered (leaf_of prefix e)) at inner
  rise n p l (below m left prefix e es rs r passed is y z) asked =
      let mode = tree_mode e.mode is in
      let first = rise m (whole_tree (prefix ++ e.name ++ 47 ∷ []) e.id) (Ok (rs, left)) y
      (asked.1 e (contains_first e es) mode) in
      let inner = rise left (some_entries prefix es) r z (ordered_tail e es asked.0, reached_tail e es asked.1) in
      goes_behind prefix e es rs r asked.0 first.0
      (λ k d within. below_stands prefix e (get_or rs k d) mode (first.1 k d within)) inner
  rise n p l (stopped m prefix e es f passed is y) asked = tt

pub leaves_ordered : (find : ObjectId → Found) (check : List ℕ → Bool → Option ℕ) (root : ObjectId) (most : ℕ)
    (rs : List Record) → AreGitOrdered find (id_kind root) root → AreLeaves find check root most (Ok rs)
    → IsStrictlyOrdered rs
leaves_ordered find check root most rs sorted h =
    (rise find check (id_kind root) root sorted most (whole_tree [] root) (Ok (rs, h.0)) h.1 itself).0
