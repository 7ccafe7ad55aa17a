-- A part of a tree has one listing, whatever a store contains and a check rejects: leaves, or one first error.
use Rattle.std.proofs.Common.{◌≡◌, ◌≢◌, ℕ, zero, suc, ◌≤◌, Bool, List, [], ◌∷◌, ◌++◌, inl, inr, Option, Some, None}
use Rattle.std.proofs.Common.{refl, sym, ap, subst, ◌∙◌, arith}
use Rattle.std.specs.Prelude.{◌⊎◌, Result, Ok, Err}
use Rattle.std.proofs.lemmas.Option.{same_Some}
use Rattle.index_parts.specs.Id.{id_kind}
use Rattle.index_parts.specs.Object.{Found, absent, object, fault}
use Rattle.index_parts.specs.TreeObject.{TreeEntry, IsTreeObject, IsMalformedTree, AreTreeEntries, NoTreeEntry}
use Rattle.index_parts.specs.TreeObject.{kind_of_mode}
use Rattle.index_parts.specs.declared.hash.Kind.{Kind}
use Rattle.index_parts.specs.declared.hash.ObjectId.{ObjectId}
use Rattle.index_parts.specs.declared.object.Kind.{Kind as ObjectKind}
use Rattle.index_parts.specs.declared.object.Kind.TheVariants as objects
use Rattle.index_parts.specs.declared.object.tree.EntryKind.{EntryKind}
use Rattle.index_parts.specs.declared.object.tree.EntryKind.TheVariants as kinds
use Rattle.index_parts.proofs.TreeLists.{listed_in, lists_some}
use Rattle.index_parts.proofs.TreeObjects.{malformed_behind, one_tree}
use Rattle.entry_list.specs.Record.{Record}
use Rattle.tree_decode.specs.Leaves.{LeavesAnswer, LeavesFault, TooManyObjects, NotFound, NotATree, Find, Malformed}
use Rattle.tree_decode.specs.Leaves.{InvalidComponent, Part, whole_tree, some_entries, IsUnreadTree, missing, failed}
use Rattle.tree_decode.specs.Leaves.{other, malformed, Yields, AreLeaves, with_leaves, leaf_of, leaf_rejection, limit}
use Rattle.tree_decode.specs.Leaves.{unread, opened, ended, refused, leaf, below, stopped}
use Rattle.tree_decode.specs.LeafSteps.{IsSomeTree}

-- ---- trees that are read, and those that aren't

-- the error of what a store contains, if no tree is read
abbrev unread_fault : ObjectId → Found → Option LeavesFault
unread_fault id absent = Some (NotFound id)
unread_fault id (fault number) = Some (Find id number)
unread_fault id (object objects.Tree bytes) = Some (Malformed id)
unread_fault id (object objects.Blob bytes) = Some (NotATree id)
unread_fault id (object objects.Commit bytes) = Some (NotATree id)
unread_fault id (object objects.Tag bytes) = Some (NotATree id)

not_a_tree : (id : ObjectId) (k : ObjectKind) (bytes : List ℕ) → k ≢ objects.Tree
    → unread_fault id (object k bytes) ≡ Some (NotATree id)
not_a_tree id objects.Tree bytes h = absurd (h refl)
not_a_tree id objects.Blob bytes h = refl
not_a_tree id objects.Commit bytes h = refl
not_a_tree id objects.Tag bytes h = refl

module _ (find : ObjectId → Found) (kind : Kind) (id : ObjectId) where
  fault_is : (f : LeavesFault) → IsUnreadTree find kind id f → unread_fault id (find id) ≡ Some f
  fault_is f (missing e) = ap (unread_fault id) e
  fault_is f (failed number e) = ap (unread_fault id) e
  fault_is f (other k bytes e h) = ap (unread_fault id) e ∙ not_a_tree id k bytes h
  fault_is f (malformed bytes e h) = ap (unread_fault id) e

  one_unread : (f g : LeavesFault) → IsUnreadTree find kind id f → IsUnreadTree find kind id g → f ≡ g
  one_unread f g h k = same_Some f g (sym (fault_is f h) ∙ fault_is g k)

  same_bytes : (a b : List ℕ) → find id ≡ object objects.Tree a → find id ≡ object objects.Tree b → a ≡ b
  same_bytes a b e d = cc

  read_or_not : (f : LeavesFault) (bytes : List ℕ) (es : List TreeEntry) → IsUnreadTree find kind id f
      → find id ≡ object objects.Tree bytes → IsTreeObject kind bytes es → ⊥
  read_or_not f bytes es (missing e) d h = absurd cc
  read_or_not f bytes es (failed number e) d h = absurd cc
  read_or_not f bytes es (other k found e another) d h = let is : k ≡ objects.Tree = cc in another is
  read_or_not f bytes es (malformed found e none) d h =
      none es (subst (λ (l : List ℕ). IsTreeObject kind l es) (same_bytes bytes found d e) h)

by_rest : (kind : Kind) (bytes : List ℕ) (es : List TreeEntry) (rest : List ℕ) → AreTreeEntries kind bytes es rest
    → NoTreeEntry kind rest → IsSomeTree kind bytes ⊎ IsMalformedTree kind bytes
by_rest kind bytes es [] h none = inl (es, h)
by_rest kind bytes es (b ∷ rest) h none = inr (malformed_behind kind bytes es (b ∷ rest) h (λ is. absurd cc) none)

tree_or_malformed : (kind : Kind) (bytes : List ℕ) → IsSomeTree kind bytes ⊎ IsMalformedTree kind bytes
tree_or_malformed kind bytes = let l = lists_some kind bytes in by_rest kind bytes (listed_in kind bytes) l.0 l.1 l.2

tree_or_leaf : (k : EntryKind) → (k ≡ kinds.Tree) ⊎ (k ≢ kinds.Tree)
tree_or_leaf kinds.Tree = inl refl
tree_or_leaf kinds.Blob = inr (λ is. absurd cc)
tree_or_leaf kinds.BlobExecutable = inr (λ is. absurd cc)
tree_or_leaf kinds.Link = inr (λ is. absurd cc)
tree_or_leaf kinds.Commit = inr (λ is. absurd cc)

-- ---- how many objects may be read after a listing

abbrev LeavesAtMost : ℕ → LeavesAnswer → Type 0
LeavesAtMost n (Ok x) = x.1 ≤ n
LeavesAtMost n (Err f) = Unit {0}

at_most_more : (m n : ℕ) (r : LeavesAnswer) → m ≤ n → LeavesAtMost m r → LeavesAtMost n r
at_most_more m n (Ok x) le h = omega (arith, le, h)
at_most_more m n (Err f) le h = tt

at_most_behind : (n : ℕ) (rs : List Record) (r : LeavesAnswer) → LeavesAtMost n r → LeavesAtMost n (with_leaves rs r)
at_most_behind n rs (Ok x) h = h
at_most_behind n rs (Err f) h = tt

module _ (find : ObjectId → Found) (check : List ℕ → Bool → Option ℕ) (kind : Kind) where
  left_at_most : (n : ℕ) (p : Part) (r : LeavesAnswer) → Yields find check kind n p r → LeavesAtMost n r
  left_at_most n p l (limit prefix id) = tt
  left_at_most n p l (unread m prefix id f un) = tt
  left_at_most n p l (opened m prefix id bytes es r found whole y) =
      at_most_more m (suc m) r (omega arith) (left_at_most m (some_entries prefix es) r y)
  left_at_most n p l (ended m prefix) = omega arith
  left_at_most n p l (refused m prefix e es number why) = tt
  left_at_most n p l (leaf m prefix e es r passed file y) =
      at_most_behind m (leaf_of prefix e ∷ []) r (left_at_most m (some_entries prefix es) r y)
  left_at_most n p l (below m left prefix e es rs r passed is y z) =
      at_most_behind m rs r (at_most_more left m r (left_at_most m (whole_tree (prefix ++ e.name ++ 47 ∷ []) e.id)
      (Ok (rs, left)) y) (left_at_most left (some_entries prefix es) r z))
  left_at_most n p l (stopped m prefix e es f passed is y) = tt

  -- ---- one listing

  with_same : (rs qs : List Record) (r s : LeavesAnswer) → rs ≡ qs → r ≡ s → with_leaves rs r ≡ with_leaves qs s
  with_same rs qs r s e d = ap (λ (l : List Record). with_leaves l r) e ∙ ap (with_leaves qs) d

  pub yields_one : (n : ℕ) (p : Part) (r s : LeavesAnswer) → Yields find check kind n p r → Yields find check kind n p s
      → r ≡ s
  yields_one n p r s (limit prefix id) (limit _ _) = refl
  yields_one n p r s (unread m prefix id f un) (unread _ _ _ g also) = ap Err (one_unread find kind id f g un also)
  yields_one n p r s (unread m prefix id f un) (opened _ _ _ bytes es q found whole z) =
      absurd (read_or_not find kind id f bytes es un found whole)
  yields_one n p r s (opened m prefix id bytes es l found whole y) (unread _ _ _ f un) =
      absurd (read_or_not find kind id f bytes es un found whole)
  yields_one n p r s (opened m prefix id bytes es l found whole y) (opened _ _ _ again ds q there also z) =
      let same : again ≡ bytes = same_bytes find kind id again bytes there found in
      let row : ds ≡ es = one_tree kind bytes ds es (subst (λ (b : List ℕ). IsTreeObject kind b ds) same also) whole in
      yields_one m (some_entries prefix es) l q y
      (subst (λ (t : List TreeEntry). Yields find check kind m (some_entries prefix t) q) row z)
  yields_one n p r s (ended m prefix) (ended _ _) = refl
  yields_one n p r s (refused m prefix e es number why) (refused _ _ _ _ digit also) =
      ap (λ (i : ℕ). Err (InvalidComponent (prefix ++ e.name) i)) (same_Some number digit (sym why ∙ also))
  yields_one n p r s (refused m prefix e es number why) (leaf _ _ _ _ q passed file z) = absurd cc
  yields_one n p r s (refused m prefix e es number why) (below _ left _ _ _ qs q passed is y z) = absurd cc
  yields_one n p r s (refused m prefix e es number why) (stopped _ _ _ _ f passed is y) = absurd cc
  yields_one n p r s (leaf m prefix e es l passed file y) (refused _ _ _ _ number why) = absurd cc
  yields_one n p r s (leaf m prefix e es l passed file y) (leaf _ _ _ _ q also again z) =
      ap (with_leaves (leaf_of prefix e ∷ [])) (yields_one m (some_entries prefix es) l q y z)
  yields_one n p r s (leaf m prefix e es l passed file y) (below _ left _ _ _ qs q also is x z) = absurd (file is)
  yields_one n p r s (leaf m prefix e es l passed file y) (stopped _ _ _ _ f also is z) = absurd (file is)
  yields_one n p r s (below m left prefix e es rs l passed is x y) (refused _ _ _ _ number why) = absurd cc
  yields_one n p r s (below m left prefix e es rs l passed is x y) (leaf _ _ _ _ q also file z) = absurd (file is)
  yields_one n p r s (below m left prefix e es rs l passed is x y) (below _ room _ _ _ qs q also again w z) =
      let first = yields_one m (whole_tree (prefix ++ e.name ++ 47 ∷ []) e.id) (Ok (rs, left)) (Ok (qs, room)) x w in
      let pair : ◌≡◌ {A = List Record × ℕ} (rs, left) (qs, room) = cc in
      let fewer : room ≡ left = sym (ap (λ (x : List Record × ℕ). x.1) pair) in
      with_same rs qs l q (ap (λ (x : List Record × ℕ). x.0) pair) (yields_one left (some_entries prefix es) l q y
      (subst (λ (i : ℕ). Yields find check kind i (some_entries prefix es) q) fewer z))
  yields_one n p r s (below m left prefix e es rs l passed is x y) (stopped _ _ _ _ f also again w) =
      let first = yields_one m (whole_tree (prefix ++ e.name ++ 47 ∷ []) e.id) (Ok (rs, left)) (Err f) x w in absurd cc
  yields_one n p r s (stopped m prefix e es f passed is x) (refused _ _ _ _ number why) = absurd cc
  yields_one n p r s (stopped m prefix e es f passed is x) (leaf _ _ _ _ q also file z) = absurd (file is)
  yields_one n p r s (stopped m prefix e es f passed is x) (below _ left _ _ _ qs q also again w z) =
      let first = yields_one m (whole_tree (prefix ++ e.name ++ 47 ∷ []) e.id) (Err f) (Ok (qs, left)) x w in absurd cc
  yields_one n p r s (stopped m prefix e es f passed is x) (stopped _ _ _ _ g also again w) =
      let first = yields_one m (whole_tree (prefix ++ e.name ++ 47 ∷ []) e.id) (Err f) (Err g) x w in first

  -- ---- some listing

  abbrev HasListing : ℕ → Part → Type 0
  HasListing n p = (r : LeavesAnswer) × Yields find check kind n p r

  -- if this number of objects may be read, all trees have a listing
  abbrev TreesYield : ℕ → Type 0
  TreesYield n = (prefix : List ℕ) (id : ObjectId) → HasListing n (whole_tree prefix id)

  -- these entries have one
  abbrev EntriesYield : ℕ → List TreeEntry → Type 0
  EntriesYield n es = (prefix : List ℕ) → HasListing n (some_entries prefix es)

  module _ (n : ℕ) (prefix : List ℕ) (e : TreeEntry) (es : List TreeEntry)
      (later : (left : ℕ) → left ≤ n → EntriesYield left es) where
    after_tree : (r : LeavesAnswer) → leaf_rejection check e ≡ None → kind_of_mode e.mode ≡ kinds.Tree
        → LeavesAtMost n r
        → Yields find check kind n (whole_tree (prefix ++ e.name ++ 47 ∷ []) e.id) r
        → HasListing n (some_entries prefix (e ∷ es))
    after_tree (Err f) passed is le y = (Err f, stopped n prefix e es f passed is y)
    after_tree (Ok x) passed is le y =
        let more = later x.1 le prefix in
        (with_leaves x.0 more.0, below n x.1 prefix e es x.0 more.0 passed is y more.1)

    entry_by : (o : Option ℕ) → leaf_rejection check e ≡ o → (kind_of_mode e.mode ≡ kinds.Tree)
        ⊎ (kind_of_mode e.mode ≢ kinds.Tree) → TreesYield n → HasListing n (some_entries prefix (e ∷ es))
    entry_by (Some number) why k trees =
        (Err (InvalidComponent (prefix ++ e.name) number), refused n prefix e es number why)
    entry_by None passed (inr file) trees =
        let more = later n (omega arith) prefix in
        (with_leaves (leaf_of prefix e ∷ []) more.0, leaf n prefix e es more.0 passed file more.1)
    entry_by None passed (inl is) trees =
        let path = prefix ++ e.name ++ 47 ∷ [] in
        let t = trees path e.id in
        after_tree t.0 passed is (left_at_most n (whole_tree path e.id) t.0 t.1) t.1

  entries_yield : (es : List TreeEntry) (n : ℕ) → ((m : ℕ) → m ≤ n → TreesYield m) → EntriesYield n es
  entries_yield [] n trees prefix = (Ok ([], n), ended n prefix)
  entries_yield (e ∷ es) n trees prefix =
      entry_by n prefix e es (λ left le. entries_yield es left (λ m few. trees m (omega (arith, le, few))))
      (leaf_rejection check e) refl (tree_or_leaf (kind_of_mode e.mode)) (trees n (omega arith))

  module _ (n : ℕ) (trees : (m : ℕ) → m ≤ n → TreesYield m) (prefix : List ℕ) (id : ObjectId) where
    opened_by : (bytes : List ℕ) → find id ≡ object objects.Tree bytes
        → IsSomeTree kind bytes ⊎ IsMalformedTree kind bytes → HasListing (suc n) (whole_tree prefix id)
    opened_by bytes e (inl t) =
        let more = entries_yield t.0 n trees prefix in
        (more.0, opened n prefix id bytes t.0 more.0 e t.1 more.1)
    opened_by bytes e (inr none) = (Err (Malformed id), unread n prefix id (Malformed id) (malformed bytes e none))

    asked_by : (found : Found) → find id ≡ found → HasListing (suc n) (whole_tree prefix id)
    asked_by absent e = (Err (NotFound id), unread n prefix id (NotFound id) (missing e))
    asked_by (fault number) e = (Err (Find id number), unread n prefix id (Find id number) (failed number e))
    asked_by (object objects.Tree bytes) e = opened_by bytes e (tree_or_malformed kind bytes)
    asked_by (object objects.Blob bytes) e =
        (Err (NotATree id), unread n prefix id (NotATree id) (other objects.Blob bytes e (λ is. absurd cc)))
    asked_by (object objects.Commit bytes) e =
        (Err (NotATree id), unread n prefix id (NotATree id) (other objects.Commit bytes e (λ is. absurd cc)))
    asked_by (object objects.Tag bytes) e =
        (Err (NotATree id), unread n prefix id (NotATree id) (other objects.Tag bytes e (λ is. absurd cc)))

  trees_yield : (n m : ℕ) → m ≤ n → TreesYield m
  trees_yield n zero le prefix id = (Err TooManyObjects, limit prefix id)
  trees_yield zero (suc m) le prefix id = absurd (omega (arith, le))
  trees_yield (suc n) (suc m) le prefix id =
      asked_by m (λ k few. trees_yield n k (omega (arith, le, few))) prefix id (find id) refl

  pub yields_some : (n : ℕ) (p : Part) → HasListing n p
  yields_some n (whole_tree prefix id) = trees_yield n n (omega arith) prefix id
  yields_some n (some_entries prefix es) = entries_yield es n (λ m few. trees_yield n m few) prefix

-- ---- the answer for a tree

-- a listing without what may be read after it
abbrev answer_of : LeavesAnswer → Result (List Record) LeavesFault
answer_of (Ok x) = Ok x.0
answer_of (Err f) = Err f

module _ (find : ObjectId → Found) (check : List ℕ → Bool → Option ℕ) (root : ObjectId) (most : ℕ) where
  listing_answers : (r : LeavesAnswer) → Yields find check (id_kind root) most (whole_tree [] root) r
      → AreLeaves find check root most (answer_of r)
  listing_answers (Ok x) y = (x.1, y)
  listing_answers (Err f) y = y

  listing_behind : (a : Result (List Record) LeavesFault) → AreLeaves find check root most a
      → (r : LeavesAnswer) × Yields find check (id_kind root) most (whole_tree [] root) r × (answer_of r ≡ a)
  listing_behind (Ok rs) h = (Ok (rs, h.0), h.1, refl)
  listing_behind (Err f) h = (Err f, h, refl)

  pub leaves_some : (a : Result (List Record) LeavesFault) × AreLeaves find check root most a
  leaves_some =
      let l = yields_some find check (id_kind root) most (whole_tree [] root) in
      (answer_of l.0, listing_answers l.0 l.1)

  pub leaves_one : (a b : Result (List Record) LeavesFault) → AreLeaves find check root most a
      → AreLeaves find check root most b → a ≡ b
  leaves_one a b h k =
      let x = listing_behind a h in
      let y = listing_behind b k in
      let same = yields_one find check (id_kind root) most (whole_tree [] root) x.0 y.0 x.1 y.1 in
      sym x.2 ∙ ap answer_of same ∙ y.2
