-- A list has one directory at most.
use Rattle.std.proofs.Common.{◌≡◌, ℕ, suc, List, [], ◌∷◌, ◌++◌, All, Bool, length, map, drop, get_or, refl, sym, ap}
use Rattle.std.proofs.Common.{subst, ◌∙◌, append_assoc, arith}
use Rattle.std.specs.Prelude.{◌≢◌}
use Rattle.std.specs.declared.cmp.Ordering.TheVariants.{Less}
use Rattle.std.proofs.lemmas.Cmp.{nat_list_cmp_total, tied_itself}
use Rattle.std.proofs.lemmas.List.{append-nil, length-append}
use Rattle.std.proofs.lemmas.List.Elements.{All-append, All-cons, All-head, All-tail, All-nil, All-map}
use Rattle.std.proofs.lemmas.List.Prefix.{front_rest}
use Rattle.index_parts.specs.TreeObject.{TreeEntry}
use Rattle.index_parts.specs.declared.hash.Kind.{Kind}
use Rattle.index_parts.specs.declared.hash.ObjectId.{ObjectId}
use Rattle.index_parts.specs.declared.object.tree.EntryKind.{EntryKind}
use Rattle.index_parts.specs.declared.object.tree.EntryKind.TheVariants as kinds
use Rattle.entry_list.specs.Order.{path_cmp}
use Rattle.entry_list.specs.TreeOrder.{IsGitOrdered, sorted_name}
use Rattle.tree_encode.specs.Directory.{DirectoryItem, DirectoryItems, leaf, directory, no_more, next, IsDirectoryItem}
use Rattle.tree_encode.specs.Directory.{AreDirectoryItems, entries}
use Rattle.tree_encode.specs.Directory.{entry_of, item_leaves, leaves, key}
use Rattle.tree_encode.specs.Staged.{Staged}
use Rattle.tree_encode.proofs.Begun.{leaf_sorted}
use Rattle.tree_encode.proofs.PathNames.{NoSlash, first_slash, no_slash_in}
use Rattle.tree_encode.proofs.Pushes.{leaves_under, under}

-- ---- paths that begin with a component and more, or with that alone

abbrev pub Within : List ℕ → Staged → Type 0
Within name s = (x : List ℕ) × (s.path ≡ name ++ 47 ∷ x)

some_first : (name : List ℕ) (k : EntryKind) → name ≢ [] → key name k ≢ []
some_first [] k h e = h refl
some_first (c ∷ name) kinds.Tree h e = absurd cc
some_first (c ∷ name) kinds.Blob h e = absurd cc
some_first (c ∷ name) kinds.BlobExecutable h e = absurd cc
some_first (c ∷ name) kinds.Link h e = absurd cc
some_first (c ∷ name) kinds.Commit h e = absurd cc

-- a leaf whose path begins with a component and a slash has that as its key
leaf_within : (name n : List ℕ) (k : EntryKind) (x : List ℕ) → NoSlash name → NoSlash n → key n k ≡ name ++ 47 ∷ x
    → (x ≡ []) × (key n k ≡ name ++ 47 ∷ [])
leaf_within name n kinds.Tree x h g e =
    let f = first_slash n name [] x g h e in
    (sym f.1, ap (λ (l : List ℕ). l ++ 47 ∷ []) f.0)
leaf_within name n kinds.Blob x h g e = absurd (no_slash_in n name x g e)
leaf_within name n kinds.BlobExecutable x h g e = absurd (no_slash_in n name x g e)
leaf_within name n kinds.Link x h g e = absurd (no_slash_in n name x g e)
leaf_within name n kinds.Commit x h g e = absurd (no_slash_in n name x g e)

-- ---- lists in two parts

split_once : {X : Type 0} (P : X → Type 0) (a c b d : List X) → All P a → All P c → All (λ x. P x → ⊥) b
    → All (λ x. P x → ⊥) d → a ++ b ≡ c ++ d → (a ≡ c) × (b ≡ d)
split_once P [] [] b d pa pc nb nd e = (refl, e)
split_once P [] (z ∷ c) b d pa pc nb nd e =
    absurd (All-head (λ x. P x → ⊥) z (c ++ d) (subst (All (λ x. P x → ⊥)) e nb) (All-head P z c pc))
split_once P (y ∷ a) [] b d pa pc nb nd e =
    absurd (All-head (λ x. P x → ⊥) y (a ++ b) (subst (All (λ x. P x → ⊥)) (sym e) nd) (All-head P y a pa))
split_once P (y ∷ a) (z ∷ c) b d pa pc nb nd e =
    let head : y ≡ z = cc in
    let tail : a ++ b ≡ c ++ d = cc in
    let r = split_once P a c b d (All-tail P y a pa) (All-tail P z c pc) nb nd tail in
    (ap (λ (x : _). x ∷ a) head ∙ ap (λ (l : List _). z ∷ l) r.0, r.1)

pub same_under : (f : List ℕ) (a b : List Staged) → map (under f) a ≡ map (under f) b → a ≡ b
same_under f [] [] e = refl
same_under f [] (t ∷ b) e = absurd cc
same_under f (s ∷ a) [] e = absurd cc
same_under f (s ∷ a) (t ∷ b) e =
    let head : under f s ≡ under f t = cc in
    let tail : map (under f) a ≡ map (under f) b = cc in
    let path : s.path ≡ t.path = sym (front_rest (f ++ s.path) f s.path refl)
    ∙ ap (drop (length f)) (ap (λ (u : Staged). u.path) head) ∙ front_rest (f ++ t.path) f t.path refl in
    let kind : s.kind ≡ t.kind = ap (λ (u : Staged). u.kind) head in
    let id : s.id ≡ t.id = ap (λ (u : Staged). u.id) head in
    let later : s.later ≡ t.later = ap (λ (u : Staged). u.later) head in
    let same : s ≡ t = ap (λ (p : List ℕ). record { path = p; kind = s.kind; id = s.id; later = s.later }) path
    ∙ ap (λ (k : EntryKind). record { path = t.path; kind = k; id = s.id; later = s.later }) kind
    ∙ ap (λ (i : ObjectId). record { path = t.path; kind = t.kind; id = i; later = s.later }) id
    ∙ ap (λ (b : Bool). record { path = t.path; kind = t.kind; id = t.id; later = b }) later in
    ap (λ (x : Staged). x ∷ a) same ∙ ap (λ (l : List Staged). t ∷ l) (same_under f a b tail)

-- ---- the leaves of a directory

abbrev pub slashed : List ℕ → List ℕ
slashed name = name ++ 47 ∷ []

pub dir_leaves : (name : List ℕ) (items : DirectoryItems)
    → leaves (slashed name) items ≡ map (under (slashed name)) (leaves [] items)
dir_leaves name items =
    ap (λ (p : List ℕ). leaves p items) (sym (append-nil (slashed name))) ∙ leaves_under (slashed name) [] items

pub all_within : (name : List ℕ) (items : DirectoryItems) → All (Within name) (leaves (slashed name) items)
all_within name items = subst (All (Within name)) (sym (dir_leaves name items))
    (All-map (Within name) (under (slashed name)) (leaves [] items) (each (leaves [] items)))
  where
    each : (ss : List Staged) → All (λ s. Within name (under (slashed name) s)) ss
    each ss = λ k d within. ((get_or ss k d).path, append_assoc name (47 ∷ []) (get_or ss k d).path)

pub record HasFirst (ss : List Staged) : Type 0 where
  pub first : Staged
  pub others : List Staged
  pub is : ss ≡ first ∷ others
  pub some : first.path ≢ []

first_in : (name : List ℕ) (items : DirectoryItems) → HasFirst (leaves [] items)
    → HasFirst (leaves (slashed name) items)
first_in name items h = record {
  first = under (slashed name) h.first;
  others = map (under (slashed name)) h.others;
  is = dir_leaves name items ∙ ap (map (under (slashed name))) h.is;
  some = λ e. omega (arith, ap length e, length-append (slashed name) h.first.path, length-append name (47 ∷ []));
}

behind_first : (a b : List Staged) → HasFirst a → HasFirst (a ++ b)
behind_first a b h =
    record { first = h.first; others = h.others ++ b; is = ap (λ (l : List Staged). l ++ b) h.is; some = h.some }

mutual
  first_of_item : (kind : Kind) (x : DirectoryItem) → IsDirectoryItem kind x → HasFirst (item_leaves [] x)
  first_of_item kind (leaf name k id u) h = record {
    first = record { path = key name k; kind = k; id = id; later = u };
    others = [];
    is = refl;
    some = some_first name k h.0.some;
  }
  first_of_item kind (directory name items) h = first_in name items (first_of_items kind items h.2 h.1)

  pub first_of_items : (kind : Kind) (xs : DirectoryItems) → AreDirectoryItems kind xs → xs ≢ no_more
      → HasFirst (leaves [] xs)
  first_of_items kind no_more h some = absurd (some refl)
  first_of_items kind (next x xs) h some = behind_first (item_leaves [] x) (leaves [] xs) (first_of_item kind x h.0)

-- ---- a name once

abbrev pub Other : List ℕ → TreeEntry → Type 0
Other name e = sorted_name e ≡ slashed name → ⊥

item_apart : (kind : Kind) (name : List ℕ) (z : DirectoryItem) → NoSlash name → IsDirectoryItem kind z
    → Other name (entry_of kind z)
    → All (λ s. Within name s → ⊥) (item_leaves [] z)
item_apart kind name (leaf n k id u) g h o =
    All-cons (λ s. Within name s → ⊥) (record { path = key n k; kind = k; id = id; later = u }) [] (λ w.
    o (leaf_sorted n k id u kind ∙ (leaf_within name n k w.0 g h.0.component w.1).1)) (All-nil (λ s. Within name s → ⊥))
item_apart kind name (directory n is) g h o = λ k d within w.
    let v = all_within n is k d within in
    let f = first_slash n name v.0 w.0 h.0.component g (sym v.1 ∙ w.1) in
    o (ap slashed f.0)

pub items_apart : (kind : Kind) (name : List ℕ) (zs : DirectoryItems) → NoSlash name → AreDirectoryItems kind zs
    → All (Other name) (entries kind zs) → All (λ s. Within name s → ⊥) (leaves [] zs)
items_apart kind name no_more g h o = All-nil (λ s. Within name s → ⊥)
items_apart kind name (next z zs) g h o =
    All-append (λ s. Within name s → ⊥) (item_leaves [] z) (leaves [] zs)
    (item_apart kind name z g h.0 (All-head (Other name) (entry_of kind z) (entries kind zs) o))
    (items_apart kind name zs g h.1 (All-tail (Other name) (entry_of kind z) (entries kind zs) o))

pub tail_ordered : (e : TreeEntry) (es : List TreeEntry) → IsGitOrdered (e ∷ es) → IsGitOrdered es
tail_ordered e es h = record {
  components = All-tail (λ e. All (λ b. b ≢ 47) e.name) e es h.components;
  less = λ i j d lt within. h.less (suc i) (suc j) d (omega (arith, lt)) (omega (arith, within));
}

pub others_apart : (e : TreeEntry) (es : List TreeEntry) (name : List ℕ) → sorted_name e ≡ slashed name
    → IsGitOrdered (e ∷ es) → All (Other name) es
others_apart e es name is h = λ k d within same.
    let less : path_cmp (sorted_name e) (sorted_name (get_or es k d)) ≡ Less =
    h.less 0 (suc k) d (omega arith) (omega (arith, within)) in
    let itself : path_cmp (slashed name) (slashed name) ≡ Less =
    subst (λ (l : List ℕ). path_cmp (slashed name) l ≡ Less) same
    (subst (λ (l : List ℕ). path_cmp l (sorted_name (get_or es k d)) ≡ Less) is less) in
    let tie = tied_itself nat_list_cmp_total (slashed name) in
    absurd (cc (tie, itself))

-- ---- the first item, and the others

leaf_or_directory : (kind : Kind) (n name : List ℕ) (k : EntryKind) (id : ObjectId) (u : Bool) (items : DirectoryItems)
    (a b : List Staged) → IsDirectoryItem kind (leaf n k id u) → IsDirectoryItem kind (directory name items)
    → record { path = key n k; kind = k; id = id; later = u } ∷ a ≡ leaves (slashed name) items ++ b → ⊥
unfolding first_in
leaf_or_directory kind n name k id u items a b h g e =
    let inner = first_of_items kind items g.2 g.1 in
    let f = first_in name items inner in
    let whole : record { path = key n k; kind = k; id = id; later = u } ∷ a ≡ f.first ∷ (f.others ++ b) =
    e ∙ ap (λ (l : List Staged). l ++ b) f.is in
    let head : record { path = key n k; kind = k; id = id; later = u } ≡ f.first = cc (whole) in
    let path : key n k ≡ slashed name ++ inner.first.path = ap (λ (s : Staged). s.path) head in
    inner.some (leaf_within name n k inner.first.path g.0.component h.0.component
    (path ∙ append_assoc name (47 ∷ []) inner.first.path)).0

same_name : (kind : Kind) (n m : List ℕ) (is js : DirectoryItems) (a b : List Staged)
    → IsDirectoryItem kind (directory n is)
    → IsDirectoryItem kind (directory m js) → leaves (slashed n) is ++ a ≡ leaves (slashed m) js ++ b → n ≡ m
unfolding first_in
same_name kind n m is js a b h g e =
    let i = first_of_items kind is h.2 h.1 in
    let j = first_of_items kind js g.2 g.1 in
    let f = first_in n is i in
    let k = first_in m js j in
    let whole : f.first ∷ (f.others ++ a) ≡ k.first ∷ (k.others ++ b) =
    sym (ap (λ (l : List Staged). l ++ a) f.is) ∙ e ∙ ap (λ (l : List Staged). l ++ b) k.is in
    let head : f.first ≡ k.first = cc (whole) in
    let path : slashed n ++ i.first.path ≡ slashed m ++ j.first.path = ap (λ (s : Staged). s.path) head in
    (first_slash n m i.first.path j.first.path h.0.component g.0.component
    (sym (append_assoc n (47 ∷ []) i.first.path) ∙ path ∙ append_assoc m (47 ∷ []) j.first.path)).0

split_items : (kind : Kind) (x y : DirectoryItem) (xs ys : DirectoryItems) → IsDirectoryItem kind x
    → IsDirectoryItem kind y → AreDirectoryItems kind xs
    → AreDirectoryItems kind ys → IsGitOrdered (entry_of kind x ∷ entries kind xs)
    → IsGitOrdered (entry_of kind y ∷ entries kind ys)
    → item_leaves [] x ++ leaves [] xs ≡ item_leaves [] y ++ leaves [] ys
    → (item_leaves [] x ≡ item_leaves [] y) × (leaves [] xs ≡ leaves [] ys)
split_items kind (leaf n k id u) (leaf m l i v) xs ys hx hy hxs hys ox oy e =
    let head : record { path = key n k; kind = k; id = id; later = u }
    ≡ record { path = key m l; kind = l; id = i; later = v } = cc in
    let tail : leaves [] xs ≡ leaves [] ys = cc in
    (ap (λ (s : Staged). s ∷ []) head, tail)
split_items kind (leaf n k id u) (directory m js) xs ys hx hy hxs hys ox oy e =
    absurd (leaf_or_directory kind n m k id u js (leaves [] xs) (leaves [] ys) hx hy e)
split_items kind (directory n is) (leaf m l i v) xs ys hx hy hxs hys ox oy e =
    absurd (leaf_or_directory kind m n l i v is (leaves [] ys) (leaves [] xs) hy hx (sym e))
split_items kind (directory n is) (directory m js) xs ys hx hy hxs hys ox oy e =
    let name : n ≡ m = same_name kind n m is js (leaves [] xs) (leaves [] ys) hx hy e in
    split_once (Within n) (leaves (slashed n) is) (leaves (slashed m) js) (leaves [] xs) (leaves [] ys)
    (all_within n is) (subst (λ (l : List ℕ). All (Within l) (leaves (slashed m) js)) (sym name) (all_within m js))
    (items_apart kind n xs hx.0.component hxs
    (others_apart (entry_of kind (directory n is)) (entries kind xs) n refl ox))
    (items_apart kind n ys hx.0.component hys
    (others_apart (entry_of kind (directory m js)) (entries kind ys) n (ap slashed (sym name)) oy)) e

-- ---- one directory

same_key : (n m : List ℕ) (k l : EntryKind) → k ≡ l → key n k ≡ key m l → n ≡ m
same_key n m k l s e = by k (e ∙ ap (key m) (sym s))
  where
    last_off : (a b : List ℕ) → slashed a ≡ slashed b → a ≡ b
    last_off [] [] d = refl
    last_off [] (y ∷ b) d = absurd (omega (arith, ap length d, length-append b (47 ∷ [])))
    last_off (x ∷ a) [] d = absurd (omega (arith, ap length d, length-append a (47 ∷ [])))
    last_off (x ∷ a) (y ∷ b) d =
        let head : x ≡ y = cc in
        let tail : slashed a ≡ slashed b = cc in
        ap (λ (c : ℕ). c ∷ a) head ∙ ap (λ (r : List ℕ). y ∷ r) (last_off a b tail)

    by : (k : EntryKind) → key n k ≡ key m k → n ≡ m
    by kinds.Tree d = last_off n m d
    by kinds.Blob d = d
    by kinds.BlobExecutable d = d
    by kinds.Link d = d
    by kinds.Commit d = d

mutual
  same_item : (kind : Kind) (x y : DirectoryItem) → IsDirectoryItem kind x → IsDirectoryItem kind y
      → item_leaves [] x ≡ item_leaves [] y → x ≡ y
  same_item kind (leaf n k id u) (leaf m l i v) h g e =
      let head : record { path = key n k; kind = k; id = id; later = u }
      ≡ record { path = key m l; kind = l; id = i; later = v } = cc in
      let kind_same : k ≡ l = ap (λ (s : Staged). s.kind) head in
      let id_same : id ≡ i = ap (λ (s : Staged). s.id) head in
      let later_same : u ≡ v = ap (λ (s : Staged). s.later) head in
      let name_same : n ≡ m = same_key n m k l kind_same (ap (λ (s : Staged). s.path) head) in
      cc
  same_item kind (leaf n k id u) (directory m js) h g e =
      absurd (leaf_or_directory kind n m k id u js [] [] h g (e ∙ sym (append-nil (leaves (slashed m) js))))
  same_item kind (directory n is) (leaf m l i v) h g e =
      absurd (leaf_or_directory kind m n l i v is [] [] g h (sym e ∙ sym (append-nil (leaves (slashed n) is))))
  same_item kind (directory n is) (directory m js) h g e =
      let name : n ≡ m = same_name kind n m is js [] [] h g (ap (λ (l : List Staged). l ++ []) e) in
      let inner : map (under (slashed n)) (leaves [] is) ≡ map (under (slashed n)) (leaves [] js) =
      sym (dir_leaves n is) ∙ e ∙ ap (λ (l : List ℕ). leaves (slashed l) js) (sym name) ∙ dir_leaves n js in
      let same : is ≡ js =
      same_items kind is js h.2 h.3 g.2 g.3 (same_under (slashed n) (leaves [] is) (leaves [] js) inner) in
      ap (λ (l : List ℕ). directory l is) name ∙ ap (directory m) same

  pub same_items : (kind : Kind) (xs ys : DirectoryItems) → AreDirectoryItems kind xs
      → IsGitOrdered (entries kind xs) → AreDirectoryItems kind ys
      → IsGitOrdered (entries kind ys) → leaves [] xs ≡ leaves [] ys → xs ≡ ys
  same_items kind no_more no_more h o g p e = refl
  same_items kind no_more (next y ys) h o g p e =
      let f = behind_first (item_leaves [] y) (leaves [] ys) (first_of_item kind y g.0) in
      absurd (cc (e, f.is))
  same_items kind (next x xs) no_more h o g p e =
      let f = behind_first (item_leaves [] x) (leaves [] xs) (first_of_item kind x h.0) in
      absurd (cc (e, f.is))
  same_items kind (next x xs) (next y ys) h o g p e =
      let s = split_items kind x y xs ys h.0 g.0 h.1 g.1 o p e in
      let first : x ≡ y = same_item kind x y h.0 g.0 s.0 in
      let rest : xs ≡ ys = same_items kind xs ys h.1 (tail_ordered (entry_of kind x) (entries kind xs) o) g.1
      (tail_ordered (entry_of kind y) (entries kind ys) p) s.1 in
      ap (λ (z : DirectoryItem). next z xs) first ∙ ap (next y) rest
