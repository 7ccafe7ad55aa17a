-- What is ready to be written has a directory: leaves are put before those after them, one by one.
use Rattle.std.proofs.Common.{◌≡◌, ◌⊎◌, inl, inr, ℕ, suc, ◌-◌, List, [], ◌∷◌, ◌++◌, All, Bool, map, get_or, refl, sym}
use Rattle.std.proofs.Common.{ap, subst, ◌∙◌, append_assoc, arith}
use Rattle.std.specs.Prelude.{◌≢◌}
use Rattle.std.specs.declared.cmp.Ordering.{Ordering}
use Rattle.std.specs.declared.cmp.Ordering.TheVariants.{Less, Equal, Greater}
use Rattle.std.proofs.lemmas.Cmp.{nat_list_cmp_total, tied_itself}
use Rattle.std.proofs.lemmas.List.{append-nil, get_or_append_left, length-append}
use Rattle.std.proofs.lemmas.List.Elements.{All-cons, All-head, All-nil, All-tail}
use Rattle.std.proofs.lemmas.List.Kept.{AllPairs-cons}
use Rattle.std.proofs.lemmas.Map.Lookups.{exact_bytes}
use Rattle.index_parts.specs.declared.hash.Kind.{Kind}
use Rattle.index_parts.specs.declared.hash.ObjectId.{ObjectId}
use Rattle.index_parts.specs.TreeObject.{TreeEntry}
use Rattle.index_parts.specs.declared.object.tree.EntryKind.{EntryKind}
use Rattle.index_parts.specs.declared.object.tree.EntryKind.TheVariants as kinds
use Rattle.entry_list.specs.Order.{path_cmp}
use Rattle.entry_list.specs.TreeOrder.{IsGitOrdered, sorted_name}
use Rattle.tree_encode.specs.Directory.{DirectoryItem, DirectoryItems, leaf, directory, no_more, next, IsPathComponent}
use Rattle.tree_encode.specs.Directory.{IsDirectoryItem, AreDirectoryItems}
use Rattle.tree_encode.specs.Directory.{IsDirectory, IsTreeOf, entries, entry_of, item_leaves, leaves, key}
use Rattle.tree_encode.specs.Refusals.{HasPathPrefix, NameCheck, IsInside, IsTreePath, of_file, of_directory, beneath}
use Rattle.tree_encode.specs.Staged.{Staged}
use Rattle.tree_encode.specs.WritingSteps.{Ahead, IsComponent, IsLeaf, IsReady}
use Rattle.tree_encode.proofs.Aparts.{not_after}
use Rattle.tree_encode.proofs.Begun.{leaf_sorted}
use Rattle.tree_encode.proofs.OneTree.{HasFirst, dir_leaves, first_of_items, slashed, tail_ordered}
use Rattle.tree_encode.proofs.PathNames.{NoSlash, ahead_from, first_slash, no_slash_in, path_some}
use Rattle.tree_encode.proofs.Ready.{ahead_directory, pairs_head, ready_back, ready_behind, ready_front}
use Rattle.tree_encode.proofs.Pushes.{under}

abbrev Rises : Staged → Staged → Type 0
Rises s t = path_cmp s.path t.path ≡ Less

abbrev Outside : Staged → Staged → Type 0
Outside s t = IsInside t.path s → ⊥

-- ---- names in order

name_key : (name : List ℕ) (k : EntryKind) → NoSlash name → IsComponent (key name k) name (key name k)
name_key name kinds.Tree h =
    record { component = h; is = inl refl; rest = []; parts = sym (append-nil (name ++ 47 ∷ [])) }
name_key name kinds.Blob h = record { component = h; is = inr (refl, refl); rest = []; parts = sym (append-nil name) }
name_key name kinds.BlobExecutable h =
    record { component = h; is = inr (refl, refl); rest = []; parts = sym (append-nil name) }
name_key name kinds.Link h = record { component = h; is = inr (refl, refl); rest = []; parts = sym (append-nil name) }
name_key name kinds.Commit h = record { component = h; is = inr (refl, refl); rest = []; parts = sym (append-nil name) }

pub file_key : (name : List ℕ) (k : EntryKind) → k ≢ kinds.Tree → key name k ≡ name
file_key name kinds.Tree h = absurd (h refl)
file_key name kinds.Blob h = refl
file_key name kinds.BlobExecutable h = refl
file_key name kinds.Link h = refl
file_key name kinds.Commit h = refl

all_back : (P : Staged → Type 0) (xs ys : List Staged) → All P (xs ++ ys) → All P ys
all_back P [] ys h = h
all_back P (x ∷ xs) ys h = all_back P xs ys (All-tail P x (xs ++ ys) h)

all_front : (P : Staged → Type 0) (xs ys : List Staged) → All P (xs ++ ys) → All P xs
all_front P xs ys h k d within =
    subst P (get_or_append_left xs ys d k within) (h k d (omega (arith, within, length-append xs ys)))

-- a name that is below all leaves of an item is below that of the item
item_above : (kind : Kind) (last : List ℕ) (x : DirectoryItem) → IsDirectoryItem kind x
    → All (Ahead last) (item_leaves [] x)
    → path_cmp last (sorted_name (entry_of kind x)) ≡ Less
item_above kind last (leaf name k id u) h a =
    let s : Staged = record { path = key name k; kind = k; id = id; later = u } in
    let less : path_cmp last (key name k) ≡ Less =
    All-head (Ahead last) s [] a name (key name k) (name_key name k h.0.component) in
    subst (λ (l : List ℕ). path_cmp last l ≡ Less) (sym (leaf_sorted name k id u kind)) less
item_above kind last (directory name items) h a = by (first_of_items kind items h.2 h.1)
  where
    by : HasFirst (leaves [] items) → path_cmp last (slashed name) ≡ Less
    by f =
        let all : All (Ahead last) (map (under (slashed name)) (leaves [] items)) =
        subst (All (Ahead last)) (dir_leaves name items) a in
        let some : All (Ahead last) (under (slashed name) f.first ∷ map (under (slashed name)) f.others) =
        subst (λ (l : List Staged). All (Ahead last) (map (under (slashed name)) l)) f.is all in
        All-head (Ahead last) (under (slashed name) f.first) (map (under (slashed name)) f.others) some name
        (slashed name) (record { component = h.0.component; is = inl refl; rest = f.first.path; parts = refl })

abbrev IsAbove : List ℕ → TreeEntry → Type 0
IsAbove last e = path_cmp last (sorted_name e) ≡ Less

items_above : (kind : Kind) (last : List ℕ) (xs : DirectoryItems) → AreDirectoryItems kind xs
    → All (Ahead last) (leaves [] xs)
    → All (IsAbove last) (entries kind xs)
items_above kind last no_more h a = All-nil (IsAbove last)
items_above kind last (next x xs) h a =
    All-cons (IsAbove last) (entry_of kind x) (entries kind xs)
    (item_above kind last x h.0 (all_front (Ahead last) (item_leaves [] x) (leaves [] xs) a))
    (items_above kind last xs h.1 (all_back (Ahead last) (item_leaves [] x) (leaves [] xs) a))

ordered_cons : (e : TreeEntry) (es : List TreeEntry) → NoSlash e.name → All (IsAbove (sorted_name e)) es
    → IsGitOrdered es → IsGitOrdered (e ∷ es)
ordered_cons e es name above h = record {
  components = All-cons (λ e. All (λ b. b ≢ 47) e.name) e es name h.components;
  less = AllPairs-cons (λ d e. path_cmp (sorted_name d) (sorted_name e) ≡ Less) e es above h.less;
}

ordered_head : (e : TreeEntry) (es : List TreeEntry) → IsGitOrdered (e ∷ es) → All (IsAbove (sorted_name e)) es
ordered_head e es h k d within = h.less 0 (suc k) d (omega arith) (omega (arith, within))

-- ---- an item in front

item_name : (kind : Kind) (x : DirectoryItem) → IsDirectoryItem kind x → NoSlash (entry_of kind x).name
item_name kind (leaf name k id u) h = h.0.component
item_name kind (directory name items) h = h.0.component

abbrev HasTree : Kind → List Staged → Type 0
HasTree kind ss = (items : DirectoryItems) × IsTreeOf kind ss items

put_first : (kind : Kind) (x : DirectoryItem) (xs : DirectoryItems) (shown : List ℕ) (ss : List Staged)
    → IsDirectoryItem kind x
    → sorted_name (entry_of kind x) ≡ shown → item_leaves [] x ≡ ss → All (Ahead shown) (leaves [] xs)
    → IsDirectory kind xs → HasTree kind (ss ++ leaves [] xs)
put_first kind x xs shown ss h is listed ahead dir =
    let above : All (IsAbove (sorted_name (entry_of kind x))) (entries kind xs) =
    subst (λ (l : List ℕ). All (IsAbove l) (entries kind xs)) (sym is) (items_above kind shown xs dir.made ahead) in (
      next x xs,
      record {
        directory = record {
          made = (h, dir.made);
          ordered = ordered_cons (entry_of kind x) (entries kind xs) (item_name kind x h) above dir.ordered;
        };
        leaves = ap (λ (l : List Staged). l ++ leaves [] xs) listed;
      },
    )

abbrev here : List ℕ → EntryKind → ObjectId → Bool → Staged
here path k id u = record { path = path; kind = k; id = id; later = u }

-- a file
put_file : (kind : Kind) (check : NameCheck) (levels : ℕ) (k : EntryKind) (name : List ℕ) (id : ObjectId) (u : Bool)
    (xs : DirectoryItems) → k ≢ kinds.Tree → IsPathComponent name
    → IsReady kind levels (here name k id u ∷ leaves [] xs)
    → IsDirectory kind xs → HasTree kind (here name k id u ∷ leaves [] xs)
put_file kind check levels k name id u xs file named ready dir =
    let at = All-head (IsLeaf kind levels) (here name k id u) (leaves [] xs) ready.each in
    let is : key name k ≡ name = file_key name k file in
    put_first kind (leaf name k id u) xs name (here name k id u ∷ []) (named, at.of_kind, at.len)
    (leaf_sorted name k id u kind ∙ is) (ap (λ (p : List ℕ). here p k id u ∷ []) is)
    (λ i d within. ahead_from name (get_or (leaves [] xs) i d)
    (pairs_head Rises (here name k id u) (leaves [] xs) ready.rise i d within) (inl named.component)) dir

-- an item that represents a complete directory
put_whole : (kind : Kind) (levels : ℕ) (name : List ℕ) (id : ObjectId) (u : Bool) (xs : DirectoryItems)
    → IsPathComponent name
    → IsReady kind levels (here (slashed name) kinds.Tree id u ∷ leaves [] xs) → IsDirectory kind xs
    → HasTree kind (here (slashed name) kinds.Tree id u ∷ leaves [] xs)
put_whole kind levels name id u xs named ready dir =
    let s = here (slashed name) kinds.Tree id u in
    let at = All-head (IsLeaf kind levels) s (leaves [] xs) ready.each in
    put_first kind (leaf name kinds.Tree id u) xs (slashed name) (s ∷ []) (named, at.of_kind, at.len)
    (leaf_sorted name kinds.Tree id u kind) refl
    (λ i d within.
    ahead_from (slashed name) (get_or (leaves [] xs) i d) (pairs_head Rises s (leaves [] xs) ready.rise i d within)
    (inr (name, refl, named.component, λ b. pairs_head Outside s (leaves [] xs) ready.outside i d within (refl, b))))
    dir

-- ---- the items in a directory

leaf_begins : (name m x : List ℕ) (k : EntryKind) → NoSlash name → NoSlash m → key m k ≡ name ++ 47 ∷ x
    → key m k ≡ slashed name
leaf_begins name m x kinds.Tree h g e = ap slashed (first_slash m name [] x g h e).0
leaf_begins name m x kinds.Blob h g e = absurd (no_slash_in m name x g e)
leaf_begins name m x kinds.BlobExecutable h g e = absurd (no_slash_in m name x g e)
leaf_begins name m x kinds.Link h g e = absurd (no_slash_in m name x g e)
leaf_begins name m x kinds.Commit h g e = absurd (no_slash_in m name x g e)

-- a first item that isn't the directory of a name has no first leaf in it
first_stops : (kind : Kind) (name rest : List ℕ) (x : DirectoryItem) (back : List Staged) → NoSlash name
    → IsDirectoryItem kind x
    → ((items : DirectoryItems) → x ≡ directory name items → ⊥)
    → All (λ t. path_cmp (slashed name ++ rest) t.path ≡ Less) (item_leaves [] x ++ back)
    → (first : Staged) (others : List Staged) → item_leaves [] x ++ back ≡ first ∷ others
    → HasPathPrefix first.path (slashed name) → ⊥
first_stops kind name rest (leaf m k id u) back h g other less first others e b =
    let head : here (key m k) k id u ≡ first = cc in
    let path : key m k ≡ name ++ 47 ∷ b.0 = ap (λ (s : Staged). s.path) head ∙ b.1 ∙ append_assoc name (47 ∷ []) b.0 in
    let same : key m k ≡ slashed name = leaf_begins name m b.0 k h g.0.component path in
    let lower : path_cmp (slashed name ++ rest) (slashed name) ≡ Less =
    subst (λ (l : List ℕ). path_cmp (slashed name ++ rest) l ≡ Less) same
    (All-head (λ t. path_cmp (slashed name ++ rest) t.path ≡ Less) (here (key m k) k id u) back less) in
    not_after (slashed name ++ rest) (slashed name) lower (rest, refl)
first_stops kind name rest (directory m js) back h g other less first others e b = by (first_of_items kind js g.2 g.1)
  where
    by : HasFirst (leaves [] js) → ⊥
    by f =
        let whole : under (slashed m) f.first ∷ (map (under (slashed m)) f.others ++ back) ≡ first ∷ others =
        ap (λ (l : List Staged). map (under (slashed m)) l ++ back) (sym f.is)
        ∙ ap (λ (l : List Staged). l ++ back) (sym (dir_leaves m js)) ∙ e in
        let head : under (slashed m) f.first ≡ first = cc (whole) in
        let path : m ++ 47 ∷ f.first.path ≡ name ++ 47 ∷ b.0 = sym (append_assoc m (47 ∷ []) f.first.path)
        ∙ ap (λ (s : Staged). s.path) head ∙ b.1 ∙ append_assoc name (47 ∷ []) b.0 in
        let same : m ≡ name = (first_slash m name f.first.path b.0 g.0.component h path).0 in
        other js (ap (λ (l : List ℕ). directory l js) same)

module _ (kind : Kind) (l : ℕ) (name rest : List ℕ) (k : EntryKind) (id : ObjectId) (u : Bool) (named : IsPathComponent
    name)
    (some : rest ≢ []) where
  abbrev s : Staged
  s = here (name ++ 47 ∷ rest) k id u

  abbrev t : Staged
  t = here rest k id u

  longer : slashed name ++ rest ≡ name ++ 47 ∷ rest
  longer = append_assoc name (47 ∷ []) rest

  front : under (slashed name) t ≡ s
  front = ap (λ (p : List ℕ). here p k id u) longer

  -- what is ready in it
  ready_in : (js : List Staged) → IsReady kind (suc l) (s ∷ map (under (slashed name)) js) → IsReady kind l (t ∷ js)
  ready_in js ready =
      let same : suc l - 1 ≡ l = omega arith in
      subst (λ (n : ℕ). IsReady kind n (t ∷ js)) same
      (ready_behind kind (suc l) name (slashed name) refl named.component t js some
      (subst (λ (x : Staged). IsReady kind (suc l) (x ∷ map (under (slashed name)) js)) (sym front) ready))

  -- it as an item, with what it holds
  directory_item : (js : List Staged) (inner : DirectoryItems) → IsTreeOf kind (t ∷ js) inner
      → IsDirectoryItem kind (directory name inner)
  directory_item js inner h = (named, not_empty, h.directory.made, h.directory.ordered)
    where
      not_empty : inner ≢ no_more
      not_empty e = let nothing : t ∷ js ≡ [] = sym h.leaves ∙ ap (leaves []) e in absurd cc

  directory_listed : (js : List Staged) (inner : DirectoryItems) → IsTreeOf kind (t ∷ js) inner
      → item_leaves [] (directory name inner) ≡ s ∷ map (under (slashed name)) js
  directory_listed js inner h = dir_leaves name inner ∙ ap (map (under (slashed name))) h.leaves
      ∙ ap (λ (x : Staged). x ∷ map (under (slashed name)) js) front

  -- a directory that isn't there yet
  put_directory : (xs : DirectoryItems) → IsReady kind (suc l) (s ∷ leaves [] xs) → IsDirectory kind xs
      → ((first : Staged) (others : List Staged) → leaves [] xs ≡ first ∷ others
      → HasPathPrefix first.path (slashed name)
      → ⊥) → HasTree kind (t ∷ []) → HasTree kind (s ∷ leaves [] xs)
  put_directory xs ready dir stops inner =
      let less : All (λ x. path_cmp (slashed name ++ rest) x.path ≡ Less) (leaves [] xs) =
      subst (λ (p : List ℕ). All (λ x. path_cmp p x.path ≡ Less) (leaves [] xs)) (sym longer)
      (pairs_head Rises s (leaves [] xs) ready.rise) in
      put_first kind (directory name inner.0) xs (slashed name) (s ∷ []) (directory_item [] inner.0 inner.1) refl
      (directory_listed [] inner.0 inner.1)
      (ahead_directory name (slashed name) rest (leaves [] xs) refl named.component less
      (ready_back kind (suc l) (s ∷ []) (leaves [] xs) ready).rise stops) dir

  ready_alone : (xs : List Staged) → IsReady kind (suc l) (s ∷ xs) → IsReady kind l (t ∷ [])
  ready_alone xs ready = ready_in [] (ready_front kind (suc l) (s ∷ []) xs ready)

  -- a directory that is there
  ready_there : (js xs : DirectoryItems) → IsReady kind (suc l) (s ∷ leaves [] (next (directory name js) xs))
      → IsReady kind l (t ∷ leaves [] js)
  ready_there js xs ready = ready_in (leaves [] js) (subst (λ (b : List Staged). IsReady kind (suc l) (s ∷ b))
      (dir_leaves name js) (ready_front kind (suc l) (s ∷ leaves (slashed name) js) (leaves [] xs) ready))

  put_there : (js xs : DirectoryItems) → IsDirectory kind (next (directory name js) xs)
      → HasTree kind (t ∷ leaves [] js)
      → HasTree kind (s ∷ leaves [] (next (directory name js) xs))
  put_there js xs dir inner =
      let item = directory_item (leaves [] js) inner.0 inner.1 in
      let tail = tail_ordered (entry_of kind (directory name js)) (entries kind xs) dir.ordered in
      let above = ordered_head (entry_of kind (directory name js)) (entries kind xs) dir.ordered in (
        next (directory name inner.0) xs,
        record {
          directory = record {
            made = (item, dir.made.1);
            ordered =
                ordered_cons (entry_of kind (directory name inner.0)) (entries kind xs) named.component above tail;
          };
          leaves = ap (λ (b : List Staged). b ++ leaves [] xs) (directory_listed (leaves [] js) inner.0 inner.1
              ∙ ap (λ (b : List Staged). s ∷ b) (sym (dir_leaves name js)));
        },
      )

-- ---- one more

empty_directory : (kind : Kind) → IsDirectory kind no_more
empty_directory kind = record {
  made = tt;
  ordered = record {
    components = All-nil (λ e. All (λ b. b ≢ 47) e.name);
    less = λ i j d lt within. absurd (omega (arith, within));
  };
}

names_judged : (a b : List ℕ) → (a ≡ b) ⊎ (a ≡ b → ⊥)
names_judged a b = by (path_cmp a b) refl
  where
    apart : (o : Ordering) → path_cmp a b ≡ o → (o ≡ Equal → ⊥) → a ≡ b → ⊥
    apart o e n same = n (sym e ∙ ap (path_cmp a) (sym same) ∙ tied_itself nat_list_cmp_total a)

    by : (o : Ordering) → path_cmp a b ≡ o → (a ≡ b) ⊎ (a ≡ b → ⊥)
    by Equal e = inl (exact_bytes a b e)
    by Less e = inr (apart Less e (λ z. absurd cc))
    by Greater e = inr (apart Greater e (λ z. absurd cc))

abbrev Grows : Kind → ℕ → EntryKind → List ℕ → ObjectId → Bool → Type 0
Grows kind levels k path id u = (xs : DirectoryItems) → IsReady kind levels (here path k id u ∷ leaves [] xs)
    → IsDirectory kind xs → HasTree kind (here path k id u ∷ leaves [] xs)

grown_beneath : (kind : Kind) (l : ℕ) (k : EntryKind) (name rest : List ℕ) (id : ObjectId) (u : Bool)
    → IsPathComponent name
    → rest ≢ [] → Grows kind l k rest id u → Grows kind (suc l) k (name ++ 47 ∷ rest) id u
grown_beneath kind l k name rest id u named some again no_more ready dir =
    put_directory kind l name rest k id u named some no_more ready dir (λ first others e b. absurd cc)
    (again no_more (ready_alone kind l name rest k id u named some [] ready) (empty_directory kind))
grown_beneath kind l k name rest id u named some again (next (leaf m j i v) xs) ready dir =
    put_directory kind l name rest k id u named some (next (leaf m j i v) xs) ready dir
    (first_stops kind name rest (leaf m j i v) (leaves [] xs) named.component dir.made.0 (λ items e. absurd cc)
    (subst (λ (p : List ℕ). All (λ x. path_cmp p x.path ≡ Less) (leaves [] (next (leaf m j i v) xs)))
    (sym (append_assoc name (47 ∷ []) rest))
    (pairs_head Rises (here (name ++ 47 ∷ rest) k id u) (leaves [] (next (leaf m j i v) xs)) ready.rise)))
    (again no_more (ready_alone kind l name rest k id u named some (leaves [] (next (leaf m j i v) xs)) ready)
    (empty_directory kind))
grown_beneath kind l k name rest id u named some again (next (directory m js) xs) ready dir = by (names_judged name m)
  where
    there : DirectoryItems → IsReady kind (suc l) (here (name ++ 47 ∷ rest) k id u ∷ leaves [] (next (directory name
        js) xs))
        → IsDirectory kind (next (directory name js) xs)
        → HasTree kind (here (name ++ 47 ∷ rest) k id u ∷ leaves [] (next (directory name js) xs))
    there _ r d = put_there kind l name rest k id u named some js xs d (again js
        (ready_there kind l name rest k id u named some js xs r) (record { made = d.made.0.2; ordered = d.made.0.3 }))

    other_name : (name ≡ m → ⊥) → (items : DirectoryItems) → directory m js ≡ directory name items → ⊥
    other_name n items e = let same : m ≡ name = cc in n (sym same)

    by : (name ≡ m) ⊎ (name ≡ m → ⊥)
        → HasTree kind (here (name ++ 47 ∷ rest) k id u ∷ leaves [] (next (directory m js) xs))
    by (inl e) =
        subst (λ (q : List ℕ). IsReady kind (suc l) (here (name ++ 47 ∷ rest) k id u
        ∷ leaves [] (next (directory q js) xs)) → IsDirectory kind (next (directory q js) xs)
        → HasTree kind (here (name ++ 47 ∷ rest) k id u ∷ leaves [] (next (directory q js) xs))) e
        (there no_more) ready dir
    by (inr n) =
        put_directory kind l name rest k id u named some (next (directory m js) xs) ready dir
        (first_stops kind name rest (directory m js) (leaves [] xs) named.component dir.made.0 (other_name n)
        (subst (λ (p : List ℕ). All (λ x. path_cmp p x.path ≡ Less) (leaves [] (next (directory m js) xs)))
        (sym (append_assoc name (47 ∷ []) rest))
        (pairs_head Rises (here (name ++ 47 ∷ rest) k id u) (leaves [] (next (directory m js) xs)) ready.rise)))
        (again no_more (ready_alone kind l name rest k id u named some (leaves [] (next (directory m js) xs)) ready)
        (empty_directory kind))

grown : (kind : Kind) (check : NameCheck) (levels : ℕ) (k : EntryKind) (path : List ℕ) → IsTreePath check levels k path
    → (id : ObjectId) (u : Bool) → Grows kind levels k path id u
grown kind check levels k path (of_file l j name t n r) id u xs ready dir =
    put_file kind check l j name id u xs t n ready dir
grown kind check levels k path (of_directory l name n r) id u xs ready dir =
    put_whole kind (suc l) name id u xs n ready dir
grown kind check levels k path (beneath l j name rest n r h) id u xs ready dir =
    grown_beneath kind l j name rest id u n (path_some check l j rest h) (grown kind check l j rest h id u) xs ready dir

-- ---- all

pub tree_of : (kind : Kind) (levels : ℕ) (ss : List Staged) → IsReady kind levels ss → HasTree kind ss
tree_of kind levels [] ready = (no_more, record { directory = empty_directory kind; leaves = refl })
tree_of kind levels (s ∷ ss) ready = by (tree_of kind levels ss (ready_back kind levels (s ∷ []) ss ready))
  where
    by : HasTree kind ss → HasTree kind (s ∷ ss)
    by r =
        let at = All-head (IsLeaf kind levels) s ss ready.each in
        subst (λ (l : List Staged). HasTree kind (s ∷ l)) r.1.leaves
        (grown kind at.check levels s.kind s.path at.path s.id s.later r.0
        (subst (λ (l : List Staged). IsReady kind levels (s ∷ l)) (sym r.1.leaves) ready) r.1.directory)
