-- What is staged has a directory: one that is begun goes on to its end, with the objects of its items in front.
use Rattle.std.proofs.Common.{◌≡◌, ◌⊎◌, inl, inr, ℕ, zero, suc, ◌+◌, ◌-◌, ◌<◌, ◌≤◌, List, [], ◌∷◌, ◌++◌, All, length}
use Rattle.std.proofs.Common.{get_or, map, refl, sym, ap, subst, ◌∙◌, append_assoc, arith}
use Rattle.std.specs.Prelude.{◌≢◌, Result, Ok, Err, OnErr}
use Rattle.std.specs.declared.cmp.Ordering.{Ordering}
use Rattle.std.specs.declared.cmp.Ordering.TheVariants.{Less, Equal, Greater}
use Rattle.std.proofs.lemmas.List.{append-nil, length-append}
use Rattle.std.proofs.lemmas.List.Elements.{All-cons, All-head, All-nil}
use Rattle.std.proofs.lemmas.List.Prefix.{front_rest}
use Rattle.index_parts.specs.declared.hash.Kind.{Kind}
use Rattle.index_parts.specs.declared.hash.ObjectId.{ObjectId}
use Rattle.index_parts.specs.declared.object.tree.EntryKind.{EntryKind}
use Rattle.index_parts.specs.declared.object.tree.EntryKind.TheVariants as kinds
use Rattle.entry_list.specs.Order.{path_cmp}
use Rattle.tree_encode.specs.Directory.{HoldsFirst, IsPathComponent, IsTreeOf, DirectoryItem, DirectoryItems}
use Rattle.tree_encode.specs.Directory.{directory, item_objects, key}
use Rattle.tree_encode.specs.Directory.{leaf, no_more, objects_below}
use Rattle.base_search.specs.Prefix.{prefix_cmp}
use Rattle.tree_encode.specs.Objects.{Taken, with_objects}
use Rattle.tree_encode.specs.Refusals.{HasPathPrefix, NameCheck, IsInside, IsTreePath, beneath, of_directory, of_file}
use Rattle.tree_encode.specs.Staged.{Staged, without_prefix}
use Rattle.tree_encode.specs.WritingSteps.{Ahead, Goes, IsComponent, IsLeaf, IsReady}
use Rattle.tree_encode.proofs.Begun.{IsBegun, items_directory, items_leaf, no_items}
use Rattle.tree_encode.proofs.PathNames.{Leaves, NoSlash, ahead_from, leaf_name, path_some}
use Rattle.tree_encode.proofs.Pushes.{objects_push, push, under}
use Rattle.tree_encode.proofs.Ranges.{cut_under_all}
use Rattle.tree_encode.proofs.Ready.{ahead_directory, ahead_none, all_back, named_behind, pairs_head, ready_back}
use Rattle.tree_encode.proofs.Ready.{ready_behind, ready_front}
use Rattle.tree_encode.proofs.RunEnds.{equal_goes, goes_equal}
use Rattle.tree_encode.proofs.Whole.{cut_none}

-- ---- the first component of a path

-- it is the whole path, or more follows it
data HasComponent (path : List ℕ) : Type 0 where
  whole : (name : List ℕ) → IsComponent path name path → HasComponent path
  more : (name rest : List ℕ) → NoSlash name → rest ≢ [] → path ≡ (name ++ 47 ∷ []) ++ rest → HasComponent path

component_in : (check : NameCheck) (levels : ℕ) (k : EntryKind) (path : List ℕ) → IsTreePath check levels k path
    → HasComponent path
component_in check levels k path (of_file l j name t n r) =
    whole name (record { component = n.component; is = inr (refl, refl); rest = []; parts = sym (append-nil name) })
component_in check levels k path (of_directory l name n r) = whole name (record {
  component = n.component;
  is = inl refl;
  rest = [];
  parts = sym (append-nil (name ++ 47 ∷ []));
})
component_in check levels k path (beneath l j name rest n r h) =
    more name rest n.component (path_some check l j rest h) (sym (append_assoc name (47 ∷ []) rest))

-- ---- the front of a list that begins with some bytes

starts : (shown path : List ℕ) → HasPathPrefix path shown ⊎ (HasPathPrefix path shown → ⊥)
starts shown path = by (prefix_cmp shown path) refl
  where
    by : (o : Ordering) → prefix_cmp shown path ≡ o → HasPathPrefix path shown ⊎ (HasPathPrefix path shown → ⊥)
    by Equal e = inl (equal_goes shown path e)
    by Less e = inr (λ b. let t = goes_equal shown path b in absurd (cc (t, e)))
    by Greater e = inr (λ b. let t = goes_equal shown path b in absurd (cc (t, e)))

record IsSplit (shown : List ℕ) (ss : List Staged) : Type 0 where
  pub run : List Staged
  pub rest : List Staged
  pub parts : ss ≡ run ++ rest
  pub goes : All (Goes 0 shown) run
  pub stops : (first : Staged) (others : List Staged) → rest ≡ first ∷ others → HasPathPrefix first.path shown → ⊥

split_at : (shown : List ℕ) (ss : List Staged) → IsSplit shown ss
split_at shown [] = record {
  run = [];
  rest = [];
  parts = refl;
  goes = All-nil (Goes 0 shown);
  stops = λ first others e b. absurd (cc e);
}
split_at shown (s ∷ ss) = by (starts shown s.path) (split_at shown ss)
  where
    by : HasPathPrefix s.path shown ⊎ (HasPathPrefix s.path shown → ⊥) → IsSplit shown ss → IsSplit shown (s ∷ ss)
    by (inl b) r = record {
      run = s ∷ r.run;
      rest = r.rest;
      parts = ap (λ (l : List Staged). s ∷ l) r.parts;
      goes = All-cons (Goes 0 shown) s r.run b r.goes;
      stops = r.stops;
    }
    by (inr n) r = record {
      run = [];
      rest = s ∷ ss;
      parts = refl;
      goes = All-nil (Goes 0 shown);
      stops = λ first others e b.
          let same : s ≡ first = cc e in
          n (subst (λ (t : Staged). HasPathPrefix t.path shown) (sym same) b);
    }

-- ---- to its end

-- there is a directory of all these that has the objects of the items, and then others
record GoesOn (kind : Kind) (staged : List Staged) (items : DirectoryItems) : Type 0 where
  pub whole : DirectoryItems
  pub is_tree : IsTreeOf kind staged whole
  pub others : List (ObjectId × List ℕ)
  pub parts : objects_below kind whole ≡ objects_below kind items ++ others

-- each that is begun goes on
abbrev AllGoOn : Kind → ℕ → Type 0
AllGoOn kind levels = (n : ℕ) (staged left : List Staged) (items : DirectoryItems) → length left ≤ n
    → IsReady kind levels left
    → IsBegun kind staged left items → GoesOn kind (staged ++ left) items

after : (kind : Kind) (items : DirectoryItems) (x : DirectoryItem) (staged all : List Staged) → staged ≡ all
    → GoesOn kind staged (push items x) → GoesOn kind all items
after kind items x staged all e t = record {
  whole = t.whole;
  is_tree = subst (λ (l : List Staged). IsTreeOf kind l t.whole) e t.is_tree;
  others = item_objects kind x ++ t.others;
  parts = t.parts ∙ ap (λ (l : List (ObjectId × List ℕ)). l ++ t.others) (objects_push kind items x)
      ∙ append_assoc (objects_below kind items) (item_objects kind x) t.others;
}

-- a leaf at the front
pub leaf_ahead : (kind : Kind) (levels : ℕ) (s : Staged) (left : List Staged) (name : List ℕ)
    → IsReady kind levels (s ∷ left) → NoSlash name → s.path ≡ key name s.kind → All (Ahead s.path) left
leaf_ahead kind levels s left name ready none is = λ k d within.
    let t = get_or left k d in
    ahead_from s.path t (pairs_head (λ s t. path_cmp s.path t.path ≡ Less) s left ready.rise k d within)
    (by s.kind refl t (pairs_head (λ s t. IsInside t.path s → ⊥) s left ready.outside k d within))
  where
    by : (k : EntryKind) → s.kind ≡ k → (t : Staged) → (IsInside t.path s → ⊥) → Leaves s.path t.path
    by kinds.Tree e t out = inr (name, is ∙ ap (key name) e, none, λ b. out (e, b))
    by kinds.Blob e t out = inl (subst NoSlash (sym (is ∙ ap (key name) e)) none)
    by kinds.BlobExecutable e t out = inl (subst NoSlash (sym (is ∙ ap (key name) e)) none)
    by kinds.Link e t out = inl (subst NoSlash (sym (is ∙ ap (key name) e)) none)
    by kinds.Commit e t out = inl (subst NoSlash (sym (is ∙ ap (key name) e)) none)

module _ (kind : Kind) (levels n : ℕ) (below : (0 < levels) → AllGoOn kind (levels - 1))
    (next : (staged left : List Staged) (items : DirectoryItems) → length left ≤ n → IsReady kind levels left
    → IsBegun kind staged left items → GoesOn kind (staged ++ left) items) (staged : List Staged) (s : Staged)
    (left : List Staged) (items : DirectoryItems) (fits : length left ≤ n) (ready : IsReady kind levels (s ∷ left))
    (h : IsBegun kind staged (s ∷ left) items) where
  at_leaf : IsLeaf kind levels s
  at_leaf = All-head (IsLeaf kind levels) s left ready.each

  over_leaf : (name : List ℕ) → IsComponent s.path name s.path → GoesOn kind (staged ++ s ∷ left) items
  over_leaf name c =
      let named = leaf_name at_leaf.check levels s.kind s.path name at_leaf.path c in
      let x : DirectoryItem = leaf name s.kind s.id s.later in
      let follows = All-head (Ahead h.last) s left h.ahead name s.path c in
      let g : IsBegun kind (staged ++ s ∷ []) left (push items x) =
      items_leaf kind staged (s ∷ left) items h name s left (named.0, at_leaf.of_kind, at_leaf.len) named.1 follows
      (leaf_ahead kind levels s left name ready named.0.component named.1) in
      after kind items x ((staged ++ s ∷ []) ++ left) (staged ++ s ∷ left) (append_assoc staged (s ∷ []) left)
      (next (staged ++ s ∷ []) left (push items x) fits (ready_back kind levels (s ∷ []) left ready) g)

  module _ (name rest : List ℕ) (slash : NoSlash name) (some : rest ≢ []) (e : s.path ≡ (name ++ 47 ∷ []) ++ rest)
      (r : IsSplit (name ++ 47 ∷ []) left) where
    abbrev shown : List ℕ
    shown = name ++ 47 ∷ []

    abbrev own : List Staged
    own = s ∷ r.run

    abbrev first : Staged
    first = without_prefix (length shown) s

    abbrev others : List Staged
    others = map (without_prefix (length shown)) r.run

    comp : IsComponent s.path name shown
    comp = record { component = slash; is = inl refl; rest = rest; parts = e }

    follows : path_cmp h.last shown ≡ Less
    follows = All-head (Ahead h.last) s left h.ahead name shown comp

    listed : map (under shown) (first ∷ others) ≡ own
    listed =
        let none : 0 + length shown ≡ length shown = omega arith in
        subst (λ (i : ℕ). map (under shown) (map (without_prefix i) own) ≡ own) none
        (cut_under_all 0 shown own (All-cons (Goes 0 shown) s r.run (rest, e) r.goes) ∙ cut_none own)

    parts : s ∷ left ≡ own ++ r.rest
    parts = ap (λ (l : List Staged). s ∷ l) r.parts

    ready_parts : IsReady kind levels (own ++ r.rest)
    ready_parts = subst (IsReady kind levels) parts ready

    ready_own : IsReady kind levels (map (under shown) (first ∷ others))
    ready_own = subst (IsReady kind levels) (sym listed) (ready_front kind levels own r.rest ready_parts)

    ready_rest : IsReady kind levels r.rest
    ready_rest = ready_back kind levels own r.rest ready_parts

    first_some : first.path ≢ []
    first_some z = some (sym (front_rest s.path shown rest e) ∙ z)

    ready_inner : IsReady kind (levels - 1) (first ∷ others)
    ready_inner = ready_behind kind levels name shown refl slash first others first_some ready_own

    level : IsPathComponent name × (0 < levels)
    level = named_behind kind levels name shown refl slash first first_some
        (All-head (IsLeaf kind levels) (under shown first) (map (under shown) others) ready_own.each)

    inner : GoesOn kind ([] ++ first ∷ others) no_more
    inner = below level.1 (length (first ∷ others)) [] (first ∷ others) no_more (omega arith) ready_inner
        (no_items kind (first ∷ others) (ahead_none kind (levels - 1) (first ∷ others) ready_inner))

    ahead : All (Ahead shown) r.rest
    ahead = ahead_directory name shown rest r.rest refl slash
        (subst (λ (p : List ℕ). All (λ t. path_cmp p t.path ≡ Less) r.rest) e
        (all_back (λ t. path_cmp s.path t.path ≡ Less) r.run r.rest
        (subst (All (λ t. path_cmp s.path t.path ≡ Less)) r.parts
        (pairs_head (λ s t. path_cmp s.path t.path ≡ Less) s left ready.rise)))) ready_rest.rise r.stops

    over_directory : GoesOn kind (staged ++ s ∷ left) items
    over_directory =
        let x : DirectoryItem = directory name inner.whole in
        let g : IsBegun kind (staged ++ own) r.rest (push items x) =
        items_directory kind staged (s ∷ left) items h name shown (first ∷ others) own r.rest inner.whole level.0 refl
        follows ahead (λ z. absurd (cc z)) listed inner.is_tree in
        after kind items x ((staged ++ own) ++ r.rest) (staged ++ s ∷ left)
        (append_assoc staged own r.rest ∙ ap (λ (l : List Staged). staged ++ l) (sym parts))
        (next (staged ++ own) r.rest (push items x) (omega (
          arith,
          fits,
          ap length r.parts,
          length-append r.run r.rest,
        )) ready_rest g)

  over_first : HasComponent s.path → GoesOn kind (staged ++ s ∷ left) items
  over_first (whole name c) = over_leaf name c
  over_first (more name rest slash some e) =
      over_directory name rest slash some e (split_at (name ++ 47 ∷ []) left)

goes_on : (kind : Kind) (levels : ℕ) → ((0 < levels) → AllGoOn kind (levels - 1)) → AllGoOn kind levels
goes_on kind levels below n staged [] items fits ready h = record {
  whole = items;
  is_tree = record {
    directory = record { made = h.made; ordered = h.ordered };
    leaves = h.listed ∙ sym (append-nil staged);
  };
  others = [];
  parts = sym (append-nil (objects_below kind items));
}
goes_on kind levels below zero staged (s ∷ left) items fits ready h = absurd (omega (arith, fits))
goes_on kind levels below (suc n) staged (s ∷ left) items fits ready h =
    let l = All-head (IsLeaf kind levels) s left ready.each in
    over_first kind levels n below (goes_on kind levels below n) staged s left items (omega (arith, fits)) ready h
    (component_in l.check levels s.kind s.path l.path)

all_go_on : (kind : Kind) (levels : ℕ) → AllGoOn kind levels
all_go_on kind zero = goes_on kind zero (λ lt. absurd (omega (arith, lt)))
all_go_on kind (suc l) = goes_on kind (suc l) (λ lt. subst (AllGoOn kind) (by l) (all_go_on kind l))
  where
    by : (l : ℕ) → l ≡ suc l - 1
    by l = omega arith

-- ---- what a sink holds

-- What holds in any case holds after an error.
pub on_err : {T E P : Type 0} (r : Result T E) → P → OnErr r P
on_err (Ok x) p = tt
on_err (Err e) p = p

-- the objects of a directory that is begun, or the first of them
pub holds_first : (kind : Kind) (levels : ℕ) (staged left : List Staged) (items : DirectoryItems)
    → IsReady kind levels left
    → IsBegun kind staged left items → (old new : Taken) (first others : List (ObjectId × List ℕ))
    → objects_below kind items ≡ first ++ others → new ≡ with_objects old first
    → HoldsFirst kind (staged ++ left) old new
holds_first kind levels staged left items ready h old new first others is stored =
    let t = all_go_on kind levels (length left) staged left items (omega arith) ready h in
    record {
      items = t.whole;
      is_tree = t.is_tree;
      first = first;
      others = others ++ t.others;
      parts = t.parts ∙ ap (λ (l : List (ObjectId × List ℕ)). l ++ t.others) is ∙ append_assoc first others t.others;
      stored = stored;
    }
