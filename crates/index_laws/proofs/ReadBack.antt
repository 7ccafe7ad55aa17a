-- What is written of a list of staged entries is read back as the list.
use Rattle.std.proofs.Common.{◌≡◌, ℕ, suc, ◌+◌, ◌-◌, List, [], ◌∷◌, ◌++◌, length, All, map, false, true, not}
use Rattle.std.proofs.Common.{Some, None, Ok, Err, refl, sym, ap, subst, ◌∙◌, append_assoc, arith}
use Rattle.std.specs.Prelude.{◌≢◌}
use Rattle.std.specs.List.{AllByRecursion}
use Rattle.std.proofs.lemmas.List.{append-nil, length-append, map-append, nil_from_length}
use Rattle.std.proofs.lemmas.Option.{same_Some}
use Rattle.std.proofs.lemmas.List.Elements.{All-from_recursion, filter-append, recursion_from_All}
use Rattle.index_parts.specs.Mode.{mode_of_kind}
use Rattle.index_parts.specs.Object.{Found, object}
use Rattle.index_parts.specs.TreeObject.{TreeEntry, IsTreeObject, kind_of_mode}
use Rattle.index_parts.specs.declared.hash.Kind.{Kind}
use Rattle.index_parts.specs.declared.hash.ObjectId.{ObjectId}
use Rattle.index_parts.specs.declared.object.Kind.TheVariants as objects
use Rattle.index_parts.specs.declared.object.tree.EntryKind.{EntryKind}
use Rattle.index_parts.specs.declared.object.tree.EntryKind.TheVariants as kinds
use Rattle.entry_list.specs.Record.{Record}
use Rattle.index_parts.specs.NameCheck.{refusal_as}
use Rattle.tree_decode.specs.Leaves.{LeavesAnswer, Yields, whole_tree, some_entries, opened, ended, leaf as one_leaf}
use Rattle.tree_decode.specs.Leaves.{below, leaf_of, with_leaves}
use Rattle.tree_encode.specs.Directory.{DirectoryItem, DirectoryItems, leaf, directory, no_more, next, IsDirectoryItem}
use Rattle.tree_encode.specs.Directory.{AreDirectoryItems, content}
use Rattle.tree_encode.specs.Directory.{directory_bytes, directory_item_bytes, items_id, item_leaves, leaves}
use Rattle.tree_encode.specs.Directory.{directory_object, item_objects, objects_below, objects as all_objects}
use Rattle.tree_encode.specs.Directory.{key}
use Rattle.tree_encode.specs.Objects.{Taken, tree_id, with_objects}
use Rattle.tree_encode.specs.Refusals.{NameCheck}
use Rattle.index_laws.specs.Reading.{HoldsTrees, ItemPasses, NamesPass, ReadsBack, StoredReadBack, leaf_record}
use Rattle.index_laws.specs.Reading.{standing}
use Rattle.tree_encode.specs.Staged.{Staged, staged_in}
use Rattle.index_laws.proofs.Passing.{each_of_both, fit_names}
use Rattle.index_laws.proofs.Contents.{content_is, kind_again, listed, listed_directory, listed_item, tree_id_kind}

-- ---- a leaf

leaf_listed : (front name : List ℕ) (k : EntryKind) (id : ObjectId) → k ≢ kinds.Tree
    → leaf_of front (record { mode = mode_of_kind k; name = name; id = id })
    ≡ leaf_record (record { path = front ++ key name k; kind = k; id = id; later = false })
leaf_listed front name kinds.Tree id h = absurd (h refl)
leaf_listed front name kinds.Blob id h = refl
leaf_listed front name kinds.BlobExecutable id h = refl
leaf_listed front name kinds.Link id h = refl
leaf_listed front name kinds.Commit id h = refl

-- ---- a directory

module _ (find : ObjectId → Found) (check : NameCheck) (kind : Kind) where
  abbrev IsThere : ObjectId × List ℕ → Type 0
  IsThere o = find o.0 ≡ object objects.Tree o.1

  abbrev IsFile : Staged → Type 0
  IsFile s = s.kind ≢ kinds.Tree

  at_number : (m n : ℕ) (front : List ℕ) (es : List TreeEntry) (r : LeavesAnswer) → m ≡ n
      → Yields find check kind m (some_entries front es) r → Yields find check kind n (some_entries front es) r
  at_number m n front es r e y = subst (λ (i : ℕ). Yields find check kind i (some_entries front es) r) e y

  nothing_with : (r : LeavesAnswer) → with_leaves [] r ≡ r
  nothing_with (Ok x) = refl
  nothing_with (Err f) = refl

  tree_some : (name : List ℕ) (c : ℕ) (cs : List ℕ) → directory_bytes kind name (c ∷ cs) ≡ [] → ⊥
  tree_some name c cs d = absurd cc

  -- if an item has no bytes, nothing in it is in a tree, and nothing below it has an object
  mutual
    item_blank : (front : List ℕ) (x : DirectoryItem) → directory_item_bytes kind x ≡ []
        → (standing (item_leaves front x) ≡ []) × (item_objects kind x ≡ [])
    item_blank front (leaf name k id true) e = (refl, refl)
    item_blank front (leaf name kinds.Tree id false) e = absurd cc
    item_blank front (leaf name kinds.Blob id false) e = absurd cc
    item_blank front (leaf name kinds.BlobExecutable id false) e = absurd cc
    item_blank front (leaf name kinds.Link id false) e = absurd cc
    item_blank front (leaf name kinds.Commit id false) e = absurd cc
    item_blank front (directory name items) e =
        by (content kind items) refl e (λ z. items_blank (front ++ key name kinds.Tree) items z)
      where
        by : (c : List ℕ) → content kind items ≡ c → directory_bytes kind name c ≡ [] → (content kind items ≡ []
            → (standing (leaves (front ++ key name kinds.Tree) items) ≡ []) × (objects_below kind items ≡ []))
            → (standing (leaves (front ++ key name kinds.Tree) items) ≡ [])
            × (objects_below kind items ++ directory_object kind (content kind items) ≡ [])
        by [] z d blank = (
          (blank z).0,
          ap (λ (l : List ℕ). objects_below kind items ++ directory_object kind l) z
              ∙ append-nil (objects_below kind items) ∙ (blank z).1,
        )
        by (c ∷ cs) z d blank = absurd (tree_some name c cs d)

    items_blank : (front : List ℕ) (items : DirectoryItems) → content kind items ≡ []
        → (standing (leaves front items) ≡ []) × (objects_below kind items ≡ [])
    items_blank front no_more e = (refl, refl)
    items_blank front (next x xs) e =
        let n : length (directory_item_bytes kind x) + length (content kind xs) ≡ 0 =
        sym (length-append (directory_item_bytes kind x) (content kind xs)) ∙ ap length e in
        let a = item_blank front x (nil_from_length (directory_item_bytes kind x) (omega (arith, n))) in
        let b = items_blank front xs (nil_from_length (content kind xs) (omega (arith, n))) in (
          filter-append (λ s. not s.later) (item_leaves front x) (leaves front xs)
              ∙ ap (λ (l : List Staged). l ++ standing (leaves front xs)) a.0 ∙ b.0,
          ap (λ (l : List (ObjectId × List ℕ)). l ++ objects_below kind xs) a.1 ∙ b.1,
        )

  mutual
    item_yields : (front : List ℕ) (x : DirectoryItem) (es : List TreeEntry) (n : ℕ) (r : LeavesAnswer)
        → IsDirectoryItem kind x
        → ItemPasses check x → AllByRecursion IsFile (item_leaves front x)
        → AllByRecursion IsThere (item_objects kind x)
        → Yields find check kind n (some_entries front es) r
        → Yields find check kind (length (item_objects kind x) + n) (some_entries front (listed_item kind x ++ es))
        (with_leaves (map leaf_record (standing (item_leaves front x))) r)
    item_yields front (leaf name k id true) es n r made passes files there y =
        at_number n (0 + n) front es _ (omega arith)
        (subst (Yields find check kind n (some_entries front es)) (sym (nothing_with r)) y)
    item_yields front (leaf name k id false) es n r made passes files there y =
        let e : TreeEntry = record { mode = mode_of_kind k; name = name; id = id } in
        let none : refusal_as check name (kind_of_mode (mode_of_kind k)) ≡ None =
        ap (refusal_as check name) (kind_again k) ∙ passes in
        let file : kind_of_mode (mode_of_kind k) ≢ kinds.Tree = λ is. files.0 (sym (kind_again k) ∙ is) in
        at_number n (0 + n) front (e ∷ es) _ (omega arith)
        (subst (λ (q : Record). Yields find check kind n (some_entries front (e ∷ es)) (with_leaves (q ∷ []) r))
        (leaf_listed front name k id files.0) (one_leaf n front e es r none file y))
    item_yields front (directory name items) es n r made passes files there y =
        let both = each_of_both IsThere (objects_below kind items) (directory_object kind (content kind items)) there in
        by (content kind items) refl both.1
        (items_yields (front ++ key name kinds.Tree) items n made.2 passes.1 files both.0)
      where
        by : (c : List ℕ) → content kind items ≡ c → AllByRecursion IsThere (directory_object kind (content kind items))
            → Yields find check kind (length (objects_below kind items) + n)
            (some_entries (front ++ key name kinds.Tree) (listed kind items))
            (Ok (map leaf_record (standing (leaves (front ++ key name kinds.Tree) items)), n))
            → Yields find check kind (length (objects_below kind items ++ directory_object kind (content kind items))
            + n) (some_entries front (listed_directory kind name (content kind items) ++ es))
            (with_leaves (map leaf_record (standing (leaves (front ++ key name kinds.Tree) items))) r)
        by [] z there inner =
            let b = items_blank (front ++ key name kinds.Tree) items z in
            let no_objects : length (objects_below kind items ++ directory_object kind (content kind items)) ≡ 0 =
            ap length (ap (λ (l : List ℕ). objects_below kind items ++ directory_object kind l) z
            ∙ append-nil (objects_below kind items) ∙ b.1) in
            at_number n _ front _ _ (omega (arith, no_objects))
            (subst (λ (l : List ℕ). Yields find check kind n (some_entries front (listed_directory kind name l ++ es))
            (with_leaves (map leaf_record (standing (leaves (front ++ key name kinds.Tree) items))) r)) (sym z)
            (subst (λ (l : List Staged). Yields find check kind n (some_entries front es)
            (with_leaves (map leaf_record l) r)) (sym b.0)
            (subst (Yields find check kind n (some_entries front es)) (sym (nothing_with r)) y)))
        by (d ∷ ds) z there inner =
            let e : TreeEntry = record { mode = mode_of_kind kinds.Tree; name = name; id = tree_id kind (d ∷ ds) } in
            let own : directory_object kind (content kind items) ≡ (tree_id kind (d ∷ ds), d ∷ ds) ∷ [] =
            ap (directory_object kind) z in
            let found : find (tree_id kind (d ∷ ds)) ≡ object objects.Tree (d ∷ ds) =
            (subst (AllByRecursion IsThere) own there).0 in
            let m : ℕ = length (objects_below kind items) + n in
            let whole : Yields find check kind (suc m)
            (whole_tree (front ++ key name kinds.Tree) (tree_id kind (d ∷ ds)))
            (Ok (map leaf_record (standing (leaves (front ++ key name kinds.Tree) items)), n)) =
            opened m (front ++ key name kinds.Tree) (tree_id kind (d ∷ ds)) (d ∷ ds) (listed kind items) _ found (subst
            (λ (l : List ℕ). IsTreeObject kind l (listed kind items)) z (content_is kind items made.2)) inner in
            subst (λ (l : List ℕ). Yields find check kind (length (objects_below kind items ++ directory_object kind l)
            + n) (some_entries front (listed_directory kind name l ++ es))
            (with_leaves (map leaf_record (standing (leaves (front ++ key name kinds.Tree) items))) r)) (sym z)
            (at_number (suc m) (length (objects_below kind items ++ (tree_id kind (d ∷ ds), d ∷ ds) ∷ []) + n) front (e
            ∷ es) _ (omega (arith, length-append (objects_below kind items) ((tree_id kind (d ∷ ds), d ∷ ds) ∷ [])))
            (below (suc m) n front e es (map leaf_record (standing (leaves (front ++ key name kinds.Tree) items))) r
            passes.0 refl
            (subst (λ (p : List ℕ). Yields find check kind (suc m) (whole_tree p (tree_id kind (d ∷ ds)))
            (Ok (map leaf_record (standing (leaves (front ++ key name kinds.Tree) items)), n)))
            (sym (append_assoc front name (47 ∷ []))) whole) y))

    pub items_yields : (front : List ℕ) (items : DirectoryItems) (n : ℕ) → AreDirectoryItems kind items
        → NamesPass check items → AllByRecursion IsFile (leaves front items)
        → AllByRecursion IsThere (objects_below kind items)
        → Yields find check kind (length (objects_below kind items) + n) (some_entries front (listed kind items))
        (Ok (map leaf_record (standing (leaves front items)), n))
    items_yields front no_more n made passes files there =
        at_number n (0 + n) front [] (Ok ([], n)) (omega arith) (ended n front)
    items_yields front (next x xs) n made passes files there =
        let f = each_of_both IsFile (item_leaves front x) (leaves front xs) files in
        let t = each_of_both IsThere (item_objects kind x) (objects_below kind xs) there in
        let rest = items_yields front xs n made.1 passes.1 f.1 t.1 in
        let first = item_yields front x (listed kind xs) (length (objects_below kind xs) + n)
        (Ok (map leaf_record (standing (leaves front xs)), n)) made.0 passes.0 f.0 t.0 rest in
        let rows : map leaf_record (standing (item_leaves front x)) ++ map leaf_record (standing (leaves front xs))
        ≡ map leaf_record (standing (item_leaves front x ++ leaves front xs)) =
        sym (map-append leaf_record (standing (item_leaves front x)) (standing (leaves front xs)))
        ∙ ap (map leaf_record) (sym (filter-append (λ s. not s.later) (item_leaves front x) (leaves front xs))) in
        at_number (length (item_objects kind x) + (length (objects_below kind xs) + n))
        (length (item_objects kind x ++ objects_below kind xs) + n) front (listed_item kind x ++ listed kind xs) _
        (omega (arith, length-append (item_objects kind x) (objects_below kind xs)))
        (subst (λ (rs : List Record). Yields find check kind
        (length (item_objects kind x) + (length (objects_below kind xs) + n))
        (some_entries front (listed_item kind x ++ listed kind xs)) (Ok (rs, n))) rows first)

pub reads_back : ReadsBack
reads_back find check kind staged items most t files there passes enough =
    let stored = recursion_from_All (IsThere find check kind) (all_objects kind items) there in
    let both = each_of_both (IsThere find check kind) (objects_below kind items)
    ((items_id kind items, content kind items) ∷ []) stored in
    let same : map leaf_record (standing (leaves [] items)) ≡ map leaf_record (standing staged) =
    ap (λ (l : List Staged). map leaf_record (standing l)) t.leaves in
    let file = recursion_from_All (IsFile find check kind) (leaves [] items)
    (subst (λ (l : List Staged). All (IsFile find check kind) l) (sym t.leaves) files) in
    let left : ℕ = most - length (all_objects kind items) in
    let number : suc (length (objects_below kind items) + left) ≡ most = omega (
      arith,
      enough,
      length-append (objects_below kind items) ((items_id kind items, content kind items) ∷ []),
    ) in
    let inner = items_yields find check kind [] items left t.directory.made passes file both.0 in
    let whole : Yields find check kind (suc (length (objects_below kind items) + left))
    (whole_tree [] (items_id kind items)) (Ok (map leaf_record (standing (leaves [] items)), left)) =
    opened (length (objects_below kind items) + left) [] (items_id kind items) (content kind items)
    (listed kind items) _ both.1.0 (content_is kind items t.directory.made) inner in (
      left,
      subst (λ (k : Kind). Yields find check k most (whole_tree [] (items_id kind items))
          (Ok (map leaf_record (standing staged), left))) (sym (tree_id_kind kind (content kind items)))
          (subst (λ (n : ℕ). Yields find check kind n (whole_tree [] (items_id kind items))
          (Ok (map leaf_record (standing staged), left))) number
          (subst (λ (rs : List Record). Yields find check kind (suc (length (objects_below kind items) + left))
          (whole_tree [] (items_id kind items)) (Ok (rs, left))) same whole)),
    )

-- objects that were put after others were taken
held_of : (find : ObjectId → Found) (before : Taken) (written taken : List (ObjectId × List ℕ))
    → with_objects before written ≡ Some taken → HoldsTrees find taken → HoldsTrees find written
held_of find None written taken e held = absurd cc
held_of find (Some others) written taken e held =
    let all : List (ObjectId × List ℕ) = others ++ written in
    let same : all ≡ taken = same_Some all taken e in
    let P : ObjectId × List ℕ → Type 0 = λ o. find o.0 ≡ object objects.Tree o.1 in
    All-from_recursion P written (each_of_both P others written
    (recursion_from_All P all (subst (HoldsTrees find) (sym same) held))).1

pub stored_read_back : StoredReadBack
stored_read_back find check kind rs items most before taken fit t files put held enough =
    reads_back find check kind (staged_in rs) items most t files
    (held_of find before (all_objects kind items) taken put held) (fit_names check kind rs items fit t) enough
