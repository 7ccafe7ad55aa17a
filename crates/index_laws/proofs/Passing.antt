-- In the directory of records in which a check finds no fault, it lets each name pass.
use Rattle.std.proofs.Common.{◌≡◌, ◌⊎◌, inl, inr, ℕ, List, [], ◌∷◌, ◌++◌, length, map, Bool, true, false}
use Rattle.std.proofs.Common.{Option, Some, None, refl, sym, ap, subst, ◌∙◌, append_assoc, arith}
use Rattle.std.specs.Prelude.{◌≢◌, if◌then◌else◌}
use Rattle.std.specs.List.{AllByRecursion, cons_option}
use Rattle.std.specs.Option.{option_map}
use Rattle.std.proofs.lemmas.List.{length-append}
use Rattle.std.proofs.lemmas.List.Elements.{recursion_from_All}
use Rattle.std.proofs.lemmas.Option.{same_Some}
use Rattle.index_parts.specs.Mode.{named_kind}
use Rattle.index_parts.specs.NameCheck.{refusal_as}
use Rattle.index_parts.specs.declared.object.tree.EntryKind.{EntryKind}
use Rattle.index_parts.specs.declared.object.tree.EntryKind.TheVariants as kinds
use Rattle.index_parts.specs.declared.hash.Kind.{Kind}
use Rattle.entry_list.specs.EntryImage.{is_removed}
use Rattle.entry_list.specs.Record.{Record}
use Rattle.tree_encode.specs.Directory.{DirectoryItem, DirectoryItems, leaf, directory, no_more, next, IsDirectoryItem}
use Rattle.tree_encode.specs.Directory.{AreDirectoryItems}
use Rattle.tree_encode.specs.Directory.{item_leaves, key, leaves}
use Rattle.tree_encode.specs.Refusals.{NameCheck, IsTreeRecord, IsTreePath, of_file, of_directory, beneath}
use Rattle.tree_encode.specs.Staged.{Staged, is_intended, staged_entry, staged_in}
use Rattle.tree_encode.proofs.OneTree.{HasFirst, dir_leaves, first_of_items, slashed}
use Rattle.tree_encode.proofs.PathNames.{NoSlash, first_slash, no_slash_in}
use Rattle.tree_encode.proofs.Pushes.{under}
use Rattle.index_laws.specs.Reading.{FitNamesPass, ItemPasses, NamesPass}
use Rattle.index_laws.proofs.TreeNames.{tree_or_file}
use Rattle.index_laws.proofs.TreesMade.{file_key}

-- ---- lists

pub each_of_both : {X : Type 0} (P : X → Type 0) (xs ys : List X) → AllByRecursion P (xs ++ ys)
    → AllByRecursion P xs × AllByRecursion P ys
each_of_both P [] ys h = (tt, h)
each_of_both P (x ∷ xs) ys h = let m = each_of_both P xs ys h.1 in ((h.0, m.0), m.1)

both : {X : Type 0} (P : X → Type 0) (xs ys : List X) → AllByRecursion P xs → AllByRecursion P ys
    → AllByRecursion P (xs ++ ys)
both P [] ys h k = k
both P (x ∷ xs) ys h k = (h.0, both P xs ys h.1 k)

-- ---- each leaf has a path

abbrev HasPath : Staged → Type 0
HasPath s = s.path ≢ []

file_some : (name : List ℕ) (k : EntryKind) → name ≢ [] → key name k ≢ []
file_some name kinds.Tree h e = absurd (omega (arith, ap length e, length-append name (47 ∷ [])))
file_some name kinds.Blob h e = h e
file_some name kinds.BlobExecutable h e = h e
file_some name kinds.Link h e = h e
file_some name kinds.Commit h e = h e

all_under : (name : List ℕ) (ss : List Staged) → AllByRecursion HasPath (map (under (slashed name)) ss)
all_under name [] = tt
all_under name (s ∷ ss) = (
  λ e. absurd (omega (
    arith,
    ap length e,
    length-append (slashed name) s.path,
    length-append name (47 ∷ []),
  )),
  all_under name ss,
)

mutual
  item_paths : (kind : Kind) (x : DirectoryItem) → IsDirectoryItem kind x → AllByRecursion HasPath (item_leaves [] x)
  item_paths kind (leaf name k id later) h = (file_some name k h.0.some, tt)
  item_paths kind (directory name items) h =
      subst (AllByRecursion HasPath) (sym (dir_leaves name items)) (all_under name (leaves [] items))

  paths : (kind : Kind) (items : DirectoryItems) → AreDirectoryItems kind items
      → AllByRecursion HasPath (leaves [] items)
  paths kind no_more h = tt
  paths kind (next x xs) h =
      both HasPath (item_leaves [] x) (leaves [] xs) (item_paths kind x h.0) (paths kind xs h.1)

module _ (check : NameCheck) where
  -- the path is made of names that pass
  abbrev PathPasses : Staged → Type 0
  PathPasses s = (levels : ℕ) × IsTreePath check levels s.kind s.path

  -- ---- of records

  record_passes : (kind : Kind) (r : Record) (s : Staged) → IsTreeRecord check kind r → staged_entry r ≡ Some s
      → PathPasses s
  record_passes kind r s fit = by (is_removed r.flags) refl (named_kind r.mode) refl
    where
      by : (b : Bool) → is_removed r.flags ≡ b → (k : Option EntryKind) → named_kind r.mode ≡ k
          → (if b then None else option_map
          (λ k. record { path = r.path; kind = k; id = r.id; later = is_intended r.flags }) k) ≡ Some s → PathPasses s
      by true z k n e = absurd cc
      by false z None n e = absurd cc
      by false z (Some k) n e =
          let found = (fit z).1 in
          let same : found.0 ≡ k = same_Some found.0 k (sym found.1.0 ∙ n) in
          let staged : Staged = record { path = r.path; kind = k; id = r.id; later = is_intended r.flags } in
          subst PathPasses (same_Some staged s e)
          (2048, subst (λ (j : EntryKind). IsTreePath check 2048 j r.path) same found.1.1)

  staged_pass : (kind : Kind) (rs : List Record) → AllByRecursion (IsTreeRecord check kind) rs
      → AllByRecursion PathPasses (staged_in rs)
  staged_pass kind [] h = tt
  staged_pass kind (r ∷ rs) h = by (staged_entry r) refl (staged_pass kind rs h.1)
    where
      by : (o : Option Staged) → staged_entry r ≡ o → AllByRecursion PathPasses (staged_in rs)
          → AllByRecursion PathPasses (cons_option (staged_entry r) (staged_in rs))
      by None e g = subst (λ (o : Option Staged). AllByRecursion PathPasses (cons_option o (staged_in rs))) (sym e) g
      by (Some s) e g =
          subst (λ (o : Option Staged). AllByRecursion PathPasses (cons_option o (staged_in rs))) (sym e)
          (record_passes kind r s h.0 e, g)

  -- ---- the names in a path

  leaf_passes : (name : List ℕ) (k : EntryKind) (levels : ℕ) (p : List ℕ) → NoSlash name → p ≡ key name k
      → IsTreePath check levels k p → refusal_as check name k ≡ None
  leaf_passes name k levels p plain e (of_file l j n t m r) =
      subst (λ (x : List ℕ). refusal_as check x j ≡ None) (e ∙ file_key name j t) r
  leaf_passes name k levels p plain e (of_directory l n m r) =
      subst (λ (x : List ℕ). refusal_as check x kinds.Tree ≡ None) (first_slash n name [] [] m.component plain e).0 r
  leaf_passes name k levels p plain e (beneath l j n rest m r h) = by (tree_or_file j)
    where
      by : (j ≡ kinds.Tree) ⊎ (j ≡ kinds.Tree → ⊥) → refusal_as check name j ≡ None
      by (inl t) =
          let path : n ++ 47 ∷ rest ≡ name ++ 47 ∷ [] = e ∙ ap (key name) t in
          let same : n ≡ name = (first_slash n name rest [] m.component plain path).0 in
          ap (refusal_as check name) t ∙ subst (λ (x : List ℕ). refusal_as check x kinds.Tree ≡ None) same r
      by (inr f) = absurd (no_slash_in name n rest plain (sym (e ∙ file_key name j f)))

  abbrev Behind : List ℕ → EntryKind → List ℕ → Type 0
  Behind name k rest = (refusal_as check name kinds.Tree ≡ None) × ((levels : ℕ) × IsTreePath check levels k rest)

  behind : (name rest : List ℕ) (k : EntryKind) (levels : ℕ) (p : List ℕ) → NoSlash name → rest ≢ []
      → p ≡ name ++ 47 ∷ rest → IsTreePath check levels k p → Behind name k rest
  behind name rest k levels p plain some e (of_file l j n t m r) = absurd (no_slash_in n name rest m.component e)
  behind name rest k levels p plain some e (of_directory l n m r) =
      absurd (some (sym (first_slash n name [] rest m.component plain e).1))
  behind name rest k levels p plain some e (beneath l j n more m r h) =
      let f = first_slash n name more rest m.component plain e in
      (subst (λ (x : List ℕ). refusal_as check x kinds.Tree ≡ None) f.0 r, (l, subst (IsTreePath check l j) f.1 h))

  one_behind : (name : List ℕ) (s : Staged) → NoSlash name → HasPath s → PathPasses (under (slashed name) s)
      → Behind name s.kind s.path
  one_behind name s plain some g =
      behind name s.path s.kind g.0 (slashed name ++ s.path) plain some (append_assoc name (47 ∷ []) s.path) g.1

  all_behind : (name : List ℕ) (ss : List Staged) → NoSlash name → AllByRecursion HasPath ss
      → AllByRecursion PathPasses (map (under (slashed name)) ss) → AllByRecursion PathPasses ss
  all_behind name [] plain some g = tt
  all_behind name (s ∷ ss) plain some g =
      ((one_behind name s plain some.0 g.0).1, all_behind name ss plain some.1 g.1)

  name_passes : (name : List ℕ) (ss : List Staged) → NoSlash name → HasFirst ss
      → AllByRecursion PathPasses (map (under (slashed name)) ss) → refusal_as check name kinds.Tree ≡ None
  name_passes name ss plain f g =
      let first = subst (λ (l : List Staged). AllByRecursion PathPasses (map (under (slashed name)) l)) f.is g in
      (one_behind name f.first plain f.some first.0).0

  -- ---- in a directory

  mutual
    item_passes : (kind : Kind) (x : DirectoryItem) → IsDirectoryItem kind x
        → AllByRecursion PathPasses (item_leaves [] x)
        → ItemPasses check x
    item_passes kind (leaf name k id later) h g =
        leaf_passes name k g.0.0 (key name k) h.0.component refl g.0.1
    item_passes kind (directory name items) h g =
        let inner : AllByRecursion PathPasses (map (under (slashed name)) (leaves [] items)) =
        subst (AllByRecursion PathPasses) (dir_leaves name items) g in (
          name_passes name (leaves [] items) h.0.component (first_of_items kind items h.2 h.1) inner,
          names_pass kind items h.2
              (all_behind name (leaves [] items) h.0.component (paths kind items h.2) inner),
        )

    names_pass : (kind : Kind) (items : DirectoryItems) → AreDirectoryItems kind items
        → AllByRecursion PathPasses (leaves [] items)
        → NamesPass check items
    names_pass kind no_more h g = tt
    names_pass kind (next x xs) h g =
        let each = each_of_both PathPasses (item_leaves [] x) (leaves [] xs) g in
        (item_passes kind x h.0 each.0, names_pass kind xs h.1 each.1)

pub fit_names : FitNamesPass
fit_names check kind rs items fit t =
    names_pass check kind items t.directory.made
    (subst (AllByRecursion (PathPasses check)) (sym t.leaves)
    (staged_pass check kind rs (recursion_from_All (IsTreeRecord check kind) rs fit.each)))
