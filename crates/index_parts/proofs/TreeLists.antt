-- Every bytes list entries of a tree. What they list after an entry, or if they begin with none, and the result of a
-- step over them.
use Rattle.std.proofs.Common.{◌≡◌, ℕ, zero, suc, ◌<◌, ◌≤◌, true, false, List, [], ◌∷◌, ◌++◌, length, Option, Some, None}
use Rattle.std.proofs.Common.{refl, sym, ap, subst, ◌∙◌, append_assoc, arith}
use Rattle.std.specs.Prelude.{Result, Ok, Err, is_err}
use Rattle.std.proofs.lemmas.List.{nil_from_length}
use Rattle.index_parts.proofs.TreeObjects.{entry_takes, no_entry, one_entry, entry_fewer, none_in_nothing}
use Rattle.index_parts.specs.TreeObjectSteps.{tree_entry_at}
use Rattle.index_parts.specs.TreeObject.{TreeEntry, IsTreeEntry, NoTreeEntry, AreTreeEntries, IsTreeObject, Lists}
use Rattle.index_parts.specs.TreeObject.{YieldsEntry, tree_entry_of}
use Rattle.index_parts.specs.declared.hash.Kind.{Kind}
use Rattle.index_parts.specs.declared.object.tree.EntryRef.{EntryRef}
use Rattle.index_parts.specs.declared.object.tree.Malformed.{Malformed}

-- ---- what bytes list

-- the entry, and those after it
abbrev with_entry : Option (TreeEntry × List ℕ) → (List ℕ → List TreeEntry) → List TreeEntry
with_entry None f = []
with_entry (Some x) f = x.0 ∷ f x.1

-- at most so many entries
abbrev entries_within : ℕ → Kind → List ℕ → List TreeEntry
entries_within zero kind bytes = []
entries_within (suc n) kind bytes = with_entry (tree_entry_at kind bytes) (entries_within n kind)

lists_by : (n : ℕ) (kind : Kind) (bytes : List ℕ) (o : Option (TreeEntry × List ℕ)) → tree_entry_at kind bytes ≡ o
    → ((rest : List ℕ) → length rest < length bytes → Lists kind rest (entries_within n kind rest))
    → Lists kind bytes (with_entry o (entries_within n kind))
lists_by n kind bytes None e more = (bytes, refl, no_entry kind bytes e)
lists_by n kind bytes (Some x) e more =
    let h : IsTreeEntry kind bytes x.0 x.1 = entry_takes kind bytes x e in
    let l : Lists kind x.1 (entries_within n kind x.1) = more x.1 (entry_fewer kind bytes x.0 x.1 h) in
    (l.0, (x.1, h, l.1), l.2)

lists_within : (n : ℕ) (kind : Kind) (bytes : List ℕ) → length bytes ≤ n
    → Lists kind bytes (entries_within n kind bytes)
lists_within zero kind bytes short =
    (bytes, refl, none_in_nothing kind bytes (nil_from_length bytes (omega (arith, short))))
lists_within (suc n) kind bytes short = lists_by n kind bytes (tree_entry_at kind bytes) refl
    (λ rest lt. lists_within n kind rest (omega (arith, short, lt)))

abbrev pub listed_in : Kind → List ℕ → List TreeEntry
listed_in kind bytes = entries_within (length bytes) kind bytes

pub lists_some : (kind : Kind) (bytes : List ℕ) → Lists kind bytes (listed_in kind bytes)
lists_some kind bytes = lists_within (length bytes) kind bytes (omega arith)

-- ---- after an entry, and at the end

-- an entry at the front is the first that is listed
pub list_behind : (kind : Kind) (bytes : List ℕ) (e : TreeEntry) (after : List ℕ) (es : List TreeEntry)
    → IsTreeEntry kind bytes e after → Lists kind bytes es
    → (later : List TreeEntry) × (es ≡ e ∷ later) × Lists kind after later
list_behind kind bytes e after [] h l = absurd (l.2 e after (subst (λ (b : List ℕ). IsTreeEntry kind b e after) l.1 h))
list_behind kind bytes e after (d ∷ later) h l =
    let same = one_entry kind bytes d e l.1.0 after l.1.1 h in (
      later,
      ap (λ (x : TreeEntry × List ℕ). x.0 ∷ later) same,
      (
        l.0,
        subst (λ (b : List ℕ). AreTreeEntries kind b later l.0) (ap (λ (x : TreeEntry × List ℕ). x.1) same) l.1.2,
        l.2,
      ),
    )

-- if the bytes begin with no entry, they list nothing
pub list_ends : (kind : Kind) (bytes : List ℕ) (es : List TreeEntry) → NoTreeEntry kind bytes → Lists kind bytes es
    → es ≡ []
list_ends kind bytes [] none l = refl
list_ends kind bytes (d ∷ later) none l = absurd (none d l.1.0 l.1.1)

-- ---- a step over the entries

pub gives_entry : (k kind : Kind) (bytes rest : List ℕ) (r : Result EntryRef Malformed) (e : EntryRef) → k ≡ kind
    → r ≡ Ok e → YieldsEntry k bytes (Some r) rest → IsTreeEntry kind bytes (tree_entry_of e) rest
gives_entry k kind bytes rest (Ok d) e same is h =
    let entry : d ≡ e = cc in
    subst (λ (x : EntryRef). IsTreeEntry kind bytes (tree_entry_of x) rest) entry
    (subst (λ (l : Kind). IsTreeEntry l bytes (tree_entry_of d) rest) same h)
gives_entry k kind bytes rest (Err m) e same is h = absurd cc

pub gives_malformed : (k kind : Kind) (bytes rest : List ℕ) (r : Result EntryRef Malformed) → k ≡ kind → is_err r ≡ true
    → YieldsEntry k bytes (Some r) rest → NoTreeEntry kind bytes
gives_malformed k kind bytes rest (Ok d) same is h = absurd cc
gives_malformed k kind bytes rest (Err n) same is h = subst (λ (l : Kind). NoTreeEntry l bytes) same h.1

pub gives_end : (k kind : Kind) (bytes rest : List ℕ) → YieldsEntry k bytes None rest → NoTreeEntry kind bytes
gives_end k kind bytes rest h = none_in_nothing kind bytes h.0

-- the same of an entry that isn't named
pub gives_some : (k kind : Kind) (bytes rest : List ℕ) (r : Result EntryRef Malformed) → k ≡ kind → is_err r ≡ false
    → YieldsEntry k bytes (Some r) rest → (e : TreeEntry) × IsTreeEntry kind bytes e rest
gives_some k kind bytes rest (Ok e) same is h = (tree_entry_of e, gives_entry k kind bytes rest (Ok e) e same refl h)
gives_some k kind bytes rest (Err m) same is h = absurd cc

pub gives_left : (k : Kind) (bytes rest : List ℕ) (r : Result EntryRef Malformed) → is_err r ≡ true
    → YieldsEntry k bytes (Some r) rest → bytes ≡ [] → ⊥
gives_left k bytes rest (Ok e) is h = absurd cc
gives_left k bytes rest (Err m) is h = h.0

-- ---- a tree's object

-- the bytes after the first entry are a tree object too
pub object_behind : (kind : Kind) (bytes : List ℕ) (e : TreeEntry) (after : List ℕ) → IsTreeEntry kind bytes e after
    → (es : List TreeEntry) → IsTreeObject kind bytes es → (later : List TreeEntry) × IsTreeObject kind after later
object_behind kind bytes e after h [] k = absurd (none_in_nothing kind bytes k e after h)
object_behind kind bytes e after h (d ∷ later) k = (
  later,
  subst (λ (x : TreeEntry × List ℕ). IsTreeObject kind x.1 later) (one_entry kind bytes d e k.0 after k.1 h) k.2,
)

-- an entry begins it, unless it is empty
pub object_begins : (kind : Kind) (bytes : List ℕ) (es : List TreeEntry) → IsTreeObject kind bytes es
    → NoTreeEntry kind bytes → bytes ≡ []
object_begins kind bytes [] k none = k
object_begins kind bytes (e ∷ es) k none = absurd (none e k.0 k.1)

-- the bytes after an entry are the last ones
pub last_bytes : (kind : Kind) (bytes : List ℕ) (e : TreeEntry) (after : List ℕ) → IsTreeEntry kind bytes e after
    → (front : List ℕ) × (bytes ≡ front ++ after)
last_bytes kind bytes e after h =
    let inner : e.name ++ 0 ∷ (h.id ++ after) ≡ (e.name ++ 0 ∷ h.id) ++ after =
    sym (append_assoc e.name (0 ∷ h.id) after) in (
      h.text ++ 32 ∷ (e.name ++ 0 ∷ h.id),
      h.parts ∙ ap (λ (l : List ℕ). h.text ++ 32 ∷ l) inner
          ∙ sym (append_assoc h.text (32 ∷ (e.name ++ 0 ∷ h.id)) after),
    )
