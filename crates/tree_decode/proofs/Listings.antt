-- A step over the entries of a tree, over plain values: what is listed before it comes to what is listed after it.
use Rattle.std.proofs.Common.{◌≡◌, ℕ, List, [], ◌∷◌, ◌++◌, length, Bool, Option, Some, None, Ok, Err, refl, sym, ap}
use Rattle.std.proofs.Common.{subst, ◌∙◌, append_assoc}
use Rattle.std.specs.Prelude.{◌≢◌}
use Rattle.std.proofs.lemmas.List.{append-nil}
use Rattle.index_parts.proofs.TreeLists.{last_bytes, object_behind}
use Rattle.index_parts.specs.Object.{Found}
use Rattle.index_parts.specs.TreeObject.{TreeEntry, IsTreeEntry, kind_of_mode}
use Rattle.index_parts.specs.declared.hash.Kind.{Kind}
use Rattle.index_parts.specs.declared.hash.ObjectId.{ObjectId}
use Rattle.index_parts.specs.declared.object.tree.EntryKind.{EntryKind}
use Rattle.index_parts.specs.declared.object.tree.EntryKind.TheVariants as kinds
use Rattle.entry_list.specs.Record.{Record}
use Rattle.index_parts.specs.NameCheck.{refusal_as}
use Rattle.tree_decode.specs.Leaves.{LeavesAnswer, LeavesFault, InvalidComponent, LeavesCause, Yields, with_leaves}
use Rattle.tree_decode.specs.Leaves.{leaf_of, leaf_rejection, whole_tree, ended, refused, leaf, below, stopped}
use Rattle.tree_decode.specs.LeafSteps.{EntriesComeTo, IsRefusedName, IsSomeTree, ListsAll, ListsFault, ListsUpTo}
use Rattle.tree_decode.specs.LeafSteps.{listed_records}
use Rattle.tree_decode.proofs.WalkLoops.{IsListing}
use Rattle.tree_decode.specs.declared.error.Error.{Error}
use Rattle.tree_decode.specs.declared.error.Error.TheVariants as errors
use Rattle.tree_decode.specs.declared.walk.Listed.{Listed}
use Rattle.tree_decode.specs.declared.walk.Next.{Next}

same_listing : {rs more : List Record} (n : ℕ) → rs ≡ more → ◌≡◌ {A = LeavesAnswer} (Ok (rs, n)) (Ok (more, n))
same_listing n e = rw e refl

pub behind_none : (r : LeavesAnswer) → with_leaves [] r ≡ r
behind_none (Ok x) = refl
behind_none (Err f) = refl

pub behind_both : (rs more : List Record) (r : LeavesAnswer)
    → with_leaves rs (with_leaves more r) ≡ with_leaves (rs ++ more) r
behind_both rs more (Ok x) = same_listing x.1 (sym (append_assoc rs more x.0))
behind_both rs more (Err f) = refl

module _ (find : ObjectId → Found) (check : List ℕ → Bool → Option ℕ) (kind : Kind) where
  -- if no entry is left, the listing is unchanged
  pub entries_end : (rs : List Record) (n : ℕ) (prefix bytes : List ℕ) → bytes ≡ []
      → EntriesComeTo find check kind (Ok (rs, n)) prefix bytes (Ok (rs, n))
  entries_end rs n prefix bytes none = ([], Ok ([], n), none, ended n prefix, same_listing n (sym (append-nil rs)))

  module _ (rs : List Record) (n : ℕ) (prefix bytes : List ℕ) (e : TreeEntry) (after : List ℕ)
      (first : IsTreeEntry kind bytes e after) where
    pub entries_leaf : (r : LeavesAnswer) → leaf_rejection check e ≡ None → kind_of_mode e.mode ≢ kinds.Tree
        → EntriesComeTo find check kind (Ok (rs ++ leaf_of prefix e ∷ [], n)) prefix after r
        → EntriesComeTo find check kind (Ok (rs, n)) prefix bytes r
    entries_leaf r passes other g = (
      e ∷ g.0,
      with_leaves (leaf_of prefix e ∷ []) g.1,
      (after, first, g.2),
      leaf n prefix e g.0 g.1 passes other g.3,
      g.4 ∙ sym (behind_both rs (leaf_of prefix e ∷ []) g.1),
    )

    pub entries_refused : (number : ℕ) → IsSomeTree kind after → leaf_rejection check e ≡ Some number
        → EntriesComeTo find check kind (Ok (rs, n)) prefix bytes (Err (InvalidComponent (prefix ++ e.name) number))
    entries_refused number others refuses = (
      e ∷ others.0,
      Err (InvalidComponent (prefix ++ e.name) number),
      (after, first, others.1),
      refused n prefix e others.0 number refuses,
      refl,
    )

    pub entries_below : (x r : LeavesAnswer) → IsSomeTree kind after → leaf_rejection check e ≡ None
        → kind_of_mode e.mode ≡ kinds.Tree → Yields find check kind n (whole_tree (prefix ++ e.name ++ 47 ∷ []) e.id) x
        → EntriesComeTo find check kind (with_leaves rs x) prefix after r
        → EntriesComeTo find check kind (Ok (rs, n)) prefix bytes r
    entries_below (Ok x) r others passes is_tree y g = (
      e ∷ g.0,
      with_leaves x.0 g.1,
      (after, first, g.2),
      below n x.1 prefix e g.0 x.0 g.1 passes is_tree y g.3,
      g.4 ∙ sym (behind_both rs x.0 g.1),
    )
    entries_below (Err f) r others passes is_tree y g =
        (e ∷ others.0, Err f, (after, first, others.1), stopped n prefix e others.0 f passes is_tree y, g)

-- ---- a loop over the entries

-- what an error implies, it implies with every consequence
pub says_also : (e : Error) (P Q : LeavesFault → Type 0) → ((f : LeavesFault) → P f → Q f) → LeavesCause e P
    → LeavesCause e Q
says_also (errors.InvalidComponent path number) P Q more h = more _ h
says_also (errors.Traversal t) P Q more h = more _ h
says_also errors.Memory P Q more h = h

module _ (check : List ℕ → Bool → Option ℕ) (kind : Kind) (old now : Listed) (prefix bytes left : List ℕ)
    (h : IsListing check kind old now prefix bytes left) where
  pub listing_ends : left ≡ [] → ListsAll check kind old now prefix bytes
  listing_ends none = λ find n.
      h.leads find n (Ok (listed_records now, n)) (entries_end find check kind (listed_records now) n prefix left none)

  module _ (e : TreeEntry) (after : List ℕ) (first : IsTreeEntry kind left e after) where
    others : IsSomeTree kind after
    others = object_behind kind left e after first h.whole.0 h.whole.1

    passed_by : (passed : List ℕ) × (bytes ≡ passed ++ after)
    passed_by =
        let l = last_bytes kind left e after first in
        (h.passed ++ l.0, h.parts ∙ ap (λ (b : List ℕ). h.passed ++ b) l.1 ∙ sym (append_assoc h.passed l.0 after))

    pub listing_refused : (path : List ℕ) (k : EntryKind) (f : LeavesFault) → k ≡ kind_of_mode e.mode
        → path ≡ prefix ++ e.name → IsRefusedName check path e.name k f → ListsFault check kind old prefix bytes f
    listing_refused path k f same is r = λ find n.
        let refuses : leaf_rejection check e ≡ Some r.0 =
        subst (λ (x : EntryKind). refusal_as check e.name x ≡ Some r.0) same r.1 in
        let fault : InvalidComponent (prefix ++ e.name) r.0 ≡ f =
        sym (r.2 ∙ ap (λ (p : List ℕ). InvalidComponent p r.0) is) in
        h.leads find n (Err f) (subst
        (λ (x : LeavesFault). EntriesComeTo find check kind (Ok (listed_records now, n)) prefix left (Err x)) fault
        (entries_refused find check kind (listed_records now) n prefix left e after first r.0 others refuses))

    module _ (k : EntryKind) (same : k ≡ kind_of_mode e.mode) (passes : refusal_as check e.name k ≡ None) where
      passes_as : leaf_rejection check e ≡ None
      passes_as = subst (λ (x : EntryKind). refusal_as check e.name x ≡ None) same passes

      pub listing_leaf : (then : Listed) → k ≢ kinds.Tree → listed_records then
          ≡ listed_records now ++ leaf_of prefix e ∷ [] → IsListing check kind old then prefix bytes after
      listing_leaf then other pushed = record {
        passed = passed_by.0;
        parts = passed_by.1;
        whole = others;
        leads = λ find n r g. h.leads find n r (entries_leaf find check kind
            (listed_records now) n prefix left e after first r passes_as (λ is. other (same ∙ is))
            (subst (λ (rs : List Record). EntriesComeTo find check kind (Ok (rs, n)) prefix after r) pushed g));
      }

      pub listing_tree : (new : Listed) (next : Next) → k ≡ kinds.Tree → listed_records new ≡ listed_records now
          → new.path.items ≡ prefix ++ e.name ++ 47 ∷ [] → next.id ≡ e.id → next.left ≡ length after
          → ListsUpTo check kind old new prefix bytes next
      listing_tree new next is kept path id len = record {
        passed = passed_by.0;
        rest = after;
        parts = passed_by.1;
        left = len;
        whole = others;
        leads = λ find n x r y g. h.leads find n r (entries_below find check kind
            (listed_records now) n prefix left e after first x r others passes_as (sym same ∙ is)
            (subst (λ (i : ObjectId). Yields find check kind n (whole_tree (prefix ++ e.name ++ 47 ∷ []) i) x) id
            (subst (λ (p : List ℕ). Yields find check kind n (whole_tree p next.id) x) path y))
            (subst (λ (rs : List Record). EntriesComeTo find check kind (with_leaves rs x) prefix after r) kept g));
      }
