use Rattle.std.proofs.Common.{rules, ◌≡◌, ◌++◌, [], ◌∷◌, ℕ, List, length, take, refl, ap, ◌∙◌}
use Rattle.std.specs.Prelude.{◌≢◌}
use Rattle.std.proofs.lemmas.Result.{err_from_is_err_and}
use Rattle.index_parts.proofs.TreeLists.{gives_entry, gives_malformed, object_begins}
use Rattle.index_parts.specs.TreeObject.{IsTreeEntry, kind_of_entries, tree_entry_of, unread_entries}
use Rattle.index_parts.specs.declared.object.tree.EntryKind.TheVariants as kinds
use Rattle.tree_decode.proofs.Levels.{prefix_kept}
use Rattle.tree_decode.proofs.Listings.{listing_ends, listing_leaf, listing_refused, listing_tree, says_also}
use Rattle.tree_decode.specs.Leaves.{leaf_of}
use Rattle.tree_decode.specs.LeafSteps.{IsRefusedName, ListsFault, last_leaf, listed_records}
use Rattle.tree_decode.proofs.walk.list_entries.Goals as goal

pub returns-in_default-entry-clause-lists : goal.returns-in_default-entry-clause-lists
returns-in_default-entry-clause-lists g c =
    let h = c.loop-entry.invariant in
    let left = unread_entries c.loop-entry.entries in
    let none = gives_malformed (kind_of_entries c.loop-entry.entries) c.args.kind left (unread_entries c.next.new.self)
    c.in-Some.entry h.same_kind (rw c.in_default-entry.is refl) c.in-Some.ensures.steps.1 in
    listing_ends (g.C.ComponentCheck.refusal c.args.check.now) c.args.kind c.args.listed.now c.loop-entry.listed
    (take c.args.prefix_len c.args.listed.now.path.items) c.args.bytes.now left h.listing
    (object_begins c.args.kind left h.listing.whole.0 h.listing.whole.1 none)

pub returns-clause-lists : goal.returns-clause-lists
returns-clause-lists g c =
    let h = c.loop-entry.invariant in
    let left = unread_entries c.loop-entry.entries in
    listing_ends (g.C.ComponentCheck.refusal c.args.check.now) c.args.kind c.args.listed.now c.loop-entry.listed (take
    c.args.prefix_len c.args.listed.now.path.items) c.args.bytes.now left h.listing c.in_default.ensures.steps.1.0

pub returns-in_err-check_name-clause-fault : goal.returns-in_err-check_name-clause-fault
returns-in_err-check_name-clause-fault g c =
    let h = c.loop-entry.invariant in
    let kind = c.args.kind in
    let check = g.C.ComponentCheck.refusal c.args.check.now in
    let prefix = take c.args.prefix_len c.args.listed.now.path.items in
    let left = unread_entries c.loop-entry.entries in
    let after = unread_entries c.next.new.self in
    let first : IsTreeEntry kind left (tree_entry_of c.in-Ok.entry) after =
    gives_entry (kind_of_entries c.loop-entry.entries) kind left after c.in-Some.entry c.in-Ok.entry h.same_kind
    c.in-Ok.is c.in-Some.ensures.steps.1 in
    let path : c.as_slice.result.now ≡ prefix ++ c.in-Ok.entry.filename.now = c.as_slice.ensures.value
    ∙ c.in_ok-set_name.ensures.path ∙ ap (λ (l : List ℕ). l ++ c.in-Ok.entry.filename.now) h.prefix in
    let p = err_from_is_err_and c.from_residual-in_err-check_name.result c.from_residual-in_err-check_name.ensures.1 in
    rw (p.1, p.2) (says_also c.in_err-check_name.field-0.0
    (IsRefusedName check c.as_slice.result.now c.in-Ok.entry.filename.now c.kind-entry_kind.result)
    (ListsFault check kind c.args.listed.now prefix c.args.bytes.now)
    (λ f. listing_refused check kind c.args.listed.now c.loop-entry.listed prefix c.args.bytes.now left h.listing
    (tree_entry_of c.in-Ok.entry) after first c.as_slice.result.now c.kind-entry_kind.result f
    c.kind-entry_kind.ensures path)
    c.in_err-check_name.ensures.fault)

pub returns-then-eq-clause-lists : goal.returns-then-eq-clause-lists
returns-then-eq-clause-lists g c =
    let h = c.loop-entry.invariant in
    let kind = c.args.kind in
    let check = g.C.ComponentCheck.refusal c.args.check.now in
    let prefix = take c.args.prefix_len c.args.listed.now.path.items in
    let left = unread_entries c.loop-entry.entries in
    let after = unread_entries c.next.new.self in
    let name = c.in-Ok.entry.filename.now in
    let first : IsTreeEntry kind left (tree_entry_of c.in-Ok.entry) after =
    gives_entry (kind_of_entries c.loop-entry.entries) kind left after c.in-Some.entry c.in-Ok.entry h.same_kind
    c.in-Ok.is c.in-Some.ensures.steps.1 in
    let path : c.push.new.self.items ≡ prefix ++ name ++ 47 ∷ [] = c.in_ok-push.ensures.items
    ∙ ap (λ (l : List ℕ). l ++ 47 ∷ []) (c.in_ok-set_name.ensures.path ∙ ap (λ (l : List ℕ). l ++ name) h.prefix) in
    let is : c.kind-entry_kind.result ≡ kinds.Tree = search rules in
    let kept : listed_records (record { leaves = c.set_name.new.self.leaves; path = c.push.new.self })
    ≡ listed_records c.loop-entry.listed = search rules in
    listing_tree check kind c.args.listed.now c.loop-entry.listed prefix c.args.bytes.now left h.listing (tree_entry_of
    c.in-Ok.entry) after first c.kind-entry_kind.result c.kind-entry_kind.ensures c.in_ok-check_name.ensures.passes
    _ _ is kept path refl (ap length c.rest-left.ensures)

pub loop-entry-preserved : goal.loop-entry-preserved
loop-entry-preserved g c =
    let h = c.loop-entry.invariant in
    let kind = c.args.kind in
    let check = g.C.ComponentCheck.refusal c.args.check.now in
    let prefix = take c.args.prefix_len c.args.listed.now.path.items in
    let left = unread_entries c.loop-entry.entries in
    let after = unread_entries c.next.new.self in
    let name = c.in-Ok.entry.filename.now in
    let first : IsTreeEntry kind left (tree_entry_of c.in-Ok.entry) after =
    gives_entry (kind_of_entries c.loop-entry.entries) kind left after c.in-Some.entry c.in-Ok.entry h.same_kind
    c.in-Ok.is c.in-Some.ensures.steps.1 in
    let path : c.set_name.new.self.path.items ≡ prefix ++ name =
    c.in_ok-set_name.ensures.path ∙ ap (λ (l : List ℕ). l ++ name) h.prefix in
    let other : c.kind-entry_kind.result ≢ kinds.Tree = search rules in
    let kept : listed_records c.set_name.new.self ≡ listed_records c.loop-entry.listed = search rules in
    let same : last_leaf c.set_name.new.self.path.items c.in-Ok.entry.oid c.kind-entry_kind.result
    ≡ leaf_of prefix (tree_entry_of c.in-Ok.entry) = rw (path, c.kind-entry_kind.ensures) refl in
    let pushed : listed_records c.push_leaf.new.self
    ≡ listed_records c.loop-entry.listed ++ leaf_of prefix (tree_entry_of c.in-Ok.entry) ∷ [] =
    c.in_ok-push_leaf.ensures.pushed ∙ rw (kept, same) refl in
    let begins = prefix_kept c.args.prefix_len c.loop-entry.listed.path.items c.set_name.new.self.path.items name h.long
    c.in_ok-set_name.ensures.path in
    let still : c.push_leaf.new.self.path.items ≡ c.set_name.new.self.path.items = search rules in
    record {
      same_kind = c.in-Some.ensures.steps.0 ∙ h.same_kind;
      packed = c.in_ok-push_leaf.ensures.packed;
      prefix = rw still (begins.0 ∙ h.prefix);
      long = rw still begins.1;
      listing = listing_leaf check kind c.args.listed.now c.loop-entry.listed prefix c.args.bytes.now left h.listing
          (tree_entry_of c.in-Ok.entry) after first c.kind-entry_kind.result c.kind-entry_kind.ensures
          c.in_ok-check_name.ensures.passes
          c.push_leaf.new.self other pushed;
    }
