use Rattle.std.proofs.Common.{◌<◌, ℕ, List, length, arith, refl, sym, ap, subst, ◌∙◌}
use Rattle.std.proofs.lemmas.Result.{err_from_is_err_and}
use Rattle.index_parts.proofs.TreeLists.{gives_entry, gives_malformed, gives_end}
use Rattle.index_parts.proofs.TreeObjects.{entry_fewer}
use Rattle.index_parts.specs.Id.{id_kind}
use Rattle.index_parts.specs.TreeObject.{IsTreeEntry, tree_entry_of, kind_of_entries, unread_entries}
use Rattle.ext_tree.specs.TreeFaults.{child_fault}
use Rattle.ext_tree.proofs.Agreements.{CountsOn, counts_begin, counts_pass, counts_more, counts_fault}
use Rattle.ext_tree.proofs.Agreements.{counts_end}
use Rattle.ext_tree.proofs.Sounds.{row_of_trees, says_is, says_first}
use Rattle.ext_tree.proofs.verify.objects.count_directories.Goals as goal

pub loop-entry-init : goal.loop-entry-init
loop-entry-init c = record {
  kind = c.new-entries.ensures.kind ∙ c.kind.ensures;
  fewer = omega (arith, ap length c.new-entries.ensures.bytes);
  counts = subst (λ (b : List ℕ). CountsOn (id_kind c.args.parent_id) c.args.bytes.now c.args.parent_id
      (row_of_trees c.args.children.now) 0 b) (sym c.new-entries.ensures.bytes)
      (counts_begin (id_kind c.args.parent_id) c.args.bytes.now c.args.parent_id (row_of_trees c.args.children.now));
}

pub loop-entry-preserved : goal.loop-entry-preserved
loop-entry-preserved c =
    let kind = id_kind c.args.parent_id in
    let left = unread_entries c.loop-entry.entries in
    let after = unread_entries c.next.new.self in
    let is : IsTreeEntry kind left (tree_entry_of c.in-Ok.entry) after =
    gives_entry (kind_of_entries c.loop-entry.entries) kind left after c.in-Some.entry c.in-Ok.entry
    c.loop-entry.invariant.kind c.in-Ok.is c.in-Some.ensures.steps.1 in
    let fewer : length after < length left = entry_fewer kind left (tree_entry_of c.in-Ok.entry) after is in
    record {
      kind = c.in-Some.ensures.steps.0 ∙ c.loop-entry.invariant.kind;
      fewer = omega (arith, fewer, c.loop-entry.invariant.fewer);
      counts = counts_pass kind c.args.bytes.now c.args.parent_id
          (row_of_trees c.args.children.now) c.loop-entry.number left c.loop-entry.invariant.counts
          (tree_entry_of c.in-Ok.entry) after is (sym c.is_tree.ensures ∙ c.if-is_tree.false);
    }

pub loop-entry-preserved-then-is_tree : goal.loop-entry-preserved-then-is_tree
loop-entry-preserved-then-is_tree c =
    let kind = id_kind c.args.parent_id in
    let left = unread_entries c.loop-entry.entries in
    let after = unread_entries c.next.new.self in
    let is : IsTreeEntry kind left (tree_entry_of c.in-Ok.entry) after =
    gives_entry (kind_of_entries c.loop-entry.entries) kind left after c.in-Some.entry c.in-Ok.entry
    c.loop-entry.invariant.kind c.in-Ok.is c.in-Some.ensures.steps.1 in
    let fewer : length after < length left = entry_fewer kind left (tree_entry_of c.in-Ok.entry) after is in
    record {
      kind = c.in-Some.ensures.steps.0 ∙ c.loop-entry.invariant.kind;
      fewer = omega (arith, fewer, c.loop-entry.invariant.fewer);
      counts = counts_more kind c.args.bytes.now c.args.parent_id (row_of_trees c.args.children.now) c.loop-entry.number
          left c.loop-entry.invariant.counts (tree_entry_of c.in-Ok.entry) after is
          (sym c.is_tree.ensures ∙ c.if-is_tree.true) c.in_ok-check_child.ensures.ok;
    }

pub returns-in_err-check_child-clause-err : goal.returns-in_err-check_child-clause-err
returns-in_err-check_child-clause-err c =
    let kind = id_kind c.args.parent_id in
    let left = unread_entries c.loop-entry.entries in
    let after = unread_entries c.next.new.self in
    let row = row_of_trees c.args.children.now in
    let is : IsTreeEntry kind left (tree_entry_of c.in-Ok.entry) after =
    gives_entry (kind_of_entries c.loop-entry.entries) kind left after c.in-Some.entry c.in-Ok.entry
    c.loop-entry.invariant.kind c.in-Ok.is c.in-Some.ensures.steps.1 in
    let p = err_from_is_err_and c.from_residual.result c.from_residual.ensures.1 in
    rw (p.1, p.2) (λ es l.
    let f =
    counts_fault kind c.args.bytes.now c.args.parent_id row c.loop-entry.number left c.loop-entry.invariant.counts
    (tree_entry_of c.in-Ok.entry) after is (sym c.is_tree.ensures ∙ c.if-is_tree.true) es l in
    says_is _ _ _ f.1 (says_first _
    (child_fault c.args.parent_id row (tree_entry_of c.in-Ok.entry)) _ c.in_err-check_child.ensures.err))

pub returns-in_default-entry-clause-number : goal.returns-in_default-entry-clause-number
returns-in_default-entry-clause-number c = λ es l.
    let kind = id_kind c.args.parent_id in
    let left = unread_entries c.loop-entry.entries in
    let none = gives_malformed (kind_of_entries c.loop-entry.entries) kind left (unread_entries c.next.new.self)
    c.in-Some.entry c.loop-entry.invariant.kind (rw c.in_default-entry.is refl) c.in-Some.ensures.steps.1 in
    (counts_end kind c.args.bytes.now c.args.parent_id
    (row_of_trees c.args.children.now) c.loop-entry.number left c.loop-entry.invariant.counts none es l).0

pub returns-in_default-entry-clause-ok : goal.returns-in_default-entry-clause-ok
returns-in_default-entry-clause-ok c = λ es l.
    let kind = id_kind c.args.parent_id in
    let left = unread_entries c.loop-entry.entries in
    let none = gives_malformed (kind_of_entries c.loop-entry.entries) kind left (unread_entries c.next.new.self)
    c.in-Some.entry c.loop-entry.invariant.kind (rw c.in_default-entry.is refl) c.in-Some.ensures.steps.1 in
    (counts_end kind c.args.bytes.now c.args.parent_id
    (row_of_trees c.args.children.now) c.loop-entry.number left c.loop-entry.invariant.counts none es l).1

pub returns-clause-number : goal.returns-clause-number
returns-clause-number c = λ es l.
    let kind = id_kind c.args.parent_id in
    let left = unread_entries c.loop-entry.entries in
    let none = gives_end (kind_of_entries c.loop-entry.entries) kind left
    (unread_entries c.next.new.self) c.in_default.ensures.steps.1 in
    (counts_end kind c.args.bytes.now c.args.parent_id
    (row_of_trees c.args.children.now) c.loop-entry.number left c.loop-entry.invariant.counts none es l).0

pub returns-clause-ok : goal.returns-clause-ok
returns-clause-ok c = λ es l.
    let kind = id_kind c.args.parent_id in
    let left = unread_entries c.loop-entry.entries in
    let none = gives_end (kind_of_entries c.loop-entry.entries) kind left
    (unread_entries c.next.new.self) c.in_default.ensures.steps.1 in
    (counts_end kind c.args.bytes.now c.args.parent_id
    (row_of_trees c.args.children.now) c.loop-entry.number left c.loop-entry.invariant.counts none es l).1
