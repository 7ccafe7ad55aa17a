use Rattle.std.proofs.Common.{rules, ◌≡◌, ◌++◌, ◌∷◌, [], true, false, List, ℕ, sym, subst, ◌∙◌}
use Rattle.std.specs.Prelude.{is_err}
use Rattle.index_parts.proofs.TreeLists.{gives_some, gives_malformed, gives_left}
use Rattle.index_parts.proofs.TreeObjects.{entries_push, malformed_behind}
use Rattle.index_parts.specs.TreeObject.{AreTreeEntries, kind_of_entries, unread_entries}
use Rattle.tree_decode.proofs.read.is_whole.Goals as goal

pub loop-entry-init : goal.loop-entry-init
loop-entry-init c = record { kind = c.new-entries.ensures.kind; read = ([], sym c.new-entries.ensures.bytes) }

pub loop-entry-preserved : goal.loop-entry-preserved
loop-entry-preserved c =
    let is : is_err c.in-Some.entry ≡ false = search rules in
    let h = c.loop-entry.invariant in
    let left = unread_entries c.loop-entry.entries in
    let after = unread_entries c.next.new.self in
    let s = gives_some (kind_of_entries c.loop-entry.entries) c.args.kind left after c.in-Some.entry h.kind is
    c.in-Some.ensures.steps.1 in
    record {
      kind = c.in-Some.ensures.steps.0 ∙ h.kind;
      read = (h.read.0 ++ s.0 ∷ [], entries_push c.args.kind c.args.bytes.now h.read.0 s.0 left after h.read.1 s.1);
    }

pub returns-then-is_err-clause-malformed : goal.returns-then-is_err-clause-malformed
returns-then-is_err-clause-malformed c = λ e.
    let is : is_err c.in-Some.entry ≡ true = search rules in
    let h = c.loop-entry.invariant in
    let left = unread_entries c.loop-entry.entries in
    let after = unread_entries c.next.new.self in
    let some =
    gives_left (kind_of_entries c.loop-entry.entries) left after c.in-Some.entry is c.in-Some.ensures.steps.1 in
    let none = gives_malformed (kind_of_entries c.loop-entry.entries) c.args.kind left after c.in-Some.entry h.kind is
    c.in-Some.ensures.steps.1 in
    malformed_behind c.args.kind c.args.bytes.now h.read.0 left h.read.1 some none

pub returns-clause-whole : goal.returns-clause-whole
returns-clause-whole c = λ e.
    let h = c.loop-entry.invariant in (
      h.read.0,
      subst (λ (rest : List ℕ). AreTreeEntries c.args.kind c.args.bytes.now h.read.0 rest)
          c.in_default.ensures.steps.1.0 h.read.1,
    )
