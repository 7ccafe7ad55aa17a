use Rattle.std.proofs.Common.{rules, ◌≡◌, ◌<◌, [], length, sym, refl}
use Rattle.index_parts.specs.TreeObject.{tree_entry_of, kind_of_entries, unread_entries}
use Rattle.index_parts.proofs.TreeObjects.{entry_takes, entry_fewer, no_entry}
use Rattle.index_parts.proofs.object.tree.EntriesIterator.next.Goals as goal

pub returns-in_default-clause-steps : goal.returns-in_default-clause-steps
returns-in_default-clause-steps c =
    let some : unread_entries c.args.self.now ≡ [] → ⊥ = search rules in (
      refl,
      (
        some,
        no_entry (kind_of_entries c.args.self.now) (unread_entries c.args.self.now) (sym c.in_default.ensures),
        refl,
      ),
    )

pub returns-clause-steps : goal.returns-clause-steps
returns-clause-steps c = (
  refl,
  entry_takes (kind_of_entries c.args.self.now) (unread_entries c.args.self.now)
      (tree_entry_of c.in-Some.entry, c.in-Some.rest.now) (sym c.in-Some.ensures),
)

pub returns-clause-goes : goal.returns-clause-goes
returns-clause-goes c =
    let lt : length c.in-Some.rest.now < length (unread_entries c.args.self.now) =
    entry_fewer (kind_of_entries c.args.self.now) (unread_entries c.args.self.now)
    (tree_entry_of c.in-Some.entry) c.in-Some.rest.now (entry_takes (kind_of_entries c.args.self.now)
    (unread_entries c.args.self.now) (tree_entry_of c.in-Some.entry, c.in-Some.rest.now) (sym c.in-Some.ensures)) in
    record { on = λ _. (tt, tt, lt); keeps = tt; rests = λ _. tt }
