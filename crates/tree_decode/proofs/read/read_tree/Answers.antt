use Rattle.std.proofs.Common.{rules, ℕ, Some, ap, sym, subst, ◌∙◌}
use Rattle.index_parts.specs.TreeObject.{IsMalformedTree}
use Rattle.index_parts.specs.declared.object.Kind.TheVariants.{Tree, Blob, Commit, Tag}
use Rattle.tree_decode.proofs.Objects.{found_none, found_some, found_fault}
use Rattle.tree_decode.specs.Leaves.{Find, IsUnreadTree, missing, failed, malformed, other}
use Rattle.tree_decode.proofs.read.read_tree.Goals as goal

pub returns-in-Ok-None-clause-fault : goal.returns-in-Ok-None-clause-fault
returns-in-Ok-None-clause-fault g c = missing (found_none (g.F.Find.found c.args.objects.now c.args.id)
    c.find.new.buf.items c.in-Ok-None.field-0 c.in-Ok-None.field-0-is c.in-Ok-None.ensures)

pub returns-in-Err-Fault-clause-fault : goal.returns-in-Err-Fault-clause-fault
returns-in-Err-Fault-clause-fault g c =
    subst (λ (number : ℕ). IsUnreadTree (g.F.Find.found c.args.objects.now) c.args.kind c.args.id
    (Find c.args.id number)) (sym c.in-Err-Fault.fault-is)
    (failed c.in-Err-Fault.fault (found_fault (g.F.Find.found c.args.objects.now c.args.id) c.find.new.buf.items
    c.in-Err-Fault.field-0 c.in-Err-Fault.fault c.in-Err-Fault.field-0-is c.in-Err-Fault.ensures))

pub returns-then-not-is_whole-clause-fault : goal.returns-then-not-is_whole-clause-fault
returns-then-not-is_whole-clause-fault g c =
    let none : IsMalformedTree c.args.kind c.find.new.buf.items = search rules in
    malformed c.find.new.buf.items
    (found_some (g.F.Find.found c.args.objects.now c.args.id) c.find.new.buf.items c.in-Ok-Some-Tree.field-0 Tree
    (c.in-Ok-Some-Tree.field-0-is ∙ ap Some c.in-Ok-Some-Tree.field-0-0-is) c.in-Ok-Some-Tree.ensures) none

pub returns-in-Ok-Some-Blob-clause-fault : goal.returns-in-Ok-Some-Blob-clause-fault
returns-in-Ok-Some-Blob-clause-fault g c =
    other Blob c.find.new.buf.items
    (found_some (g.F.Find.found c.args.objects.now c.args.id) c.find.new.buf.items c.in-Ok-Some-Blob.field-0 Blob
    (c.in-Ok-Some-Blob.field-0-is ∙ ap Some c.in-Ok-Some-Blob.field-0-0-is) c.in-Ok-Some-Blob.ensures)
    (λ is. absurd cc)

pub returns-in-Ok-Some-Commit-clause-fault : goal.returns-in-Ok-Some-Commit-clause-fault
returns-in-Ok-Some-Commit-clause-fault g c =
    other Commit c.find.new.buf.items
    (found_some (g.F.Find.found c.args.objects.now c.args.id) c.find.new.buf.items c.in-Ok-Some-Commit.field-0
    Commit (c.in-Ok-Some-Commit.field-0-is ∙ ap Some c.in-Ok-Some-Commit.field-0-0-is) c.in-Ok-Some-Commit.ensures)
    (λ is. absurd cc)

pub returns-in-Ok-Some-Tag-clause-fault : goal.returns-in-Ok-Some-Tag-clause-fault
returns-in-Ok-Some-Tag-clause-fault g c =
    other Tag c.find.new.buf.items
    (found_some (g.F.Find.found c.args.objects.now c.args.id) c.find.new.buf.items c.in-Ok-Some-Tag.field-0 Tag
    (c.in-Ok-Some-Tag.field-0-is ∙ ap Some c.in-Ok-Some-Tag.field-0-0-is) c.in-Ok-Some-Tag.ensures)
    (λ is. absurd cc)
