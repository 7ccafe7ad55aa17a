use Rattle.tree_encode.specs.Refusals.{of_file, last_name, no_slash}
use Rattle.std.proofs.Common.{◌≡◌, sym, subst, None}
use Rattle.index_parts.specs.declared.object.tree.EntryKind.{EntryKind}
use Rattle.index_parts.specs.declared.object.tree.EntryKind.TheVariants as kinds
use Rattle.index_parts.specs.NameCheck.{refusal_as}
use Rattle.tree_encode.specs.Refusals.{IsMisnamed}
use Rattle.tree_encode.specs.declared.error.NameFault.TheVariants as faults
use Rattle.tree_encode.proofs.names.last_fault.Goals as goal

pub returns-in-Some-clause-some : goal.returns-in-Some-clause-some
returns-in-Some-clause-some g c =
    λ levels. last_name levels c.args.kind c.args.name.now c.in-Some.fault c.requires c.in-Some.ensures.some

pub returns-then-is_tree-clause-some : goal.returns-then-is_tree-clause-some
returns-then-is_tree-clause-some g c = λ levels.
    let check = g.C.ComponentCheck.refusal c.args.check.now in
    let name = c.args.name.now in
    let is = c.is_tree.ensures.yes c.if-is_tree.true in
    let passes : refusal_as check name kinds.Tree ≡ None =
    subst (λ (k : EntryKind). refusal_as check name k ≡ None) is (c.name_fault.ensures.passes c.in_default.is) in
    subst (λ (k : EntryKind). IsMisnamed check levels k name faults.NoSlash) (sym is)
    (no_slash levels name (c.name_fault.ensures.name c.in_default.is) passes)

pub returns-clause-none : goal.returns-clause-none
returns-clause-none g c = λ same levels.
    of_file levels c.args.kind c.args.name.now (c.is_tree.ensures.no c.if-is_tree.false)
    (c.name_fault.ensures.name c.in_default.is) (c.name_fault.ensures.passes c.in_default.is)
