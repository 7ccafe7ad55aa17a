use Rattle.std.proofs.Common.{◌⊎◌, inl, inr, []}
use Rattle.std.specs.Prelude.{◌≢◌}
use Rattle.index_parts.specs.declared.object.tree.EntryKind.TheVariants as kinds
use Rattle.tree_encode.proofs.PathNames.{split_some, bad_front, too_deep, path_later, path_whole, later_some}
use Rattle.tree_encode.proofs.PathNames.{empty_from, some_from}
use Rattle.tree_encode.proofs.names.+fault_of.Goals as goal
use Rattle.tree_encode.proofs.names.+fault_of.Goals.{else-is_tree-via-then-is_tree+else-is_empty}
use Rattle.tree_encode.proofs.names.+fault_of.Goals.{else-is_tree-via-else-is_tree}

pub returns-in-Some-name_fault-clause-some : goal.returns-in-Some-name_fault-clause-some
returns-in-Some-name_fault-clause-some g t c =
    let name = c.split_name.result.0.now in
    let e =
    split_some c.args.path.now name c.split_name.result.1 c.in-Some.rest c.in-Some.is c.split_name.ensures.parts in
    bad_front (g.C.ComponentCheck.refusal c.args.check.now) c.args.kind c.args.path.now name c.in-Some.rest.now e
    c.args.levels c.in-Some-name_fault.fault c.split_name.ensures.name c.in-Some-name_fault.ensures.some

pub returns-then-levels-eq0-clause-some : goal.returns-then-levels-eq0-clause-some
returns-then-levels-eq0-clause-some g t c =
    let name = c.split_name.result.0.now in
    let e =
    split_some c.args.path.now name c.split_name.result.1 c.in-Some.rest c.in-Some.is c.split_name.ensures.parts in
    too_deep (g.C.ComponentCheck.refusal c.args.check.now) c.args.kind c.args.path.now name c.in-Some.rest.now e
    c.args.levels c.if-levels-eq0.true (c.name_fault.ensures.name c.in_default-name_fault.is)
    (c.name_fault.ensures.passes c.in_default-name_fault.is)

pub returns-then-is_empty-clause-none : goal.returns-then-is_empty-clause-none
returns-then-is_empty-clause-none g t c = λ same.
    let name = c.split_name.result.0.now in
    let rest = c.in-Some.rest.now in
    let e =
    split_some c.args.path.now name c.split_name.result.1 c.in-Some.rest c.in-Some.is c.split_name.ensures.parts in
    path_whole (g.C.ComponentCheck.refusal c.args.check.now) c.args.kind c.args.path.now name rest e c.args.levels
    c.if-levels-eq0.false (c.name_fault.ensures.name c.in_default-name_fault.is)
    (c.name_fault.ensures.passes c.in_default-name_fault.is)
    (c.is_tree.ensures.yes c.if-is_tree.true) (empty_from rest c.is_empty.result c.is_empty.ensures c.if-is_empty.true)

pub returns-clause-none : goal.returns-clause-none
returns-clause-none g t c = λ none.
    let name = c.split_name.result.0.now in
    let e =
    split_some c.args.path.now name c.split_name.result.1 c.in-Some.rest c.in-Some.is c.split_name.ensures.parts in
    path_later (g.C.ComponentCheck.refusal c.args.check.now) c.args.kind c.args.path.now name c.in-Some.rest.now e
    c.args.levels c.if-levels-eq0.false (c.name_fault.ensures.name c.in_default-name_fault.is)
    (c.name_fault.ensures.passes c.in_default-name_fault.is)
    (c.fault_of.ensures.none none)

pub returns-clause-some : goal.returns-clause-some
returns-clause-some g t c =
    let name = c.split_name.result.0.now in
    let e =
    split_some c.args.path.now name c.split_name.result.1 c.in-Some.rest c.in-Some.is c.split_name.ensures.parts in
    let other : (c.args.kind ≢ kinds.Tree) ⊎ (c.in-Some.rest.now ≢ []) =
    elim c.else-is_tree.branch [
      | else-is_tree-via-then-is_tree+else-is_empty w ↦
          inr (some_from c.in-Some.rest.now w.is_empty.result w.is_empty.ensures w.if-is_empty.false)
      | else-is_tree-via-else-is_tree w ↦ inl (c.is_tree.ensures.no w.if-is_tree.false)
    ] in
    later_some (g.C.ComponentCheck.refusal c.args.check.now) c.args.kind c.args.path.now name c.in-Some.rest.now e
    c.args.levels c.if-levels-eq0.false (c.name_fault.ensures.name c.in_default-name_fault.is)
    (c.name_fault.ensures.passes c.in_default-name_fault.is)
    other c.fault_of.result c.fault_of.ensures.some
