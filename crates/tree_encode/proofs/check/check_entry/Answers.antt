use Rattle.std.proofs.Common.{Some, sym, ap, ◌∙◌}
use Rattle.std.specs.Prelude.{slice_index_or}
use Rattle.std.proofs.lemmas.Bool.{false≢true}
use Rattle.index_parts.specs.Mode.{named_kind}
use Rattle.tree_encode.proofs.Checked.{is_misnamed, is_null_id, is_other_kind, is_other_mode, is_unmerged}
use Rattle.tree_encode.proofs.Checked.{none_named, some_named}
use Rattle.tree_encode.proofs.check.check_entry.Goals as goal

pub returns-then-stage_raw-ne0-clause-fault : goal.returns-then-stage_raw-ne0-clause-fault
returns-then-stage_raw-ne0-clause-fault g c = λ d before.
    let r = slice_index_or c.args.entries.now c.args.place d in
    let e = c.entry-entry.result.now in
    is_unmerged (g.C.ComponentCheck.refusal c.args.check.now) c.args.kind before r e c.path-path.result.now _
    (c.entry-entry.ensures d) (c.path-path.ensures d) c.in_ok-from_slice.ensures
    (sym c.is_removed.ensures ∙ c.if-is_removed.false) (λ z. c.if-stage_raw-ne0.true (c.stage_raw.ensures ∙ z))

pub returns-in_default-clause-fault : goal.returns-in_default-clause-fault
returns-in_default-clause-fault g c = λ d before.
    let r = slice_index_or c.args.entries.now c.args.place d in
    let e = c.entry-entry.result.now in
    is_other_mode (g.C.ComponentCheck.refusal c.args.check.now) c.args.kind before r e c.path-path.result.now _
    (c.entry-entry.ensures d) (c.path-path.ensures d) c.in_ok-from_slice-2.ensures
    (sym c.is_removed.ensures ∙ c.if-is_removed.false) (sym c.stage_raw.ensures ∙ c.if-stage_raw-ne0.false)
    (none_named c.to_tree_entry_mode.result (named_kind e.mode.0) c.to_tree_entry_mode.ensures c.in_default.is)

pub returns-in-Some-fault_behind-clause-fault : goal.returns-in-Some-fault_behind-clause-fault
returns-in-Some-fault_behind-clause-fault g c = λ d before.
    let r = slice_index_or c.args.entries.now c.args.place d in
    let e = c.entry-entry.result.now in
    let named = some_named c.to_tree_entry_mode.result
    (named_kind e.mode.0) c.in-Some.mode c.to_tree_entry_mode.ensures c.in-Some.is in
    is_misnamed (g.C.ComponentCheck.refusal c.args.check.now) c.args.kind before r e c.path-path.result.now _
    (c.entry-entry.ensures d) (c.path-path.ensures d) c.in_ok-from_slice-3.ensures
    c.kind.result c.in-Some-fault_behind.fault (sym c.is_removed.ensures ∙ c.if-is_removed.false) (sym c.stage_raw.ensures
    ∙ c.if-stage_raw-ne0.false) (named ∙ ap Some (sym c.kind.ensures)) c.in-Some-fault_behind.ensures.some

pub returns-then-not-is_of_kind-clause-fault : goal.returns-then-not-is_of_kind-clause-fault
returns-then-not-is_of_kind-clause-fault g c = λ d before.
    let r = slice_index_or c.args.entries.now c.args.place d in
    let e = c.entry-entry.result.now in
    let named = some_named c.to_tree_entry_mode.result
    (named_kind e.mode.0) c.in-Some.mode c.to_tree_entry_mode.ensures c.in-Some.is in
    is_other_kind (g.C.ComponentCheck.refusal c.args.check.now) c.args.kind before r e c.path-path.result.now _
    (c.entry-entry.ensures d) (c.path-path.ensures d) c.in_ok-from_slice-4.ensures
    c.kind.result (sym c.is_removed.ensures ∙ c.if-is_removed.false)
    (sym c.stage_raw.ensures ∙ c.if-stage_raw-ne0.false) (named ∙ ap Some (sym c.kind.ensures))
    (c.fault_behind.ensures.none c.in_default-fault_behind.is)
    (λ k. absurd (false≢true (sym c.if-not-is_of_kind.true ∙ c.is_of_kind.ensures.same.1 k)))

pub returns-then-is_null-clause-fault : goal.returns-then-is_null-clause-fault
returns-then-is_null-clause-fault g c = λ d before.
    let r = slice_index_or c.args.entries.now c.args.place d in
    let e = c.entry-entry.result.now in
    let named = some_named c.to_tree_entry_mode.result
    (named_kind e.mode.0) c.in-Some.mode c.to_tree_entry_mode.ensures c.in-Some.is in
    is_null_id (g.C.ComponentCheck.refusal c.args.check.now) c.args.kind before r e c.path-path.result.now _
    (c.entry-entry.ensures d) (c.path-path.ensures d) c.in_ok-from_slice-5.ensures
    c.kind.result (sym c.is_removed.ensures ∙ c.if-is_removed.false)
    (sym c.stage_raw.ensures ∙ c.if-stage_raw-ne0.false) (named ∙ ap Some (sym c.kind.ensures))
    (c.fault_behind.ensures.none c.in_default-fault_behind.is)
    (c.is_of_kind.ensures.same.0 c.if-not-is_of_kind.false)
    (λ z. absurd (false≢true (sym z ∙ sym c.is_null.ensures ∙ c.if-is_null.true)))
