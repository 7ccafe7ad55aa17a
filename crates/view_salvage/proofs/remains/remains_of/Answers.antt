use Rattle.std.proofs.Common.{ap, ◌∙◌}
use Rattle.gix_index.specs.Contents.{Contents}
use Rattle.view_salvage.specs.DivisionSteps.{EndsDivision}
use Rattle.view_salvage.proofs.ReadFronts.{are_bytes}
use Rattle.view_salvage.proofs.Remaining.{read_index, remain_of}
use Rattle.view_salvage.proofs.Saved.{index_itself}
use Rattle.view_salvage.proofs.remains.remains_of.Goals as goal

pub link_in-requires : goal.link_in-requires
link_in-requires c =
    let d : EndsDivision c.args.kind c.args.bytes.now _ _ _ = c.in_ok-parts.ensures in
    (d.place, rw c.deref.ensures.value d.lie)

pub returns-clause-remains : goal.returns-clause-remains
returns-clause-remains c =
    let d = c.in_ok-parts.field-0 in
    remain_of c.args.kind c.args.bytes.now d.entries.records d.parts.items d.fault _ c.in_ok-parts.ensures
    c.in-Ok.ensures.0
    (c.with_sparse_mark-front.ensures.records ∙ ap (λ (v : Contents). v.records) c.from_entries.ensures.entries)
    c.first_fault-fault.ensures.error c.in-Ok.ensures.1
    (rw c.deref-3.ensures.value at c.first_fault-fault.ensures.offset)
    (rw c.deref-2.ensures.value at c.has_link-has_link.ensures) (rw c.deref.ensures.value at c.in_ok-link.ensures.link)

pub returns-clause-plain : goal.returns-clause-plain
returns-clause-plain c =
    let d = c.in_ok-parts.field-0 in
    let front = c.from_entries in
    c.with_sparse_mark-front.ensures.plain (index_itself c.args.kind d.entries.records front.result
    (read_index c.args.kind c.args.bytes.now d.entries.records d.parts.items d.fault _ front.result
    (are_bytes c.args.bytes.now c.type_inv.bytes) c.in_ok-parts.ensures front.ensures.entries front.ensures.placed))
