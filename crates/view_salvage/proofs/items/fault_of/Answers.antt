use Rattle.std.proofs.Common.{rules, Some, None, refl, sym}
use Rattle.gix_index.proofs.Links.{no_link_fault}
use Rattle.gix_index.specs.Outcome.{Unimplemented, unknown}
use Rattle.view_salvage.proofs.Links.{link_item}
use Rattle.view_salvage.proofs.items.fault_of.Goals as goal

pub returns-then-not-is_understood-clause-fault : goal.returns-then-not-is_understood-clause-fault
returns-then-not-is_understood-clause-fault c =
    λ size. (Unimplemented c.args.signature, (refl, unknown (sym c.if-not-is_understood.ensures) refl))

pub returns-in_default-clause-fault : goal.returns-in_default-clause-fault
returns-in_default-clause-fault c = link_item c.args.kind c.args.signature c.args.content.now None
    (sym c.if-not-is_understood.ensures) (search rules)
    (λ f h. no_link_fault c.args.kind c.args.content.now _ f c.in_default.ensures.found h)

pub returns-clause-fault : goal.returns-clause-fault
returns-clause-fault c =
    let content = c.args.content.now in
    link_item c.args.kind c.args.signature content (Some c.in_ok-extension_error.field-0) (sym
    c.if-not-is_understood.ensures)
    (search rules) (c.in_ok-extension_error.ensures.told c.args.kind content c.in-Err.ensures.fault)
