use Rattle.std.proofs.Common.{ap, refl, sym, option_map, ◌∙◌}
use Rattle.gix_index.specs.Link.{link_of}
use Rattle.gix_index.specs.State.{contents}
use Rattle.view_salvage.specs.Salvage.{absent, unlinked, unread, unshared}
use Rattle.view_salvage.proofs.Completing.{stays}
use Rattle.view_salvage.proofs.Saved.{if_ok}
use Rattle.view_salvage.proofs.salvage.with_shared.Goals.{else-has_link, then-has_link}
use Rattle.view_salvage.proofs.salvage.with_shared.Goals as goal

pub returns-in_default-clause-completed : goal.returns-in_default-clause-completed
returns-in_default-clause-completed c =
    let none = ap (option_map link_of) c.in_default.is in
    elim c.if-has_link.branch [
      | then-has_link w ↦
          stays _ _ _ c.args.own _ (unread none w.if-has_link.true refl w.shared-is)
      | else-has_link w ↦
          stays _ _ _ c.args.own _ (unlinked none w.if-has_link.false refl w.shared-is)
    ]

pub returns-then-is_null-clause-completed : goal.returns-then-is_null-clause-completed
returns-then-is_null-clause-completed c =
    let is = unshared (link_of c.in-Some.link) (ap (option_map link_of) c.in-Some.is)
    (sym c.is_null.ensures ∙ c.if-is_null.true) refl refl in
    stays _ _ _ c.args.own _ is

pub returns-in_default-shared-clause-completed : goal.returns-in_default-shared-clause-completed
returns-in_default-shared-clause-completed c =
    let is = absent (link_of c.in-Some.link) (
      ap (option_map link_of) c.in-Some.is,
      sym c.is_null.ensures ∙ c.if-is_null.false,
    ) (ap (option_map contents) c.in_default-shared.is) refl refl in
    stays _ _ _ c.args.own _ is

pub returns-clause-completed : goal.returns-clause-completed
returns-clause-completed c = rw (c.in-Some.is, c.in-Some-shared.is) (if_ok c.join_shared.result (λ x h. h c.args.has_link) c.join_shared.ensures.completed)

pub returns-clause-memory : goal.returns-clause-memory
returns-clause-memory c = rw (c.in-Some.is, c.in-Some-shared.is) c.join_shared.ensures.memory
