use Rattle.std.proofs.Common.{arith, sym, ◌∙◌}
use Rattle.view_salvage.proofs.Choosing.{rises_by, same_fault}
use Rattle.view_salvage.proofs.Saving.{first_at}
use Rattle.view_salvage.proofs.chosen.check_place.Goals.{else-place-gt0-via-then-place-gt0+else-not-is_lt}
use Rattle.view_salvage.proofs.chosen.check_place.Goals.{else-place-gt0-via-else-place-gt0}
use Rattle.view_salvage.proofs.chosen.check_place.Goals as goal

pub returns-clause-fit : goal.returns-clause-fit
returns-clause-fit c =
    let rs = c.args.entries.now in
    let place = c.args.place in (
      λ d. sym (same_fault c.args.kind c.entry.result.now c.path.result.now _ (c.entry.ensures d) (c.path.ensures d))
          ∙ c.in_ok-entry_fault.ensures,
      λ fall. elim c.else-place-gt0.branch [
        | else-place-gt0-via-then-place-gt0+else-not-is_lt w ↦
            let d = first_at rs place c.requires in
            fall.falls d (rises_by w.is_lt.result w.compare.result _ w.is_lt.ensures w.if-not-is_lt.false
            (w.compare.ensures d))
        | else-place-gt0-via-else-place-gt0 w ↦ absurd (omega (arith, fall.behind_one, w.if-place-gt0.false))
      ],
    )
