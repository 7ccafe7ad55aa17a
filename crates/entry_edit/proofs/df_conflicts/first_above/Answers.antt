use Rattle.std.proofs.Common.{ap, sym, arith, take}
use Rattle.std.specs.Prelude.{is_ok}
use Rattle.entry_lookup.proofs.Lookup.{ok_is}
use Rattle.entry_lookup.specs.Lookup.{IsKeyAt}
use Rattle.entry_fields.specs.Flags.{stage_code}
use Rattle.base_search.proofs.Halving.{position_none}
use Rattle.entry_edit.specs.EditSteps.{stands_above}
use Rattle.entry_edit.proofs.Clears.{none_above}
use Rattle.entry_edit.proofs.Firsts.{first_at}
use Rattle.entry_edit.proofs.Ways.{none_found, one_more}
use Rattle.entry_edit.proofs.df_conflicts.first_above.Goals as goal
use Rattle.entry_edit.proofs.df_conflicts.first_above.Goals.{then-path-at-eq47+in_default, else-path-at-eq47}

pub loop-at-init : goal.loop-at-init
loop-at-init c = λ k low high. absurd (omega arith)

key : (c : goal.In-Ok) → IsKeyAt (take c.loop-at.at c.args.path.now) (stage_code c.args.stage) c.args.entries.now c.in-Ok.place
key c = ok_is c.key_place.result c.in-Ok.place _ c.in-Ok.is c.key_place.ensures.found

pub returns-in-Ok-clause-in_range : goal.returns-in-Ok-clause-in_range
returns-in-Ok-clause-in_range c = (key c).in_range

pub returns-in-Ok-clause-first : goal.returns-in-Ok-clause-first
returns-in-Ok-clause-first c = λ o clear.
    sym (first_at c.args.path.now (stage_code c.args.stage) c.args.entries.now c.args.checked_len c.loop-at.at
    c.in-Ok.place o
    clear (λ k low high slash. c.loop-at.invariant k low high slash o) c.loop-at-test.true c.if-path-at-eq47.true (key c))

pub returns-clause-first : goal.returns-clause-first
returns-clause-first c = λ o clear.
    sym (position_none (stands_above c.args.path.now (stage_code c.args.stage)) c.args.entries.now
    (none_above c.args.path.now (stage_code c.args.stage) c.args.entries.now c.args.checked_len clear
    (λ k low within slash. c.loop-at.invariant k low (omega (arith, c.loop-at-test.false)) slash o)))

pub loop-at-preserved : goal.loop-at-preserved
loop-at-preserved c = λ k low within slash o.
    let path = c.args.path.now in
    let rs = c.args.entries.now in
    let stage = stage_code c.args.stage in
    one_more path stage rs c.args.checked_len c.loop-at.at c.loop-at.invariant (λ here.
    elim c.if-path-at-eq47.branch [
      | then-path-at-eq47+in_default w ↦ none_found (take c.loop-at.at path) stage rs w.key_place.result
          (ap is_ok w.in_default.is) (w.key_place.ensures.answer o) o
      | else-path-at-eq47 w ↦ absurd (w.if-path-at-eq47.false here)
    ]) k low within slash o
