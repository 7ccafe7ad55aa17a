use Rattle.std.proofs.Common.{arith, get_or, length, map, ◌∙◌, ◌<◌, ◌≡◌}
use Rattle.std.specs.Prelude.{◌&&◌}
use Rattle.std.specs.List.{Contains}
use Rattle.entry_list.specs.Record.{Record}
use Rattle.entry_list.proofs.SharedFronts.{shared_within_second}
use Rattle.entry_lookup.specs.Closest.{is_directory}
use Rattle.entry_lookup.specs.Folded.{folded}
use Rattle.entry_lookup.specs.NameSteps.{named_value, visits}
use Rattle.entry_lookup.specs.WalkSteps.{span_value}
use Rattle.entry_lookup.proofs.Fronts.{folded_len}
use Rattle.entry_lookup.proofs.OpenSpans.{closed_all}
use Rattle.entry_lookup.proofs.WalkTurns.{asked_own, at_end, at_first, at_next, is_directory_of, not_asked}
use Rattle.entry_lookup.proofs.walk.directories_of.Goals as goal
use Rattle.entry_lookup.proofs.walk.directories_of.Goals.{then-own, else-own}

pub loop-turn-init : goal.loop-turn-init
loop-turn-init c = rw (c.new-closed.ensures.items, c.new-live.ensures.items)
    (at_first c.args.own c.args.ignore_case c.args.entries.now (visits c.args.sorted c.args.entries.now))

pub entry-requires : goal.entry-requires
entry-requires c =
    let vs = visits c.args.sorted c.args.entries.now in
    let visit = named_value c.visit_at-visit.result in
    let turn = c.loop-turn.turn in
    let within : turn < length vs = omega (arith, c.loop-turn-test.true, c.len-turn-end.ensures, c.requires.len) in
    let there : Contains vs visit = (turn, within, c.visit_at-visit.ensures visit) in
    omega (arith, (c.requires.each visit there).0)

pub step-requires-clause-place : goal.step-requires-clause-place
step-requires-clause-place c =
    let vs = visits c.args.sorted c.args.entries.now in
    let visit = named_value c.visit_at-visit.result in
    let turn = c.loop-turn.turn in
    let within : turn < length vs = omega (arith, c.loop-turn-test.true, c.len-turn-end.ensures, c.requires.len) in
    let there : Contains vs visit = (turn, within, c.visit_at-visit.ensures visit) in
    omega (arith, (c.requires.each visit there).0, c.len-turn-end.ensures)

pub step-requires-clause-within : goal.step-requires-clause-within
step-requires-clause-within c =
    let i = c.args.ignore_case in
    let last = c.loop-turn.last.now in
    let name = c.visit_at-visit.result.name.now in
    omega (
      arith,
      c.shared_names-shared.ensures,
      shared_within_second (folded i last) (folded i name),
      folded_len i name,
    )

pub loop-turn-preserved : goal.loop-turn-preserved
loop-turn-preserved c =
    let rs = c.args.entries.now in
    let vs = visits c.args.sorted c.args.entries.now in
    let visit = named_value c.visit_at-visit.result in
    let turn = c.loop-turn.turn in
    let stands = c.if-own.stands in
    let within : turn < length vs = omega (arith, c.loop-turn-test.true, c.len-turn-end.ensures, c.requires.len) in
    let told : (d : Record) → stands ≡ (c.args.own && is_directory (get_or rs visit.place d)) = elim c.if-own.branch [
      | then-own w ↦
          (λ d. asked_own c.args.own stands (is_directory (get_or rs visit.place d)) w.if-own.true (w.stands-is
          ∙ w.is_wanted-stands.ensures ∙ is_directory_of rs visit.place w.entry.result.now w.entry.ensures d))
      | else-own w ↦ (λ d. not_asked c.args.own stands (is_directory (get_or rs visit.place d)) w.if-own.false
          (w.stands-is ∙ w.if-own.false))
    ] in
    at_next c.args.own c.args.ignore_case rs vs c.requires turn c.loop-turn.last.now
    (map span_value c.loop-turn.closed.items)
    (map span_value c.loop-turn.live.items) c.loop-turn.invariant visit stands c.shared_names-shared.result
    (map span_value c.step.new.closed.items) (map span_value c.step.new.live.items)
    within c.visit_at-visit.ensures told c.shared_names-shared.ensures c.in_ok-step.ensures

pub returns : goal.returns
returns c =
    let rs = c.args.entries.now in
    let vs = visits c.args.sorted c.args.entries.now in
    at_end c.args.own c.args.ignore_case rs vs c.requires c.loop-turn.turn c.loop-turn.last.now
    (map span_value c.loop-turn.closed.items) (map span_value c.loop-turn.live.items) c.loop-turn.invariant
    (map span_value c.close.new.closed.items)
    (omega (arith, c.loop-turn-test.false, c.len-turn-end.ensures, c.requires.len))
    (closed_all _ _ _ _ c.in_ok-close.ensures)
