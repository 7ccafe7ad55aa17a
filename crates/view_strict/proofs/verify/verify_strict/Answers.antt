use Rattle.std.proofs.Common.{◌≡◌, ◌∙◌, arith, false, refl, true}
use Rattle.std.proofs.lemmas.Result.{err_from_is_err_and}
use Rattle.gix_index.specs.State.{contents, records}
use Rattle.view_strict.proofs.Sound.{all_sound, first_unsound, more_sound, unsound}
use Rattle.view_strict.proofs.verify.verify_strict.Goals as goal

pub loop-place-preserved : goal.loop-place-preserved
loop-place-preserved c = more_sound c.object_hash-kind.result c.new-entries.result c.loop-place.place
    c.loop-place.invariant c.in_ok-check_at.ensures.sound

pub returns-in_err-check_at-clause-ok : goal.returns-in_err-check_at-clause-ok
returns-in_err-check_at-clause-ok c =
    let same : c.new-entries.result ≡ records c.args.state.now =
    c.new-entries.ensures ∙ rw (c.path_backing.ensures, c.entries.ensures) refl in
    let p = err_from_is_err_and c.from_residual.result c.from_residual.ensures.1 in
    let says = first_unsound c.object_hash-kind.result (contents c.args.state.now).kind c.new-entries.result
    (records c.args.state.now) c.loop-place.place c.object_hash-kind.ensures same
    c.loop-place.invariant c.in_err-check_at.field-0.0 (omega (arith, c.len-place-end.ensures, c.loop-place-test.true))
    c.in_err-check_at.ensures.fault in
    rw p.1 (
      λ bad. let no : false ≡ true = bad in
          absurd cc,
      λ strict. absurd (unsound (contents c.args.state.now).kind (records c.args.state.now) _ says strict),
    )

pub returns-in_err-check_at-clause-fault : goal.returns-in_err-check_at-clause-fault
returns-in_err-check_at-clause-fault c =
    let same : c.new-entries.result ≡ records c.args.state.now =
    c.new-entries.ensures ∙ rw (c.path_backing.ensures, c.entries.ensures) refl in
    let p = err_from_is_err_and c.from_residual.result c.from_residual.ensures.1 in
    rw (p.1, p.2) (first_unsound c.object_hash-kind.result (contents c.args.state.now).kind c.new-entries.result
    (records c.args.state.now) c.loop-place.place c.object_hash-kind.ensures same
    c.loop-place.invariant c.in_err-check_at.field-0.0 (omega (arith, c.len-place-end.ensures, c.loop-place-test.true))
    c.in_err-check_at.ensures.fault)

pub returns-clause-ok : goal.returns-clause-ok
returns-clause-ok c =
    let same : c.new-entries.result ≡ records c.args.state.now =
    c.new-entries.ensures ∙ rw (c.path_backing.ensures, c.entries.ensures) refl in
    let all = all_sound c.object_hash-kind.result (contents c.args.state.now).kind c.new-entries.result
    (records c.args.state.now) c.loop-place.place c.object_hash-kind.ensures same c.loop-place.invariant
    (omega (arith, c.len-place-end.ensures, c.loop-place-test.false)) in
    (λ _. all, λ _. refl)
