use Rattle.std.proofs.Common.{rules, ◌≡◌, [], map, sym}
use Rattle.std.proofs.lemmas.List.{map-append}
use Rattle.ext_small.specs.ResolveUndoSteps.{lent_path}
use Rattle.ext_small.specs.ResolveUndo.{PathStages, path_stages, IsResolvePath}
use Rattle.index_extensions.proofs.Errors.{at_err}
use Rattle.ext_small.proofs.Paths.{path_takes, path_fewer}
use Rattle.ext_small.proofs.ResolveUndo.{front_path, no_paths, paths_push}
use Rattle.ext_small.proofs.resolve_undo.decode.Goals as goal

pub returns-in_default-clause-read : goal.returns-in_default-clause-read
returns-in_default-clause-read c = λ all h.
    let some : c.loop-rest.rest.now ≡ [] → ⊥ = search rules in
    no_paths c.args.object_hash c.args.data.now (map path_stages c.loop-rest.paths.items) all c.loop-rest.rest.now
    c.loop-rest.invariant some (sym c.in_default.ensures) h

pub loop-rest-smaller : goal.loop-rest-smaller
loop-rest-smaller c =
    let p : PathStages = lent_path c.in-Some.path in
    path_fewer c.args.object_hash c.loop-rest.rest.now p c.in-Some.after.now
    (path_takes c.args.object_hash c.loop-rest.rest.now (p, c.in-Some.after.now) (sym c.in-Some.ensures))

pub loop-rest-preserved : goal.loop-rest-preserved
loop-rest-preserved c =
    let p : PathStages = lent_path c.in-Some.path in
    let is_path : IsResolvePath c.args.object_hash c.loop-rest.rest.now p c.in-Some.after.now =
    path_takes c.args.object_hash c.loop-rest.rest.now (p, c.in-Some.after.now) (sym c.in-Some.ensures) in
    rw (c.in_ok-push.ensures.items, map-append, c.in_ok-from_slice.ensures)
    (paths_push c.args.object_hash c.args.data.now (map path_stages c.loop-rest.paths.items) p c.loop-rest.rest.now
    c.in-Some.after.now c.loop-rest.invariant is_path)

pub returns-in_err-from_slice-clause-memory : goal.returns-in_err-from_slice-clause-memory
returns-in_err-from_slice-clause-memory c =
    let p : PathStages = lent_path c.in-Some.path in
    let is_path = path_takes c.args.object_hash c.loop-rest.rest.now (p, c.in-Some.after.now) (sym c.in-Some.ensures) in
    at_err c.from_residual.result
    (front_path c.args.object_hash c.args.data.now (map path_stages c.loop-rest.paths.items) c.loop-rest.rest.now
    c.loop-rest.invariant (record { path = p; rest = c.in-Some.after.now; is_path = is_path }))

pub returns-in_err-push-clause-memory : goal.returns-in_err-push-clause-memory
returns-in_err-push-clause-memory c =
    let p : PathStages = lent_path c.in-Some.path in
    let is_path = path_takes c.args.object_hash c.loop-rest.rest.now (p, c.in-Some.after.now) (sym c.in-Some.ensures) in
    at_err c.from_residual-in_err-push.result
    (front_path c.args.object_hash c.args.data.now (map path_stages c.loop-rest.paths.items) c.loop-rest.rest.now
    c.loop-rest.invariant (record { path = p; rest = c.in-Some.after.now; is_path = is_path }))
