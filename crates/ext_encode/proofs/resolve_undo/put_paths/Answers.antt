use Rattle.std.proofs.Common.{ℕ, List, suc, ◌++◌, ◌∙◌, sym, ap, take, drop}
use Rattle.std.specs.List.{flat_map}
use Rattle.index_parts.proofs.Taking.{flat_map_at}
use Rattle.index_parts.proofs.Puts.{puts_stopped_after}
use Rattle.ext_small.specs.ResolveUndo.{path_stages}
use Rattle.ext_small.specs.declared.resolve_undo.ResolvePath.{ResolvePath}
use Rattle.ext_encode.specs.ResolveUndoImage.{path_bytes}
use Rattle.ext_encode.proofs.resolve_undo.put_paths.Goals as goal

pub returns-in_err-put_path : goal.returns-in_err-put_path
returns-in_err-put_path g c =
    let paths = c.args.paths.now in
    let i = c.loop-path.path-index in
    let f : ResolvePath → List ℕ = λ p. path_bytes (path_stages p) in
    let whole = ap (λ p. (flat_map f (take i paths) ++ f p) ++ flat_map f (drop (suc i) paths)) c.path-item.is
    ∙ sym (flat_map_at f paths i c.path-item.result c.loop-path-test.true) in
    puts_stopped_after c.from_residual.result _ c.from_residual.ensures.0 whole c.loop-path.invariant.so_far
    c.loop-path.invariant.loan c.in_err-put_path.ensures
