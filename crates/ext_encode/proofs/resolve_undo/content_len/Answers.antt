use Rattle.std.proofs.Common.{ℕ, List, length, arith, sym, ap, ◌∙◌}
use Rattle.std.specs.List.{flat_map}
use Rattle.std.proofs.lemmas.List.{take_all}
use Rattle.index_parts.specs.Numbers.{within_32}
use Rattle.ext_small.specs.ResolveUndo.{path_stages}
use Rattle.ext_small.specs.declared.resolve_undo.ResolvePath.{ResolvePath}
use Rattle.ext_encode.specs.ResolveUndoImage.{path_bytes}
use Rattle.ext_bitmap.proofs.Lengths.{too_long_at, within_some}
use Rattle.ext_encode.proofs.WrittenPaths.{listed}
use Rattle.ext_encode.proofs.resolve_undo.content_len.Goals as goal

pub overflow_add-longer : goal.overflow_add-longer
overflow_add-longer c =
    omega (arith, c.from.ensures, c.loop-path.invariant.small, c.path_len.ensures.fits)

pub returns-then-longer-from : goal.returns-then-longer-from
returns-then-longer-from c =
    let paths = c.args.paths.now in
    let f : ResolvePath → List ℕ = λ p. path_bytes (path_stages p) in
    let there = ap (λ p. length (f p)) c.path-item.is in
    sym (ap (λ l. within_32 (length l)) (sym (listed paths))
    ∙ too_long_at f paths c.loop-path.path-index c.path-item.result c.loop-path-test.true (omega (
      arith,
      there,
      c.loop-path.invariant.so_far,
      c.path_len.ensures.len,
      c.from.ensures,
      c.from-in-loop-path.ensures,
      c.if-longer-from.true,
    )))

pub returns : goal.returns
returns c =
    let paths = c.args.paths.now in
    let f : ResolvePath → List ℕ = λ p. path_bytes (path_stages p) in
    let all = ap (λ l. length (flat_map f l)) (take_all c.loop-path.path-index paths c.loop-path-test.false) in
    let len = c.loop-path.invariant.so_far ∙ all ∙ ap length (listed paths) in
    sym (ap within_32 (sym len) ∙ within_some c.loop-path.len c.loop-path.invariant.small)
