use Rattle.std.proofs.Common.{take, drop, suc, ℕ, List, ◌∙◌, sym, ap, ◌++◌}
use Rattle.ext_untracked.specs.Blocks.{directory_value}
use Rattle.ext_encode.specs.UntrackedImage.{untracked_directory_bytes}
use Rattle.ext_untracked.specs.declared.Directory.{Directory}
use Rattle.std.specs.List.{flat_map}
use Rattle.index_parts.proofs.Puts.{puts_stopped_after}
use Rattle.index_parts.proofs.Taking.{flat_map_at}
use Rattle.ext_encode.proofs.untracked_cache.put_blocks.Goals as goal

pub returns-in_err-put_directory : goal.returns-in_err-put_directory
returns-in_err-put_directory g c =
    let directories = c.args.directories.now in
    let i = c.loop-directory.directory-index in
    let f : Directory → List ℕ = λ d. untracked_directory_bytes (directory_value d) in
    let whole = ap (λ d. (flat_map f (take i directories) ++ f d) ++ flat_map f (drop (suc i) directories)) c.directory-item.is
    ∙ sym (flat_map_at f directories i c.directory-item.result c.loop-directory-test.true) in
    puts_stopped_after c.from_residual.result _ c.from_residual.ensures.0 whole c.loop-directory.invariant.so_far
    c.loop-directory.invariant.loan c.in_err-put_directory.ensures
