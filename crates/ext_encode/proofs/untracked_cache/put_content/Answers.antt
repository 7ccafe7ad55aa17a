use Rattle.std.proofs.Common.{map, refl, sym, length, ap, ◌∙◌, ◌++◌}
use Rattle.std.proofs.lemmas.List.{length-map}
use Rattle.index_parts.proofs.Puts.{puts_after, puts_is, puts_stopped}
use Rattle.index_parts.specs.Offset.{offset_bytes}
use Rattle.ext_untracked.specs.Blocks.{directory_value}
use Rattle.ext_untracked.specs.Untracked.{cache_of}
use Rattle.ext_encode.specs.UntrackedImage.{directories_bytes}
use Rattle.ext_encode.proofs.WrittenDirectories.{cache_grouped, cache_parts}
use Rattle.ext_bitmap.proofs.WrittenForms.{stopped_behind}
use Rattle.ext_encode.proofs.untracked_cache.put_content.Goals as goal

pub returns-in_err-put_preamble : goal.returns-in_err-put_preamble
returns-in_err-put_preamble g c =
    let u = cache_of c.args.cache.now in
    puts_stopped c.from_residual.result (offset_bytes (length u.directories) ++ directories_bytes u.directories)
    c.from_residual.ensures.0 (cache_parts c.args.kind u (length u.directories) u.directories refl refl)
    c.in_err-put_preamble.ensures

pub returns-in_err-write_var_int : goal.returns-in_err-write_var_int
returns-in_err-write_var_int g c =
    let u = cache_of c.args.cache.now in
    let count = sym (length-map c.directories.result.now directory_value) ∙ ap length c.directories.ensures in
    stopped_behind c.from_residual-in_err-write_var_int.result (directories_bytes u.directories)
    c.from_residual-in_err-write_var_int.ensures.0
    (cache_grouped c.args.kind u (length c.directories.result.now) u.directories count refl)
    c.in_ok-put_preamble.ensures c.in_err-write_var_int.ensures.put

pub returns : goal.returns
returns g c =
    let u = cache_of c.args.cache.now in
    let count = sym (length-map c.directories.result.now directory_value) ∙ ap length c.directories.ensures in
    puts_is c.put_directories.result
    (cache_parts c.args.kind u (length c.directories.result.now) (map directory_value c.directories-2.result.now) count
    c.directories-2.ensures)
    (puts_after c.put_directories.result c.in_ok-put_preamble.ensures
    (puts_after c.put_directories.result c.in_ok-write_var_int.ensures.put c.put_directories.ensures))
