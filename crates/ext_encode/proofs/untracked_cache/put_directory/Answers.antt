use Rattle.std.proofs.Common.{refl}
use Rattle.index_parts.proofs.Puts.{puts_after, puts_is, puts_stopped}
use Rattle.ext_untracked.specs.Blocks.{directory_value}
use Rattle.ext_encode.specs.UntrackedImage.{names_bytes}
use Rattle.ext_encode.proofs.WrittenDirectories.{directory_parts, directory_whole}
use Rattle.ext_encode.proofs.untracked_cache.put_directory.Goals as goal

pub returns-in_err-put_start : goal.returns-in_err-put_start
returns-in_err-put_start g c =
    let d = directory_value c.args.directory.now in
    puts_stopped c.from_residual.result (names_bytes d.untracked) c.from_residual.ensures.0
    (directory_parts d d.untracked refl) c.in_err-put_start.ensures

pub returns : goal.returns
returns g c =
    let d = directory_value c.args.directory.now in
    puts_is c.put_names.result
    (directory_whole d c.untracked_entries.result.now c.untracked_entries.ensures)
    (puts_after c.put_names.result c.in_ok-put_start.ensures c.put_names.ensures)
