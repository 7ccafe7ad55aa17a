use Rattle.std.proofs.Common.{length, sym, ap, ◌∙◌}
use Rattle.bstr.specs.Owned.{bstring_bytes}
use Rattle.std.proofs.lemmas.List.{length-map}
use Rattle.index_parts.proofs.Puts.{puts_from, puts_is}
use Rattle.ext_untracked.specs.Blocks.{directory_value}
use Rattle.ext_encode.proofs.WrittenDirectories.{start_parts}
use Rattle.ext_encode.proofs.untracked_cache.put_start.Goals as goal

pub returns : goal.returns
returns g c =
    let d = directory_value c.args.directory.now in
    let names = sym (length-map c.untracked_entries.result.now bstring_bytes)
    ∙ ap length c.untracked_entries.ensures in
    let whole = start_parts d c.split_at.result.1.now c.split_at-2.result.1.now c.name.result.now _ _
    (c.split_at.ensures.back ∙ c.offset-start.ensures.bytes) (c.split_at-2.ensures.back ∙ c.offset-start-2.ensures.bytes)
    names (ap length c.sub_directories.ensures) c.name.ensures in
    puts_is c.put_each.result whole
    (puts_from c.put_each.result c.put_each.ensures.bytes c.put_each.ensures.has_failed c.put_each.ensures.loan)
