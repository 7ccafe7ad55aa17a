use Rattle.std.proofs.Common.{length, sym, ap, ◌∙◌}
use Rattle.bstr.specs.Owned.{bstring_bytes}
use Rattle.std.proofs.lemmas.List.{length-map}
use Rattle.ext_untracked.specs.Blocks.{directory_value}
use Rattle.ext_encode.proofs.WrittenSizes.{start_len}
use Rattle.ext_encode.proofs.untracked_sizes.start_len.Goals as goal

pub returns-clause-len : goal.returns-clause-len
returns-clause-len c =
    start_len (directory_value c.args.directory.now) (length c.untracked_entries.result.now)
    (length c.sub_directories.result.now) c.number_len.result c.number_len-2.result (length c.name.result.now)
    c.number_len.ensures.len c.number_len-2.ensures.len
    (sym (length-map c.untracked_entries.result.now bstring_bytes) ∙ ap length c.untracked_entries.ensures)
    (ap length c.sub_directories.ensures) (ap length c.name.ensures)
