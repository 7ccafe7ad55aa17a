use Rattle.std.proofs.Common.{List, ◌∙◌, ap, length, sym}
use Rattle.std.proofs.lemmas.List.{length-map}
use Rattle.ext_untracked.specs.Blocks.{DirectoryValue, directory_value}
use Rattle.ext_untracked.specs.Untracked.{cache_of}
use Rattle.view_events.specs.Untracked.{cache_begin}
use Rattle.view_events.proofs.Steps.{end_all}
use Rattle.view_events.proofs.untracked.append_begin.Goals as goal

pub returns : goal.returns
unfolding cache_begin
returns g c =
    let many = sym (length-map c.directories-count.result.now directory_value)
    ∙ ap (λ (ds : List DirectoryValue). length ds) c.directories-count.ensures in
    (end_all g.P.Printer.spell c.put_all.result c.put_all.new.self.bytes.items _
    (cache_begin (cache_of c.args.cache.now))
    (rw (
      many,
      c.from.ensures,
      c.dir_flags.ensures,
      c.identifier.ensures,
      c.exclude_filename_per_dir.ensures,
      c.info_exclude.ensures,
      c.excludes_file.ensures,
    ) at c.put_all.ensures)).is
