use Rattle.std.proofs.Common.{ap, Some}
use Rattle.ext_untracked.specs.Blocks.{directory_value}
use Rattle.ext_untracked.specs.BitmapSteps.{with_stat}
use Rattle.ext_untracked.proofs.Marking.{change_set}
use Rattle.ext_untracked.proofs.bitmaps.set_stat.Goals as goal

pub returns-clause-value : goal.returns-clause-value
returns-clause-value c = change_set (with_stat c.args.piece.now) c.args.directories.now.items c.args.place
    c.index_mut-directory.result.now _ c.requires.place c.index_mut-directory.ensures.value
    (ap (λ s. record (directory_value c.index_mut-directory.result.now) { stat = Some s }) c.cached_stat.ensures)
