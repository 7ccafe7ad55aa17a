use Rattle.std.proofs.Common.{ap, Some}
use Rattle.ext_untracked.specs.Blocks.{directory_value}
use Rattle.ext_untracked.specs.BitmapSteps.{with_exclude}
use Rattle.ext_untracked.proofs.Marking.{change_set}
use Rattle.ext_untracked.proofs.bitmaps.set_exclude.Goals as goal

pub returns-clause-value : goal.returns-clause-value
returns-clause-value c = change_set (with_exclude c.args.kind c.args.piece.now) c.args.directories.now.items
    c.args.place c.index_mut-directory.result.now _ c.requires.place c.index_mut-directory.ensures.value
    (ap (λ i. record (directory_value c.index_mut-directory.result.now) { exclude = Some i }) c.of_kind.ensures)
