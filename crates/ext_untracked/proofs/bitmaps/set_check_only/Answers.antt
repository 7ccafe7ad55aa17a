use Rattle.std.proofs.Common.{refl}
use Rattle.ext_untracked.specs.BitmapSteps.{checked}
use Rattle.ext_untracked.proofs.Marking.{change_set}
use Rattle.ext_untracked.proofs.bitmaps.set_check_only.Goals as goal

pub returns-clause-value : goal.returns-clause-value
returns-clause-value c = change_set checked c.args.directories.now.items c.args.place c.index_mut-directory.result.now _
    c.requires.place c.index_mut-directory.ensures.value refl
