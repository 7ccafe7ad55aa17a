use Rattle.std.proofs.Common.{refl}
use Rattle.ext_untracked.specs.BitmapSteps.{with_subs}
use Rattle.ext_untracked.proofs.Marking.{change_set}
use Rattle.ext_untracked.proofs.blocks.set_subs.Goals as goal

pub returns : goal.returns
returns c = change_set (with_subs c.args.subs.items) c.args.directories.now.items c.args.place
    c.index_mut-directory.result.now _ c.requires c.index_mut-directory.ensures.value refl
