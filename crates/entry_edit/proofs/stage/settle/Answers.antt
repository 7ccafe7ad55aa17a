use Rattle.entry_edit.proofs.Clears.{settled_whole}
use Rattle.entry_edit.proofs.stage.settle.Goals as goal

pub returns : goal.returns
returns c = settled_whole c.args.entry c.args.path.now c.args.storage.now c.args.entries.now c.settle_clear.new.storage
    c.settle_clear.new.entries c.settle_clear.result c.settle_clear.ensures
