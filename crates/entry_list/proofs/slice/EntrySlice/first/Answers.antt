use Rattle.std.proofs.Common.{take, sym, ap, ◌∙◌}
use Rattle.std.specs.List.{take-map}
use Rattle.entry_list.specs.Record.{record_in}
use Rattle.entry_list.proofs.slice.EntrySlice.first.Goals as goal

pub returns : goal.returns
returns c = sym (take-map (record_in c.self.inside.storage.now) c.args.len c.self.inside.entries.now)
    ∙ ap (take c.args.len) c.self.view_is
