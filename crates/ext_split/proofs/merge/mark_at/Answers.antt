use Rattle.std.proofs.Common.{refl}
use Rattle.ext_split.proofs.Merging.{mark_write, marked_flags}
use Rattle.ext_split.proofs.merge.mark_at.Goals as goal

pub returns : goal.returns
returns c = λ seen old m. mark_write seen c.args.place old c.args.entries.now.items c.index_mut-entry.result.now _
    c.requires c.index_mut-entry.ensures.value (marked_flags _ _ (c.insert.ensures tt)) refl m
