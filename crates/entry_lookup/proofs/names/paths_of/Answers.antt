use Rattle.std.proofs.Common.{arith, refl}
use Rattle.entry_lookup.proofs.NamedLists.{paths_more}
use Rattle.entry_lookup.proofs.names.paths_of.Goals as goal

pub loop-place-preserved : goal.loop-place-preserved
loop-place-preserved c = paths_more c.args.entries.now c.loop-place.place c.loop-place.names.items c.push.new.self.items
    _ (omega (arith, c.loop-place-test.true, c.len-place-end.ensures)) c.in_ok-push.ensures.items c.path-name.ensures
    refl c.loop-place.invariant
