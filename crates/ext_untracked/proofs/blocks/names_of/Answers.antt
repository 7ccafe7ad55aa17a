use Rattle.std.proofs.Common.{◌∙◌, sym, map}
use Rattle.std.proofs.lemmas.List.{map-append}
use Rattle.bstr.specs.Owned.{bstring_bytes}
use Rattle.ext_untracked.proofs.BlockHeads.{ahead_next}
use Rattle.ext_untracked.proofs.blocks.names_of.Goals as goal

pub loop-i-preserved : goal.loop-i-preserved
loop-i-preserved c =
    rw (c.in_ok-push.ensures.items, map-append, c.in_ok-from_slice.ensures)
    (c.loop-i.invariant ∙ ahead_next (map bstring_bytes c.loop-i.names.items) c.args.count c.loop-i._i c.loop-i.rest.now
    c.in-Some.name.now c.in-Some.after.now c.loop-i-test.true (sym c.in-Some.ensures))
