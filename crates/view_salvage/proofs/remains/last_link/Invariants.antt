use Rattle.std.proofs.Common.{◌≡◌, take}
use Rattle.view_salvage.specs.Remains.{last_link}
use Rattle.view_salvage.proofs.remains.last_link.Given as goal

abbrev pub invariant-loop-part : goal.invariant-loop-part
invariant-loop-part l = l.found ≡ last_link (take l.part-index l.parts)
