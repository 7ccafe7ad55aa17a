use Rattle.std.proofs.Common.{◌≡◌, take}
use Rattle.std.specs.List.{list_all}
use Rattle.base_text.specs.Quoted.{is_usual}
use Rattle.base_text.proofs.quote.are_usual.Given as goal

abbrev pub invariant-loop-byte : goal.invariant-loop-byte
invariant-loop-byte l = l.all ≡ list_all is_usual (take l.byte-index l.path)
