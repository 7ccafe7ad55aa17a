use Rattle.std.proofs.Common.{◌≡◌, ◌++◌, take}
use Rattle.base_text.specs.Escaped.{escaped}
use Rattle.base_text.proofs.escape.append_escaped.Given as goal

abbrev pub invariant-loop-byte : goal.invariant-loop-byte
invariant-loop-byte l = l.text.items ≡ l.fn.text.items ++ escaped (take l.byte-index l.bytes)
