use Rattle.std.proofs.Common.{◌≡◌, take}
use Rattle.std.specs.Bool.{OnTrue}
use Rattle.json.specs.Print.{escape}
use Rattle.view_json.proofs.values.stand_for_themselves.Given as goal

-- the bytes before this one are their own text
abbrev pub invariant-loop-byte : goal.invariant-loop-byte
invariant-loop-byte l = OnTrue l.all (escape (take l.byte-index l.bytes) ≡ take l.byte-index l.bytes)
