use Rattle.std.proofs.Common.{◌≡◌, take, length}
use Rattle.std.specs.Prelude.{not, ◌==◌}
use Rattle.std.specs.List.{list_all}
use Rattle.bstr.specs.Owned.{bstring_bytes}
use Rattle.ext_encode.proofs.untracked_cache.names_are_some.Given as goal

abbrev pub invariant-loop-name : goal.invariant-loop-name
invariant-loop-name l = l.all ≡ list_all (λ name. not (length (bstring_bytes name) == 0)) (take l.name-index l.names)
