use Rattle.std.proofs.Common.{◌≡◌, ◌==◌, false}
use Rattle.std.specs.List.{AllWithin}
use Rattle.index_parts.specs.Mode.{directory_mode}
use Rattle.entry_edit.proofs.wholes.has_whole.Given as goal

abbrev pub invariant-loop-place : goal.invariant-loop-place
invariant-loop-place l =
    AllWithin (λ r. (r.mode == directory_mode) ≡ false) l.entries l.initial.place l.place
