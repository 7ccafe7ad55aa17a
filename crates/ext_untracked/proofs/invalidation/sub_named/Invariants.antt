use Rattle.std.proofs.Common.{◌≡◌, drop, map}
use Rattle.std.specs.List.{find}
use Rattle.ext_untracked.specs.Blocks.{directory_value}
use Rattle.ext_untracked.specs.UntrackedEdits.{is_directory_named, sub_named}
use Rattle.ext_untracked.proofs.invalidation.sub_named.Given as goal

-- the first that is named so is among those that are left
abbrev pub invariant-loop-sub : goal.invariant-loop-sub
invariant-loop-sub l =
    let ds = map directory_value l.directories in
    sub_named ds l.name l.place ≡ find (is_directory_named ds l.name) (drop l.sub-index l.sub-items)
