use Rattle.std.proofs.Common.{◌≡◌, None, ap, arith, false, length, map}
use Rattle.std.proofs.lemmas.List.{length-map}
use Rattle.bstr.specs.Owned.{bstring_bytes}
use Rattle.ext_untracked.specs.Blocks.{directory_value}
use Rattle.ext_untracked.specs.UntrackedEdits.{invalidated_directory}
use Rattle.ext_untracked.proofs.Invalidating.{change_beyond}
use Rattle.ext_untracked.proofs.Marking.{change_set}
use Rattle.ext_untracked.proofs.invalidation.unlist.Goals as goal

pub returns-then-place-len : goal.returns-then-place-len
returns-then-place-len c =
    let old = c.index_mut-directory.result.now in
    change_set invalidated_directory c.args.directories.now.items c.args.place old _ (omega (arith, c.if-place-len.true)) c.index_mut-directory.ensures.value
    (ap (λ l. record (directory_value old) { untracked = map bstring_bytes l; stat = None; check_only = false })
    c.clear.ensures.items)

pub returns-else-place-len : goal.returns-else-place-len
returns-else-place-len c =
    let ds = c.args.directories.now.items in
    let len : length (map directory_value ds) ≡ length ds = length-map ds directory_value in
    change_beyond invalidated_directory c.args.place (map directory_value ds) (omega (arith, c.if-place-len.false, len))
