use Rattle.std.proofs.Common.{sym}
use Rattle.base_search.proofs.Prefixes.{prefix_in_pieces}
use Rattle.base_search.proofs.prefix.compare_pieces.Goals as goal

pub returns : goal.returns
returns c =
    let first = c.split_at_most.ensures.first in
    let rest = c.split_at_most.ensures.rest in
    let tail = c.compare_prefix.ensures in
    let one = c.cmp.ensures in
    let whole = c.then.ensures in
    sym (rw prefix_in_pieces (cc))
