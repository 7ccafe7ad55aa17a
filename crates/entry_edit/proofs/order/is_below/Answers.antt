use Rattle.std.proofs.Common.{◌∙◌, ap}
use Rattle.std.specs.Ordering.{is_eq}
use Rattle.entry_edit.specs.Changes.{change_path}
use Rattle.entry_edit.proofs.Orderings.{lies_is}
use Rattle.entry_edit.proofs.order.is_below.Goals as goal

pub returns : goal.returns
returns c =
    c.is_eq.ensures ∙ ap is_eq c.compare_pieces.ensures
    ∙ rw (c.path.ensures, c.path-2.ensures) (lies_is (change_path c.args.other.now) (change_path c.args.change.now))
