use Rattle.std.proofs.Common.{◌∙◌, ◌++◌, ◌∷◌, [], sym, ap, take, length}
use Rattle.std.specs.Cmp.Lexicographic.{nat_list_eq_equiv, texts_ties}
use Rattle.std.specs.Ordering.{is_eq}
use Rattle.entry_edit.proofs.others.is_below.Goals as goal

pub returns : goal.returns
returns c =
    let prefix = c.args.folder.now ++ 47 ∷ [] in
    let front = take (length prefix) c.args.path.now in
    c.is_eq.ensures ∙ ap is_eq c.compare_pieces.ensures ∙ sym (texts_ties front prefix)
    ∙ nat_list_eq_equiv.symm front prefix
