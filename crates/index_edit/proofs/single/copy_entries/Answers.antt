use Rattle.std.proofs.Common.{◌∙◌, ◌++◌, ap}
use Rattle.std.proofs.lemmas.List.Elements.{same_from_all_zip}
use Rattle.entry_edit.proofs.Passes.{same_entry}
use Rattle.index_edit.proofs.single.copy_entries.Goals as goal

pub returns : goal.returns
returns c =
    let more = c.in_ok-extend_from_slice.ensures.items in
    more.1 ∙ ap (λ l. l ++ more.0) c.in_ok-made.ensures.items ∙ same_from_all_zip _ _ more.0 more.2 same_entry
