use Rattle.std.proofs.Common.{◌∙◌, ◌++◌, ap}
use Rattle.std.proofs.lemmas.List.Elements.{same_from_all_zip}
use Rattle.entry_edit.proofs.Passes.{same_entry}
use Rattle.entry_edit.proofs.apply.pass.Goals as goal

pub returns-clause-copied : goal.returns-clause-copied
returns-clause-copied c =
    let more = c.in_ok-extend_from_slice.ensures.items in
    more.1 ∙ ap (λ l. c.args.done.now.items ++ l) (same_from_all_zip _ _ more.0 more.2 same_entry ∙ c.split_at.ensures.front)
