use Rattle.std.proofs.Common.{◌∙◌, ℕ, ap, get_or, sym}
use Rattle.std.specs.Prelude.{◌==◌}
use Rattle.entry_fields.specs.Flags.{stage_number}
use Rattle.index_parts.specs.Mode.{directory_mode}
use Rattle.view_strict.proofs.Besides.{place_of_record}
use Rattle.view_strict.proofs.beside.first_beside.Goals as goal

pub returns : goal.returns
returns c d =
    let rs = c.args.entries.now in
    let is = c.entry-entry.ensures d in
    place_of_record rs c.is_sparse.result c.path-path.result.now c.stage_raw.result (get_or rs c.args.place d)
    c.first_in.result (c.is_sparse.ensures ∙ sym (ap (λ (n : ℕ). n == directory_mode) is.mode)) (c.path-path.ensures d)
    (c.stage_raw.ensures ∙ sym (ap stage_number is.flags)) c.first_in.ensures
