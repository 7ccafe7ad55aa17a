use Rattle.std.proofs.Common.{rules, ◌≡◌, None}
use Rattle.file_windows.proofs.windows.is_marked.Goals as goal

pub returns-in_default : goal.returns-in_default
returns-in_default c = λ e bytes h.
    let none : c.args.plan.offset ≡ None = search rules in
    rw (h.ends, none) (c.lacks_marker.ensures e c.args.plan.kind h.gone)
