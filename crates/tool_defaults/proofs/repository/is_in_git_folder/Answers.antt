use Rattle.std.proofs.Common.{rules, ◌≡◌, Bool, true, false, refl}
use Rattle.std.specs.Path.{path_buf_bytes}
use Rattle.tool_defaults.specs.KindAt.{of_head}
use Rattle.tool_defaults.proofs.Faults.{kind_fault}
use Rattle.tool_defaults.proofs.repository.is_in_git_folder.Goals as goal

never : (b : Bool) → (b ≡ true → ⊥) → b ≡ false
never true h = absurd (h refl)
never false h = refl

pub returns-clause-fault : goal.returns-clause-fault
returns-clause-fault g c =
    kind_fault (g.D.Folder.works c.args.folder.now) (g.D.Folder.known c.args.folder.now)
    (path_buf_bytes c.args.file.now) _ _ _
    (of_head (path_buf_bytes c.in_ok-head.head) c.in_ok-head.ensures
    (never (g.D.Folder.works c.args.folder.now) (λ w. search rules))) c.of.ensures
