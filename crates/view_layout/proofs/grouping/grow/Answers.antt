use Rattle.std.proofs.Common.{List, [], ◌∷◌, ◌++◌, ◌∙◌, ap, sym}
use Rattle.view_layout.specs.declared.part.Part.{Part}
use Rattle.view_layout.proofs.Grouped.{last_apart, last_stretched}
use Rattle.view_layout.proofs.grouping.grow.Goals as goal

pub returns-then-go_together : goal.returns-then-go_together
returns-then-go_together c =
    ap (λ (p : Part). c.args.groups.now.items ++ (p ∷ [])) c.extend_part.ensures
    ∙ last_stretched c.args.groups.now.items c.args.last c.args.next (sym c.go_together.ensures ∙ c.if-go_together.true)

pub returns : goal.returns
returns c =
    ap (λ (l : List Part). l ++ (c.args.next ∷ [])) c.in_ok-push.ensures.items
    ∙ last_apart c.args.groups.now.items c.args.last c.args.next (sym c.go_together.ensures ∙ c.if-go_together.false)
