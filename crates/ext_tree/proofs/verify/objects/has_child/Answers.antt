use Rattle.std.proofs.Common.{rules, ◌∙◌}
use Rattle.ext_tree.proofs.Children.{searched}
use Rattle.ext_tree.proofs.verify.objects.has_child.Goals as goal

pub returns : goal.returns
returns c = c.is_ok.ensures.value ∙ searched _ _ c.args.name.now c.args.children.now c.binary_search_by.result
    c.requires.rise c.binary_search_by.ensures.bound c.binary_search_by.ensures.position (λ a o f' k. search rules)
