use Rattle.view_layout.proofs.Covered.{drawn_all, filled, filled_by_groups}
use Rattle.view_layout.proofs.laws.bar_is_filled.Goals as goal

pub returns-clause-parts : goal.returns-clause-parts
returns-clause-parts c = filled

pub returns-clause-groups : goal.returns-clause-groups
returns-clause-groups c = filled_by_groups

pub returns-clause-len : goal.returns-clause-len
returns-clause-len c = drawn_all
