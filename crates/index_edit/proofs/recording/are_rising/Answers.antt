use Rattle.std.proofs.Common.{rules, List, map, subst}
use Rattle.ext_small.specs.ResolveUndo.{path_stages}
use Rattle.ext_small.specs.declared.resolve_undo.ResolvePath.{ResolvePath}
use Rattle.index_edit.specs.Rising.{ArePathsRising}
use Rattle.index_edit.proofs.Searches.{told_rising}
use Rattle.index_edit.proofs.recording.are_rising.Goals as goal

pub returns-in-Some : goal.returns-in-Some
returns-in-Some c = λ t. rw c.in-Some.is (subst (λ (l : List ResolvePath). ArePathsRising (map path_stages l))
    c.deref.ensures.value (told_rising path_stages _ _ (λ a r f' k. search rules) c.deref.result.now c.is_sorted_by.result
    c.is_sorted_by.ensures.cases t))
