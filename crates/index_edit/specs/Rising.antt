-- The order of the paths of resolve-undo: by unsigned bytes, each before the next (gitformat-index, "Resolve undo").
use Rattle.std.specs.Prelude.{◌≡◌, List}
use Rattle.std.specs.List.{AllPairs}
use Rattle.std.specs.declared.cmp.Ordering.TheVariants.{Less}
use Rattle.entry_list.specs.Order.{path_cmp}
use Rattle.ext_small.specs.ResolveUndo.{PathStages}

-- the paths strictly increase
abbrev pub ArePathsRising : List PathStages → Type 0
ArePathsRising ps = AllPairs (λ p q. path_cmp p.name q.name ≡ Less) ps
