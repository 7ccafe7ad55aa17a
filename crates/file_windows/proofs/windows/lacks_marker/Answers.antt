use Rattle.std.proofs.lemmas.Bool.{leb-true}
use Rattle.file_windows.proofs.windows.lacks_marker.Goals as goal

pub returns-in-None : goal.returns-in-None
returns-in-None c = λ e kind before. c.in-None.ensures.none (leb-true _ _ e) kind before
