use Rattle.std.proofs.Common.{[], refl}
use Rattle.index_extensions.specs.Walk.{unread}
use Rattle.ext_small.specs.Marks.{short, walked}
use Rattle.ext_small.proofs.marks.mark_bytes_of.Goals as goal

pub returns-in-None : goal.returns-in-None
returns-in-None c = ([], short c.in-None.ensures.none refl, record { table = refl; end = refl })

pub returns-in-Some : goal.returns-in-Some
returns-in-Some c =
    let parts = c.in-Some.ensures.all in
    let walk = c.mark_bytes_in.ensures in (
      walk.0,
      walked (unread c.in-Some.walk) parts.0 walk.1 parts.1 parts.2 walk.2,
      walk.3,
    )
